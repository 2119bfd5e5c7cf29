-- One segment more: passed, it is counted, and what is behind it gives the answer; a false one is the answer, because comparing tells which of the three
-- a segment is. Assumes nothing.
use Rattle.std.specs.Prelude.{Result, Err, Option, Some, None}
use Rattle.words.specs.declared.Refusal.{Refusal}
use mathlib.Core.Path.{◌≡◌, refl, sym, ap, ◌∙◌}
use mathlib.Core.Bool.{Bool, true, false, not}
use mathlib.Core.Option as math
use mathlib.Core.Option.{none, some}
use mathlib.Core.List.{List, ◌∷◌}
use Prim.Native.Nat.{ℕ, ◌+◌}
use native.Mathlib.Omega.{arith}
use Rattle.layout.specs.Layout.{Segment, XorbBlock, has}
use Rattle.audit.specs.Audit.{first_block, is_listed, is_false_of, is_false, PlacedSegment, first_false, listed_of, unlisted_of, false_at, answer_to, audit_in}
use Rattle.audit.specs.declared.Counts.{Counts}
use Rattle.audit.specs.Walk.{compared_with, compared_in}

-- ## What comparing tells

abbrev false_by : Option Bool → Bool
false_by None = false
false_by (Some said) = not said

abbrev listed_by : Option Bool → Bool
listed_by None = false
listed_by (Some said) = true

module _ (xs : List XorbBlock) (s : Segment) (c : Option Bool) (e : c ≡ compared_in xs s) where
  tells_false : is_false xs s ≡ false_by c
  unfolding compared_in
  tells_false = go (first_block s.xorb xs) ∙ ap false_by (sym e)
    where
      go : (o : math.Option XorbBlock) → is_false_of o s ≡ false_by (compared_with o s)
      go none = refl
      go (some x) = refl

  tells_listed : is_listed xs s ≡ listed_by c
  unfolding compared_in
  tells_listed = go (first_block s.xorb xs) ∙ ap listed_by (sym e)
    where
      go : (o : math.Option XorbBlock) → has o ≡ listed_by (compared_with o s)
      go none = refl
      go (some x) = refl

-- ## One segment more

-- the answer with so many of either kind before these
abbrev pub audit_from : List XorbBlock → ℕ → ℕ → List PlacedSegment → Result Counts Refusal
audit_from xs l u ps = answer_to (first_false xs ps) (record { listed = l + listed_of xs ps; unlisted = u + unlisted_of xs ps })

pub none_before : (xs : List XorbBlock) (ps : List PlacedSegment) → audit_from xs 0 0 ps ≡ audit_in xs ps
unfolding audit_in
none_before xs ps =
    let m : 0 + listed_of xs ps ≡ listed_of xs ps = omega arith in
    let n : 0 + unlisted_of xs ps ≡ unlisted_of xs ps = omega arith in
    rw (m, n)

module _ (xs : List XorbBlock) (l u : ℕ) (p : PlacedSegment) (ps : List PlacedSegment) where
  pub pass_unlisted : None ≡ compared_in xs p.segment → audit_from xs l u (p ∷ ps) ≡ audit_from xs l (u + 1) ps
  unfolding first_false
  pass_unlisted e =
      let m : l + (0 + listed_of xs ps) ≡ l + listed_of xs ps = omega arith in
      let n : u + (1 + unlisted_of xs ps) ≡ u + 1 + unlisted_of xs ps = omega arith in
      rw (tells_false xs p.segment _ e, tells_listed xs p.segment _ e, m, n)

  pub pass_true : Some true ≡ compared_in xs p.segment → audit_from xs l u (p ∷ ps) ≡ audit_from xs (l + 1) u ps
  unfolding first_false
  pass_true e =
      let m : l + (1 + listed_of xs ps) ≡ l + 1 + listed_of xs ps = omega arith in
      let n : u + (0 + unlisted_of xs ps) ≡ u + unlisted_of xs ps = omega arith in
      rw (tells_false xs p.segment _ e, tells_listed xs p.segment _ e, m, n)

  pub stop_false : Some false ≡ compared_in xs p.segment → audit_from xs l u (p ∷ ps) ≡ Err (false_at p.at)
  unfolding first_false
  stop_false e = rw (tells_false xs p.segment _ e)
