-- What a plan comes to: the shard's refusal, or for a file that is there 18, 15 or its rows, each exactly where the request says so, because its tests are those of natural numbers.
-- Assumes nothing.
use Rattle.std.specs.Prelude.{Err}
use mathlib.Core.Path.{◌≡◌, refl, sym, ap, ◌∙◌}
use mathlib.Core.Bool.{Bool, true, false}
use mathlib.Core.Logic.{◌⊎◌, inl, inr}
use mathlib.Core.Option.{Option, some}
use mathlib.Core.List.{List, []}
use Prim.Native.Nat.{ℕ, ◌≤◌, ◌<◌}
use native.Mathlib.Omega.{arith}
use lib.Dec.{leb, ltb}
use lib.ListN.{length}
use borrow.Author.Tests.{ltb-true, ltb-false, leb-true, leb-false}
use Rattle.words.specs.declared.Refusal.{Refusal}
use Rattle.layout.specs.Layout.{Segment}
use Rattle.layout.specs.Scan.{found_in, IsAccepted}
use Rattle.layout.proofs.Answers.{if_accepted_lem, if_refused}
use Rattle.plan.specs.Plan.{Plan, fetch, refused, refused_with, rows_for, file_bytes, segments_in, plan_for, plan_of}
use Rattle.plan.specs.Claims.{InFile}
use Rattle.plan.specs.declared.Row.{Row}

-- ## By the shard

module _ (tag bytes : List ℕ) (file a b room : ℕ) where
  pub plan_refused : (r : Refusal) → (found_in tag bytes).verdict ≡ Err r → plan_of tag bytes file a b room ≡ refused r
  unfolding plan_of
  plan_refused r e = if_refused refused (found_in tag bytes).verdict (λ s. plan_for (segments_in file (found_in tag bytes).records) a b room) r e

  pub plan_found : (o : Option (List Segment)) → IsAccepted (found_in tag bytes).verdict → segments_in file (found_in tag bytes).records ≡ o → plan_of tag bytes file a b room ≡ plan_for o a b room
  unfolding plan_of
  plan_found o y e = if_accepted_lem refused (found_in tag bytes).verdict _ y ∙ ap (λ (segments : Option (List Segment)). plan_for segments a b room) e

-- ## By a file that is there

-- what tells plans apart
abbrev number_of : Plan → ℕ
number_of (fetch rs) = 0
number_of (refused r) = r.number

abbrev rows_in : Plan → List Row
rows_in (fetch rs) = rs
rows_in (refused r) = []

module _ (ss : List Segment) (a b room : ℕ) where
  abbrev plan : Plan
  plan = plan_for (some ss) a b room

  abbrev wanted : List Row
  wanted = rows_for a b ss

  -- the three ways it goes
  data Goes : Type 0 where
    out : (b ≤ a ⊎ file_bytes ss < b) → plan ≡ refused_with 18 → Goes
    short : InFile ss a b → room < length wanted → plan ≡ refused_with 15 → Goes
    fits : InFile ss a b → length wanted ≤ room → plan ≡ fetch wanted → Goes

  goes : Goes
  goes = go (ltb a b) (leb b (file_bytes ss)) (leb (length wanted) room) refl refl refl
    where
      in_file : ltb a b ≡ true → leb b (file_bytes ss) ≡ true → InFile ss a b
      in_file u v = record { range = ltb-true a b u; end = leb-true b (file_bytes ss) v }

      go : (x y z : Bool) → ltb a b ≡ x → leb b (file_bytes ss) ≡ y → leb (length wanted) room ≡ z → Goes
      go false y z u v w = out (inl (ltb-false a b u)) (rw u)
      go true false z u v w = out (inr (leb-false b (file_bytes ss) v)) (rw (u, v))
      go true true false u v w = short (in_file u v) (leb-false (length wanted) room w) (rw (u, v, w))
      go true true true u v w = fits (in_file u v) (leb-true (length wanted) room w) (rw (u, v, w))

  -- it is in the file or out of it, not both
  not_both : InFile ss a b → (b ≤ a ⊎ file_bytes ss < b) → ⊥
  not_both i (inl h) = omega (arith, i.range)
  not_both i (inr h) = omega (arith, i.end)

  -- two numbers, one plan
  told_apart : {A : Type 0} (n : ℕ) (p : Plan) → number_of plan ≡ n → plan ≡ p → (n ≡ number_of p → ⊥) → A
  told_apart n p e f h = absurd (h (sym e ∙ ap number_of f))

  pub out_to : plan ≡ refused_with 18 → b ≤ a ⊎ file_bytes ss < b
  out_to e = go goes
    where
      go : Goes → b ≤ a ⊎ file_bytes ss < b
      go (out o q) = o
      go (short i l q) = told_apart 18 (refused_with 15) (ap number_of e) q (λ h. omega arith)
      go (fits i l q) = told_apart 18 (fetch wanted) (ap number_of e) q (λ h. omega arith)

  pub out_from : (b ≤ a ⊎ file_bytes ss < b) → plan ≡ refused_with 18
  out_from o = go goes
    where
      go : Goes → plan ≡ refused_with 18
      go (out p q) = q
      go (short i l q) = absurd (not_both i o)
      go (fits i l q) = absurd (not_both i o)

  pub short_to : plan ≡ refused_with 15 → InFile ss a b × (room < length wanted)
  short_to e = go goes
    where
      go : Goes → InFile ss a b × (room < length wanted)
      go (out o q) = told_apart 15 (refused_with 18) (ap number_of e) q (λ h. omega arith)
      go (short i l q) = (i, l)
      go (fits i l q) = told_apart 15 (fetch wanted) (ap number_of e) q (λ h. omega arith)

  pub short_from : InFile ss a b × (room < length wanted) → plan ≡ refused_with 15
  short_from (j, r) = go goes
    where
      go : Goes → plan ≡ refused_with 15
      go (out o q) = absurd (not_both j o)
      go (short i l q) = q
      go (fits i l q) = absurd (omega arith)

  pub rows_from_lem : InFile ss a b → length wanted ≤ room → plan ≡ fetch wanted
  rows_from_lem j r = go goes
    where
      go : Goes → plan ≡ fetch wanted
      go (out o q) = absurd (not_both j o)
      go (short i l q) = absurd (omega arith)
      go (fits i l q) = q

  pub rows_to : (rs : List Row) → plan ≡ fetch rs → InFile ss a b × (length rs ≤ room) × (rs ≡ wanted)
  rows_to rs e = go goes
    where
      go : Goes → InFile ss a b × (length rs ≤ room) × (rs ≡ wanted)
      go (out o q) = told_apart 0 (refused_with 18) (ap number_of e) q (λ h. omega arith)
      go (short i l q) = told_apart 0 (refused_with 15) (ap number_of e) q (λ h. omega arith)
      go (fits i l q) = let r : rs ≡ wanted = ap rows_in (sym e ∙ q) in (i, rw r l, r)
