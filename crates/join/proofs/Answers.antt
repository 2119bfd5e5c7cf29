-- What the code answers and writes is what is to be answered and written: by the verdicts at the two last places, and then by the four checks, because a
-- verdict is the last place's and an accepted shard is parted at its xorb offset. Assumes nothing.
use Rattle.std.specs.Prelude.{Ok, Err}
use mathlib.Core.Path.{◌≡◌, refl, sym, ap, ◌∙◌, subst}
use mathlib.Core.List.{List, ◌++◌}
use Prim.Native.Nat.{ℕ, ◌+◌, ◌≤◌}
use native.Mathlib.Omega.{arith}
use lib.ListN.{length, drop}
use Rattle.words.specs.Le.{Bytes, puts}
use Rattle.words.proofs.Stores.{puts_eq}
use Rattle.rules.specs.Verdicts.{summary_of, verdict_by, verdict_at}
use Rattle.rules.specs.declared.Due.{Due}
use Rattle.rules.specs.declared.Due.TheVariants as due
use Rattle.rules.specs.declared.Due.TheVariants.{Header, FileHead, Segment, Verification, Metadata, XorbHead, Chunk, Footer, End}
use Rattle.rules.specs.declared.Place.{Place}
use Rattle.words.specs.declared.Refusal.{Refusal}
use Rattle.rules.specs.declared.Summary.{Summary}
use Rattle.rules.specs.Verdicts.{Verdict}
use Rattle.layout.specs.Reach.{last_place}
use Rattle.layout.specs.Scan.{found_in, IsAccepted}
use Rattle.layout.proofs.Last.{tag_size, tree_of}
use Rattle.whole.proofs.Turns.{verdict_said}
use Rattle.join.specs.Join.{Parted, joined_at, joined_bytes, joined_length, answer_for, join_of, buffer_of}
use Rattle.join.proofs.Checks.{all_passed, answer_wrote}
use Rattle.join.proofs.Copies.{length_joined}
use Rattle.join.proofs.Spelled.{parted}

-- ## Two accepted shards

module _ (s t : Summary) (first second : List ℕ) (x y : ℕ) (buffer : List ℕ) (size : ℕ) (yes : Ok size ≡ answer_for s t first second (length buffer)) where
  told : (joined_length first second ≡ size) × (joined_length first second ≤ length buffer)
  unfolding answer_for
  told = let (z, e) = answer_wrote _ _ size (sym yes) in (e, (all_passed _ _ _ _ z).fits)

  pub room_there : joined_length first second ≤ length buffer
  room_there = told.1

  wrote : Parted first x → Parted second y → (out : List ℕ) → out ≡ puts buffer 0 (joined_at first x second y) → out ≡ joined_at first x second y ++ drop size buffer
  wrote p q out h =
      let n : length (joined_at first x second y) ≡ joined_length first second = length_joined first second x y p q in
      let k : 0 + length (joined_at first x second y) ≡ size = omega (arith, n, told.0) in
      h ∙ puts_eq (joined_at first x second y) buffer 0 (omega (arith, n, room_there)) ∙ ap (λ (i : ℕ). joined_at first x second y ++ drop i buffer) k

-- ## Any two

-- what is said of an accepted shard is what its last place holds
abbrev Own : Place → Verdict → Type 0
Own p (Ok s) = s ≡ summary_of p
Own p (Err r) = Unit {0}

own : (d : Due) (p : Place) → Own p (verdict_by d p)
own Header p = tt
own FileHead p = tt
own (Segment left) p = tt
own (Verification left) p = tt
own Metadata p = tt
own XorbHead p = tt
own (Chunk left sum total) p = tt
own Footer p = tt
own End p = refl
own (due.Refused number) p = tt

summary_is : (p : Place) (s : Summary) → verdict_at p ≡ Ok s → s ≡ summary_of p
unfolding verdict_at
summary_is p s e = subst (Own p) e (own p.due p)

module _ (tag bytes : List ℕ) (p : Place) (v : Verdict) (last : p ≡ last_place tag bytes) (said : v ≡ verdict_at p) (s : Summary) (yes : v ≡ Ok s) where
  pub found_is : (found_in tag bytes).verdict ≡ Ok (summary_of p)
  found_is = sym (verdict_said tag bytes p v last said) ∙ yes ∙ ap Ok (summary_is p s (sym said ∙ yes))

  pub parted_from : Bytes tag → Bytes bytes → Parted bytes p.offset.0
  parted_from t b =
      let a : IsAccepted (found_in tag bytes).verdict = subst IsAccepted (sym found_is) tt in
      let (tree, o) = tree_of tag (tag_size tag bytes a) t bytes b a in
      rw last (parted tag bytes tree o)

-- what is known of an accepted one
abbrev pub IsRead : List ℕ → List ℕ → Place → List ℕ → Type 0
IsRead tag shard p bytes = ((found_in tag shard).verdict ≡ Ok (summary_of p)) × (p ≡ last_place tag shard) × (bytes ≡ shard)

module _ (tag first second buffer : List ℕ) where
  pub first_refused : (r : Refusal) → (found_in tag first).verdict ≡ Err r → (Err r ≡ join_of tag first second (length buffer)) × (buffer ≡ buffer_of tag first second buffer)
  unfolding join_of buffer_of
  first_refused r e = rw e (refl, refl)

  module _ (p : Place) (one : List ℕ) (is : IsRead tag first p one) where
    pub second_refused : (r : Refusal) → (found_in tag second).verdict ≡ Err r → (Err r ≡ join_of tag first second (length buffer)) × (buffer ≡ buffer_of tag first second buffer)
    unfolding join_of buffer_of
    second_refused r e = rw (is.0, e) (refl, refl)

    module _ (q : Place) (two : List ℕ) (is₂ : IsRead tag second q two) where
      answer_is : answer_for (summary_of p) (summary_of q) one two (length buffer) ≡ join_of tag first second (length buffer)
      unfolding join_of
      answer_is = let (a, b, c) = is in let (d, e, f) = is₂ in rw (a, d, c, f)

      bytes_are : joined_at one p.offset.0 two q.offset.0 ≡ joined_bytes tag first second
      unfolding joined_bytes
      bytes_are = let (a, b, c) = is in let (d, e, f) = is₂ in rw (b, c, e, f)

      pub both_refused : (r : Refusal) → Err r ≡ answer_for (summary_of p) (summary_of q) one two (length buffer)
          → (Err r ≡ join_of tag first second (length buffer)) × (buffer ≡ buffer_of tag first second buffer)
      unfolding buffer_of
      both_refused r e = rw (← (e ∙ answer_is)) (refl, refl)

      pub both_joined : Parted one p.offset.0 → Parted two q.offset.0 → (size : ℕ) (out : List ℕ) → Ok size ≡ answer_for (summary_of p) (summary_of q) one two (length buffer)
          → out ≡ puts buffer 0 (joined_at one p.offset.0 two q.offset.0)
          → (Ok size ≡ join_of tag first second (length buffer)) × (out ≡ buffer_of tag first second buffer)
      unfolding buffer_of
      both_joined a b size out e h =
          rw (← (e ∙ answer_is))
          (refl, wrote (summary_of p) (summary_of q) one two p.offset.0 q.offset.0 buffer size e a b out h ∙ ap (λ (l : List ℕ). l ++ drop size buffer) bytes_are)
