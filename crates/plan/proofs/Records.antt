-- The records that bytes hold, one behind the other: the first, and those of the bytes behind it. Where segments stand as rows, the records there are theirs.
-- Assumes nothing.
use mathlib.Core.Path.{◌≡◌, refl, ap, ◌∙◌}
use mathlib.Core.List.{List, [], ◌∷◌, ◌++◌, map}
use Prim.Native.Nat.{ℕ, zero, suc, ◌+◌, ◌-◌, ◌*◌, ◌/◌, ◌≤◌, ◌<◌}
use native.Mathlib.Omega.{arith}
use lib.ListN.{length, take, drop}
use lib.Seq.{drop-drop}
use Rattle.std.proofs.lemmas.List.{drop-take, take_rest, length-take-le, length-drop, length-map}
use Rattle.words.specs.Record.{words_at}
use Rattle.words.specs.declared.Words.{Words}
use Rattle.words.proofs.Parts.{words_there}
use Rattle.layout.specs.Layout.{Segment, Row, segment_row}
use Rattle.layout.specs.Blocks.{Stand, segment_of}
use Rattle.plan.specs.Walk.{records_of}

-- as many as the bytes hold
abbrev pub records : List ℕ → List Words
records bytes = records_of (length bytes / 48) bytes

pub none_held : (bytes : List ℕ) → length bytes < 48 → records bytes ≡ []
unfolding records_of
none_held bytes h = let e : length bytes / 48 ≡ 0 = omega arith in rw e

pub first_held : (bytes : List ℕ) → 48 ≤ length bytes → records bytes ≡ words_at bytes 0 ∷ records (take (length bytes - 48) (drop 48 bytes))
unfolding records_of
first_held bytes h =
    let l : length (drop 48 bytes) + 48 ≡ length bytes = omega (arith, length-drop 48 bytes) in
    let e : length bytes / 48 ≡ suc (length (drop 48 bytes) / 48) = omega arith in
    rw (e, take_rest bytes 48)

-- ## Segments that stand

module _ (bytes : List ℕ) where
  within : (at : ℕ) (ss : List Segment) (others : List Row) → at ≤ length bytes → Stand bytes at (map segment_row ss ++ others) → at + 48 * length ss ≤ length bytes
  within at [] others r h = omega arith
  within at (s ∷ ss) others r (w, l, h) = omega (arith, within (at + 48) ss others l h)

  stand_so : (at : ℕ) (ss : List Segment) (others : List Row) → Stand bytes at (map segment_row ss ++ others) → map segment_of (records_of (length ss) (take (48 * length ss) (drop at bytes))) ≡ ss
  unfolding records_of
  stand_so at [] others h = refl
  stand_so at (s ∷ ss) others (w, l, h) =
      let m : 48 * suc (length ss) ≡ 48 + 48 * length ss = omega arith in
      let bs : List ℕ = take (48 + 48 * length ss) (drop at bytes) in
      let e : words_at bs 0 ≡ words_at bytes at = words_there (48 + 48 * length ss) bytes at 0 at (omega arith) (omega arith) in
      let q : drop 48 bs ≡ take (48 * length ss) (drop (at + 48) bytes) = drop-take 48 (48 * length ss) (drop at bytes) ∙ ap (take (48 * length ss)) (drop-drop 48 at bytes) in
      rw m (ap (λ (v : Words). segment_of v ∷ map segment_of (records_of (length ss) (drop 48 bs))) (e ∙ w)
      ∙ ap (λ (l : List ℕ). s ∷ map segment_of (records_of (length ss) l)) q
      ∙ ap (λ (l : List Segment). s ∷ l) (stand_so (at + 48) ss others h))

  module _ (at n : ℕ) (ss : List Segment) (others : List Row) (r : at ≤ length bytes) (count : n ≡ length ss) (h : Stand bytes at (map segment_row ss ++ others)) where
    pub stand_within : at + 48 * n ≤ length bytes
    stand_within = omega (arith, within at ss others r h)

    -- the part of the bytes that they fill holds their records
    pub stand_read : (part : List ℕ) → part ≡ take (at + 48 * n - at) (drop at bytes) → map segment_of (records part) ≡ ss
    stand_read part e =
        let k : at + 48 * n - at ≡ 48 * length ss = omega arith in
        let f : part ≡ take (48 * length ss) (drop at bytes) = rw (← k) e in
        let l : length part ≡ 48 * length ss = ap length f ∙ length-take-le (48 * length ss) (drop at bytes) (omega (arith, stand_within, length-drop at bytes)) in
        let q : length part / 48 ≡ length ss = omega arith in
        rw (q, f) (stand_so at ss others h)

-- ## How many

length_records : (n : ℕ) (bytes : List ℕ) → length (records_of n bytes) ≡ n
unfolding records_of
length_records zero bytes = refl
length_records (suc n) bytes = omega (arith, length_records n (drop 48 bytes))

pub length_left : (bytes : List ℕ) → length (map segment_of (records bytes)) ≡ length bytes / 48
length_left bytes = length-map (records bytes) segment_of ∙ length_records (length bytes / 48) bytes
