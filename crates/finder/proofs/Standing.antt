-- The rows of a shard stand in its bytes, one after the other: each is read again at its position, because rows and their bytes determine each other.
-- Assumes nothing.
use mathlib.Core.Path.{◌≡◌, sym, ap, ◌∙◌}
use mathlib.Core.List.{List, [], ◌∷◌, ◌++◌, append_assoc}
use Prim.Native.Nat.{ℕ, ◌+◌, ◌*◌}
use native.Mathlib.Omega.{arith}
use lib.ListN.{length, take, drop, length-append, length-drop}
use lib.Seq.{take_at, drop_at, drop-drop}
use Rattle.words.specs.Record.{Whole, words_at, spell_words}
use Rattle.words.specs.Le.{Bytes}
use Rattle.words.specs.declared.Tag.{Tag}
use Rattle.words.proofs.Parts.{words_there}
use Rattle.words.proofs.Records.{words_spell, length_words}
use Rattle.rules.specs.Rules.{next_of, start}
use Rattle.rules.specs.declared.Place.{Place}
use Rattle.rules.specs.declared.Record.{Record}
use Rattle.layout.specs.Layout.{Each, Row, Shard, joined, if_any, spell_rows, spell_foot, xorb_offset, footer_offset, bytes_of, rows_of, placed}
use Rattle.layout.specs.Blocks.{Stand}
use Rattle.layout.specs.Claim.{Spells}
use Rattle.layout.proofs.Rows.{Goes, stepped}
use Rattle.layout.proofs.ShardForth.{shard_go}

-- behind the first of them
pub stand_behind : (bytes : List ℕ) (at : ℕ) (xs ys : List Row) → Stand bytes at (xs ++ ys) → Stand bytes (at + 48 * length xs) ys
stand_behind bytes at [] ys h = let e : at + 48 * 0 ≡ at = omega arith in rw e h
stand_behind bytes at (x ∷ xs) ys (w, l, h) =
    let e : at + 48 * length (x ∷ xs) ≡ at + 48 + 48 * length xs = omega arith in
    rw e (stand_behind bytes (at + 48) xs ys h)

-- rows from a position on are the first of them, and the others behind those
pub placed_then : (at : ℕ) (xs ys : List Row) (behind : List Record) → placed at (xs ++ ys) ++ behind ≡ placed at xs ++ (placed (at + 48 * length xs) ys ++ behind)
placed_then at [] ys behind = let e : at ≡ at + 48 * 0 = omega arith in ap (λ (p : ℕ). placed p ys ++ behind) e
placed_then at (x ∷ xs) ys behind =
    let e : at + 48 + 48 * length xs ≡ at + 48 * length (x ∷ xs) = omega arith in
    let ih : placed (at + 48) (xs ++ ys) ++ behind ≡ placed (at + 48) xs ++ (placed (at + 48 * length (x ∷ xs)) ys ++ behind) = placed_then (at + 48) xs ys behind
    ∙ ap (λ (p : ℕ). placed (at + 48) xs ++ (placed p ys ++ behind)) e in
    rw ih

-- ## The rows of a shard

abbrev AllWhole : List Row → Type 0
AllWhole rs = Each (λ r. Whole r.words) rs

whole_rows : (four : Tag) (p q : Place) (rs : List Row) → Goes four p rs q → AllWhole rs
whole_rows four p q [] g = tt
whole_rows four p q (r ∷ rs) g = let (h, t) = stepped four p q r rs g in (h.whole, whole_rows four (next_of p r.words) q rs t)

stand_rows : (bytes : List ℕ) (at : ℕ) (rs : List Row) (rest : List ℕ) → drop at bytes ≡ spell_rows rs ++ rest → AllWhole rs → Stand bytes at rs
stand_rows bytes at [] rest e h = tt
stand_rows bytes at (r ∷ rs) rest e (h, hs) =
    let w : List ℕ = spell_words r.words in
    let n : length w ≡ 48 = length_words r.words in
    let f : drop at bytes ≡ w ++ (spell_rows rs ++ rest) = e ∙ append_assoc w (spell_rows rs) rest in
    let l : length (drop at bytes) ≡ length w + length (spell_rows rs ++ rest) = ap length f ∙ length-append w (spell_rows rs ++ rest) in (
      sym (words_there 48 bytes at 0 at (omega arith) (omega arith)) ∙ ap (λ (x : List ℕ). words_at (take 48 x) 0) f ∙ ap (λ (x : List ℕ). words_at x 0) (take_at w (spell_rows rs ++ rest) 48 n) ∙ words_spell r.words h,
      omega (arith, length-drop at bytes),
      stand_rows bytes (at + 48) rs rest (sym (drop-drop 48 at bytes) ∙ ap (drop 48) f ∙ drop_at w (spell_rows rs ++ rest) 48 n) hs,
    )

pub stand_shard : (tag bytes : List ℕ) (s : Shard) → Bytes tag → Spells tag s bytes → Stand bytes 0 (rows_of tag s)
unfolding bytes_of
stand_shard tag bytes s b x =
    let o = shard_go tag s b x.sound in
    stand_rows bytes 0 (rows_of tag s) (joined (spell_foot (xorb_offset s) (footer_offset s)) (if_any s.footer)) (sym x.spelled) (whole_rows _ start o.last (rows_of tag s) o.goes)
