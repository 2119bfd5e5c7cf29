-- A blob and the bytes of its entry determine each other: the parts lie side by side, and each is what its check says. Assumes nothing.
use Rattle.std.specs.Prelude.{Ok}
use mathlib.Core.Path.{◌≡◌, refl, sym, ap, ◌∙◌}
use Prim.Native.Nat.{ℕ, ◌+◌, ◌≤◌}
use native.Mathlib.Omega.{arith}
use mathlib.Core.List.{List, ◌++◌, append_assoc}
use lib.ListN.{length, take, drop, replicate, length-append, length-take, length-drop, take-append-drop}
use lib.Seq.{take_at, drop_at, drop-drop, get_or-drop}
use Rattle.words.specs.Le.{Bytes, le_num, spell}
use Rattle.words.proofs.Numbers.{length_spell, num_spell, at_num, at_lt, spell_at, take_bytes, part_in}
use Rattle.words.proofs.Zeros.{zeros_part, zeros_from}
use Rattle.blobs.specs.Blobs.{Blob, blob, Sound, magic, are_digits, spell_entry, head_of}
use Rattle.blobs.proofs.Heads.{Passed, passed}
use Rattle.blobs.proofs.Written.{magic_spelled, length_entry}

-- ## From a blob to what is read

-- a part and what is behind it
module _ (s : List ℕ) (at n : ℕ) (a r : List ℕ) (e : drop at s ≡ a ++ r) (h : length a ≡ n) where
  this : take n (drop at s) ≡ a
  this = rw e (take_at a r n h)

  behind : (k : ℕ) → k ≡ at + n → drop k s ≡ r
  behind k q = rw (q, ← drop-drop, e) (drop_at a r n h)

-- the blob that is read where an entry of so many bytes of data stands
abbrev pub blob_of : List ℕ → ℕ → Blob
blob_of l n = blob (take 64 (drop 14 l)) (take n (drop 110 l))

pub record Stood (l : List ℕ) (b : Blob) (z : List ℕ) : Type 0 where
  pub good : Passed l (length b.«data»)
  pub blob : blob_of l (length b.«data») ≡ b
  pub rest : drop (110 + length b.«data») l ≡ z
  pub long : length l ≡ 110 + length b.«data» + length z

same_blob : {a b c d : List ℕ} → a ≡ c → b ≡ d → blob a b ≡ blob c d
same_blob p q = rw (p, q)

pub stood : (l : List ℕ) (b : Blob) (z : List ℕ) → Sound b → l ≡ spell_entry b ++ z → Stood l b z
unfolding spell_entry le_num
stood l b z ok d =
    let n = length b.«data» in
    let r110 = b.«data» ++ z in
    let r78 = replicate 32 0 ++ r110 in
    let r14 = b.digits ++ r78 in
    let r6 = spell 8 n ++ r14 in
    let r4 = spell 2 1 ++ r6 in
    let d0 : drop 0 l ≡ magic ++ r4 = d ∙ simp append_assoc in
    let d4 : drop 4 l ≡ r4 = behind l 0 4 magic r4 d0 refl 4 refl in
    let d6 : drop 6 l ≡ r6 = behind l 4 2 (spell 2 1) r6 d4 (length_spell 2 1) 6 refl in
    let d14 : drop 14 l ≡ r14 = behind l 6 8 (spell 8 n) r14 d6 (length_spell 8 n) 14 refl in
    let d78 : drop 78 l ≡ r78 = behind l 14 64 b.digits r78 d14 ok.size 78 refl in
    let d110 : drop 110 l ≡ r110 = behind l 78 32 (replicate 32 0) r110 d78 refl 110 refl in
    let t4 : take 4 (drop 0 l) ≡ magic = this l 0 4 magic r4 d0 refl in
    let t2 : take 2 (drop 4 l) ≡ spell 2 1 = this l 4 2 (spell 2 1) r6 d4 (length_spell 2 1) in
    let t8 : take 8 (drop 6 l) ≡ spell 8 n = this l 6 8 (spell 8 n) r14 d6 (length_spell 8 n) in
    let t64 : take 64 (drop 14 l) ≡ b.digits = this l 14 64 b.digits r78 d14 ok.size in
    let m : length l ≡ 110 + n + length z = ap length d ∙ length-append (spell_entry b) z ∙ ap (λ (k : ℕ). k + length z) (length_entry b ok.size) in
    record {
      good = record {
        fits = omega arith;
        magic_there = at_num 4 l 0 ∙ ap le_num t4;
        version = at_num 2 l 4 ∙ ap le_num t2 ∙ num_spell 2 1 (omega arith);
        digits = ap are_digits t64 ∙ ok.hex;
        zeros = zeros_from 32 l 78 (this l 78 32 (replicate 32 0) r110 d78 refl);
        told = at_num 8 l 6 ∙ ap le_num t8 ∙ num_spell 8 n ok.told;
      };
      blob = same_blob t64 (this l 110 n b.«data» z d110 refl);
      rest = behind l 110 n b.«data» z d110 refl (110 + n) refl;
      long = m;
    }

-- ## From what is read to a blob

module _ (l : List ℕ) (n : ℕ) (b : Bytes l) (e : head_of l ≡ Ok n) (within : 110 + n ≤ length l) where
  ok : Passed l n
  ok = passed l n e

  pub length_data : length (blob_of l n).«data» ≡ n
  length_data = simp (length-take, length-drop) (omega arith)

  pub sound : Sound (blob_of l n)
  sound = record {
    size = simp (length-take, length-drop) (omega arith);
    hex = ok.digits;
    bytes = take_bytes n (drop 110 l) (λ i. rw get_or-drop (b (110 + i)));
    told = rw (length_data, ← ok.told) (at_lt 8 l 6 b);
  }

  -- the entry's bytes, and what is behind them
  pub spelled : spell_entry (blob_of l n) ≡ take (110 + n) l
  unfolding spell_entry
  spelled =
      part_in 0 110 n l
      (part_in 0 78 32 l
      (part_in 0 14 64 l
      (part_in 0 6 8 l
      (part_in 0 4 2 l
      (sym magic_spelled ∙ ap (spell 4) (sym ok.magic_there) ∙ spell_at 4 l 0 (omega arith) b)
      (ap (spell 2) (sym ok.version) ∙ spell_at 2 l 4 (omega arith) b))
      (ap (spell 8) (length_data ∙ sym ok.told) ∙ spell_at 8 l 6 (omega arith) b))
      refl)
      (sym (zeros_part 32 l 78 (omega arith) ok.zeros)))
      refl

  pub split : spell_entry (blob_of l n) ++ drop (110 + n) l ≡ l
  split = rw spelled (take-append-drop (110 + n) l)
