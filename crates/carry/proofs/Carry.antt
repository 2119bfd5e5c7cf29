-- The carry: bytes of a piece go behind those that it has, and a record is judged by its own bytes and not by what stands behind them,
-- because each of its numbers lies inside them. Assumes nothing.
use mathlib.Core.Path.{◌≡◌, refl, sym, ap, ◌∙◌}
use mathlib.Core.Bool.{Bool, true, false}
use mathlib.Core.List.{List, ◌++◌}
use Prim.Native.Nat.{ℕ, zero, suc, ◌+◌, ◌-◌, ◌≤◌, ◌<◌}
use native.Mathlib.Nat.{sub-zero, zero-sub, suc-sub-suc}
use native.Mathlib.Omega.{arith}
use lib.ListN.{length, take, drop, replicate, length-append, length-take}
use lib.Seq.{paste, take_all, take-append_seam, drop-append-add, length-take-le}
use Rattle.words.specs.Checks.{pick}
use Rattle.words.specs.Record.{words_at, footer_at}
use Rattle.words.specs.declared.Tag.{Tag}
use Rattle.words.proofs.Parts.{words_front, footer_front}
use Rattle.rules.specs.Rules.{footer_due, size_of, fault_of, footer_fault, words_in, fault_in}
use Rattle.rules.specs.declared.Place.{Place}
use Rattle.carry.proofs.Sizes.{size_foot, size_row}

-- ## Bytes put into the carry

pub drop_zeros : (n m : ℕ) → drop n (replicate {A = ℕ} m 0) ≡ replicate (m - n) 0
drop_zeros zero m = rw sub-zero
drop_zeros (suc n) zero = rw zero-sub
drop_zeros (suc n) (suc m) = rw suc-sub-suc (drop_zeros n m)

-- n bytes of a piece behind the bytes h; the rest stays zero
pub put_carry : (h piece : List ℕ) (n : ℕ) → n ≤ length piece → length h + n ≤ 200
    → paste (h ++ replicate (200 - length h) 0) (length h) piece n ≡ (h ++ take n piece) ++ replicate (200 - length (h ++ take n piece)) 0
put_carry h piece n l k =
    let e : 200 - length h - n ≡ 200 - length (h ++ take n piece) = simp (length-append, length-take) (omega arith) in
    rw (take-append_seam, drop-append-add, drop_zeros, e)

-- a front part of a piece, put behind h bytes
pub paste_part : (carry piece : List ℕ) (h n : ℕ) → n ≤ length piece → paste carry h (take n piece) (length (take n piece)) ≡ paste carry h piece n
paste_part carry piece h n l =
    let e : length (take n piece) ≡ n = length-take-le n piece l in
    rw (e, take_all n (take n piece) (omega (arith, e)))

-- where nothing is carried, a record can be read straight from the part behind the carry
pub words_pasted : (carry part : List ℕ) (h : ℕ) → h ≡ 0 → 48 ≤ length part → words_at part 0 ≡ words_at (paste carry h part (length part)) 0
words_pasted carry part h z l = rw (z, take_all (length part) part (omega arith)) (sym (words_front part (drop (0 + length part) carry) 0 l))

-- ## A record is judged by its own bytes

module _ (p : Place) (bs z : List ℕ) (l : 0 < size_of p) (e : length bs ≡ size_of p) where
  pub words_own : words_in p (bs ++ z) ≡ words_in p bs
  words_own = go (footer_due p.due) refl
    where
      go : (t : Bool) → footer_due p.due ≡ t → pick t (words_at (bs ++ z) 72) (words_at (bs ++ z) 0) ≡ pick t (words_at bs 72) (words_at bs 0)
      go true q = words_front bs z 72 (omega (arith, e, size_foot p.due l q))
      go false q = words_front bs z 0 (omega (arith, e, size_row p.due l q))

  pub fault_own : (four : Tag) → fault_in four p (bs ++ z) ≡ fault_in four p bs
  fault_own four = go (footer_due p.due) refl
    where
      go : (t : Bool) → footer_due p.due ≡ t
          → pick t (footer_fault p (footer_at (bs ++ z) 0)) (fault_of four p (words_at (bs ++ z) 0)) ≡ pick t (footer_fault p (footer_at bs 0)) (fault_of four p (words_at bs 0))
      go true q = ap (footer_fault p) (footer_front bs z (omega (arith, e, size_foot p.due l q)))
      go false q = ap (fault_of four p) (words_front bs z 0 (omega (arith, e, size_row p.due l q)))

-- so where nothing is carried, what stands in the carry makes no difference
module _ (p : Place) (l : 0 < size_of p) (piece : List ℕ) (m : size_of p ≤ length piece) where
  size : length (take (size_of p) piece) ≡ size_of p
  size = length-take-le (size_of p) piece m

  pub words_any : (c c' : List ℕ) → words_in p (paste c 0 piece (size_of p)) ≡ words_in p (paste c' 0 piece (size_of p))
  words_any c c' = words_own p (take (size_of p) piece) _ l size ∙ sym (words_own p (take (size_of p) piece) _ l size)

  pub fault_any : (four : Tag) (c c' : List ℕ) → fault_in four p (paste c 0 piece (size_of p)) ≡ fault_in four p (paste c' 0 piece (size_of p))
  fault_any four c c' = fault_own p (take (size_of p) piece) _ l size four ∙ sym (fault_own p (take (size_of p) piece) _ l size four)
