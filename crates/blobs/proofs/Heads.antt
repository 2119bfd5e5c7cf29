-- What the 110 bytes of an entry say: of a head without fault what each check says, because the checks are a list. All but the last look within
-- the first 110 bytes, so these alone decide. Assumes nothing.
use Rattle.std.specs.Prelude.{Result, Ok, Err}
use mathlib.Core.Path.{◌≡◌, refl, sym, ap, ◌∙◌}
use Prim.Native.Nat.{ℕ, ◌+◌, ◌-◌, ◌≤◌, ◌<◌, min}
use native.Mathlib.Omega.{arith}
use mathlib.Core.Bool.{Bool, true, false, ◌&&◌}
use mathlib.Core.List.{List, [], ◌∷◌, ◌++◌}
use lib.ListN.{length, take, drop, length-append, length-take, length-drop, take-append-drop}
use lib.Seq.{take_all, take-append-le, drop-append-le}
use lib.Dec.{eqb, leb}
use borrow.Author.Tests.{le-leb, lt-leb, eq-eqb, leb-true, leb-false, eqb-true}
use Rattle.words.specs.Le.{le_at, le_num, zeros_at}
use Rattle.words.proofs.Zeros.{and_assoc, and_true}
use Rattle.words.proofs.Checks.{passed_on}
use Rattle.words.proofs.Parts.{le_front, zeros_front}
use Rattle.blobs.specs.Blobs.{is_digit, are_digits, head_of, fitting, whole_of}

-- ## Digits: no byte, and one byte more tested

pub digits_none : true ≡ are_digits []
unfolding are_digits
digits_none = refl

pub digits_push : (s : List ℕ) (b : ℕ) → are_digits (s ++ (b ∷ [])) ≡ (are_digits s && is_digit b)
unfolding are_digits
digits_push [] b = and_true (is_digit b)
digits_push (x ∷ s) b = rw (digits_push s b) (and_assoc (is_digit x) (are_digits s) (is_digit b))

-- ## The checks

pub short : (l : List ℕ) → length l < 110 → Err 24 ≡ head_of l
unfolding head_of
short l h = rw (lt-leb 110 (length l) h)

-- no check fails
pub record Passed (l : List ℕ) (n : ℕ) : Type 0 where
  pub fits : 110 ≤ length l
  pub magic_there : le_at 4 l 0 ≡ 1112036173
  pub version : le_at 2 l 4 ≡ 1
  pub digits : are_digits (take 64 (drop 14 l)) ≡ true
  pub zeros : zeros_at 32 l 78 ≡ true
  pub told : le_at 8 l 6 ≡ n

no_fault : (k n : ℕ) → Err k ≡ Ok n → ⊥
no_fault k n e = cc

pub passed : (l : List ℕ) (n : ℕ) → head_of l ≡ Ok n → Passed l n
unfolding head_of le_num
passed l n p =
    let (e1, z1) = passed_on (leb 110 (length l)) _ _ _ (no_fault 24 n) p in
    let (e2, z2) = passed_on (eqb (le_at 4 l 0) 1112036173) _ _ _ (no_fault 25 n) z1 in
    let (e3, z3) = passed_on (eqb (le_at 2 l 4) 1) _ _ _ (no_fault 26 n) z2 in
    let (e4, z4) = passed_on (are_digits (take 64 (drop 14 l))) _ _ _ (no_fault 27 n) z3 in
    let (e5, z5) = passed_on (zeros_at 32 l 78) _ _ _ (no_fault 28 n) z4 in
    record { fits = leb-true _ _ e1; magic_there = eqb-true _ _ e2; version = eqb-true _ _ e3; digits = e4; zeros = e5; told = cc }

pub all_passed : (l : List ℕ) (n : ℕ) → Passed l n → head_of l ≡ Ok n
unfolding head_of le_num
all_passed l n p =
    rw (le-leb 110 (length l) p.fits, eq-eqb (le_at 4 l 0) 1112036173 p.magic_there, eq-eqb (le_at 2 l 4) 1 p.version, p.digits, p.zeros) (ap Ok p.told)

-- ## The last check

pub record Whole (l : List ℕ) (n : ℕ) : Type 0 where
  pub said : head_of l ≡ Ok n
  pub within : 110 + n ≤ length l

module _ (l : List ℕ) where
  by_head : {h : Result ℕ ℕ} → head_of l ≡ h → whole_of l ≡ fitting (length l) h
  unfolding whole_of
  by_head e = rw e

  pub still_faulty : {k : ℕ} → head_of l ≡ Err k → Err k ≡ whole_of l
  still_faulty e = sym (by_head e)

  module _ {n : ℕ} (e : head_of l ≡ Ok n) where
    pub head_fits : 110 ≤ length l
    head_fits = (passed l n e).fits

    pub fits : n ≤ length l - 110 → Ok n ≡ whole_of l
    fits h = let f = head_fits in sym (by_head e ∙ rw (le-leb (110 + n) (length l) (omega arith)))

pub is_whole : (l : List ℕ) (n : ℕ) → Whole l n → whole_of l ≡ Ok n
is_whole l n w = let h = w.within in sym (fits l w.said (omega arith))

pub whole : (l : List ℕ) (n : ℕ) → whole_of l ≡ Ok n → Whole l n
unfolding whole_of
whole l n e = go (head_of l) refl e
  where
    go : (h : Result ℕ ℕ) → head_of l ≡ h → fitting (length l) h ≡ Ok n → Whole l n
    go (Err k) q f = absurd (no_fault k n f)
    go (Ok m) q f =
        let (e1, z1) = passed_on (leb (110 + m) (length l)) _ _ _ (no_fault 29 n) f in
        let s : m ≡ n = cc in
        let h : 110 + m ≤ length l = leb-true _ _ e1 in
        record { said = q ∙ ap Ok s; within = omega arith }

-- ## Only the first 110 bytes count

pub head_front : (bs z : List ℕ) → 110 ≤ length bs → head_of (bs ++ z) ≡ head_of bs
unfolding head_of
head_front bs z h =
    let n : length (bs ++ z) ≡ length bs + length z = length-append bs z in
    let m : length (drop 14 bs) ≡ length bs - 14 = length-drop 14 bs in
    let d : take 64 (drop 14 (bs ++ z)) ≡ take 64 (drop 14 bs) = ap (take 64) (drop-append-le 14 bs z (omega arith)) ∙ take-append-le 64 (drop 14 bs) z (omega arith) in
    rw (
      le-leb 110 (length bs) h,
      le-leb 110 (length (bs ++ z)) (omega arith),
      le_front 4 bs z 0 (omega arith),
      le_front 2 bs z 4 (omega arith),
      d,
      zeros_front 32 bs z 78 (omega arith),
      le_front 8 bs z 6 (omega arith),
    )

pub head_alone : (l : List ℕ) → head_of (take 110 l) ≡ head_of l
head_alone l = go (leb 110 (length l)) refl
  where
    go : (t : Bool) → leb 110 (length l) ≡ t → head_of (take 110 l) ≡ head_of l
    go true q =
        let n : length (take 110 l) ≡ min 110 (length l) = length-take 110 l in
        let h : 110 ≤ length l = leb-true _ _ q in
        sym (head_front (take 110 l) (drop 110 l) (omega arith)) ∙ ap head_of (take-append-drop 110 l)
    go false q = let h : length l < 110 = leb-false _ _ q in ap head_of (take_all 110 l (omega arith))
