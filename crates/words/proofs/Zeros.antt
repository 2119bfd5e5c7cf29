-- The test for zero bytes: it is the test of each byte of the part, and bytes that pass it are zeros. Assumes nothing.
use mathlib.Core.Path.{◌≡◌, refl, sym, ap, ◌∙◌}
use Prim.Native.Nat.{ℕ, zero, suc, ◌+◌, ◌≤◌, ◌<◌}
use native.Mathlib.Nat.{add-zero}
use native.Mathlib.Numerals.{add-one}
use native.Mathlib.Omega.{arith}
use mathlib.Core.Bool.{Bool, true, false, ◌&&◌}
use mathlib.Core.List.{List}
use lib.ListN.{length, get_or, take, drop, replicate, get_or-replicate}
use lib.Dec.{eqb}
use lib.Seq.{drop-cons, get_or-take, get_or-drop}
use borrow.Author.Tests.{eqb-true}
use Rattle.std.specs.List.{list_all}
use Rattle.words.specs.Le.{zeros_at}

-- ## Two tests

pub and_assoc : (a b c : Bool) → (a && (b && c)) ≡ ((a && b) && c)
and_assoc true b c = refl
and_assoc false b c = refl

pub and_true : (a : Bool) → (a && true) ≡ a
and_true true = refl
and_true false = refl

pub and_left : (a b : Bool) → (a && b) ≡ true → a ≡ true
and_left true b e = refl
and_left false b e = e

pub and_right : (a b : Bool) → (a && b) ≡ true → b ≡ true
and_right true b e = e
and_right false true e = refl
and_right false false e = e

-- ## Zeros

-- bytes that pass the test for zeros are zeros
pub zeros_part : (n : ℕ) (s : List ℕ) (at : ℕ) → at + n ≤ length s → zeros_at n s at ≡ true → take n (drop at s) ≡ replicate n 0
unfolding zeros_at
zeros_part zero s at h e = refl
zeros_part (suc n) s at h e =
    let hl : at < length s = omega arith in
    let e0 : get_or s at 0 ≡ 0 = eqb-true _ _ (and_left _ _ e) in
    let ih : take n (drop (at + 1) s) ≡ replicate n 0 = zeros_part n s (at + 1) (omega arith) (and_right (eqb (get_or s at 0) 0) _ e) in
    rw (drop-cons s at 0 hl, e0, ← add-one, ih)

-- and zeros pass the test
zeros_each : (n : ℕ) (s : List ℕ) (at : ℕ) → ((i : ℕ) → i < n → get_or s (at + i) 0 ≡ 0) → zeros_at n s at ≡ true
unfolding zeros_at
zeros_each zero s at f = refl
zeros_each (suc n) s at f =
    let e : get_or s at 0 ≡ 0 = rw add-zero at (f 0 (omega arith)) in
    rw (e, zeros_each n s (at + 1) (λ i h. let q : at + 1 + i ≡ at + suc i = omega arith in rw q (f (suc i) (omega arith))))

pub zeros_from : (n : ℕ) (s : List ℕ) (at : ℕ) → take n (drop at s) ≡ replicate n 0 → zeros_at n s at ≡ true
zeros_from n s at e =
    zeros_each n s at (λ i h. sym (get_or-take n (drop at s) i 0 h ∙ get_or-drop at s i 0) ∙ ap (λ (l : List ℕ). get_or l i 0) e ∙ get_or-replicate n i 0 0 h)

-- all bytes of a part are 0 exactly if the test for zeros says so
pub zeros_all : (n : ℕ) (s : List ℕ) (at : ℕ) → at + n ≤ length s → list_all (λ b. eqb b 0) (take n (drop at s)) ≡ zeros_at n s at
unfolding zeros_at
zeros_all zero s at h = refl
zeros_all (suc n) s at h =
    let hl : at < length s = omega arith in
    rw (drop-cons s at 0 hl, ← add-one, zeros_all n s (at + 1) (omega arith))
