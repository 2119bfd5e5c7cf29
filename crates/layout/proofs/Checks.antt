-- Lists of checks: all pass exactly if each test holds, because the first that fails gives its own number, which is not 0. Assumes nothing.
use mathlib.Core.Path.{◌≡◌, refl}
use mathlib.Core.Bool.{Bool, true, ◌&&◌, ◌||◌}
use Prim.Native.Nat.{ℕ, zero, suc}
use native.Mathlib.Omega.{arith}
use lib.Dec.{eqb, ltb}
use borrow.Author.Tests.{eqb-true, lt-ltb, eq-eqb}
use Rattle.words.specs.Checks.{◌unless◌then◌, fine}
use Rattle.words.specs.Record.{tail_zero}
use Rattle.words.specs.declared.Words.{Words}
use Rattle.words.proofs.Zeros.{and_left, and_right}

-- checks that hold
pub pass3 : (a b c : Bool) (x y z : ℕ) → a ≡ true → b ≡ true → c ≡ true → (x unless a then y unless b then z unless c then fine) ≡ 0
pass3 a b c x y z e f g = rw (e, f, g)

-- the test for a tail of zeros
pub tail_zero_lem : (w : Words) → tail_zero w ≡ true → (w.a ≡ 0) × (w.b ≡ 0) × (w.c ≡ 0) × (w.d ≡ 0)
tail_zero_lem w e = (
  eqb-true _ _ (and_left _ _ (and_left _ _ (and_left _ _ e))),
  eqb-true _ _ (and_right (eqb w.a 0) _ (and_left _ _ (and_left _ _ e))),
  eqb-true _ _ (and_right (eqb w.a 0 && eqb w.b 0) _ (and_left _ _ e)),
  eqb-true _ _ (and_right (eqb w.a 0 && eqb w.b 0 && eqb w.c 0) _ e),
)

-- the test of the last chunk, of n + 1 left
pub last_or : (n x y : ℕ) → (n ≡ 0 → x ≡ y) → (ltb 1 (suc n) || eqb x y) ≡ true
last_or zero x y h = eq-eqb x y (h refl)
last_or (suc n) x y h = rw (lt-ltb 1 (suc (suc n)) (omega arith))

pub or_last : (n x y : ℕ) → (ltb 1 (suc n) || eqb x y) ≡ true → n ≡ 0 → x ≡ y
or_last zero x y e h = eqb-true x y e
or_last (suc n) x y e h = absurd (omega arith)

-- the test of a xorb head: n chunks of b bytes
pub none_or : (n b : ℕ) → (n ≡ 0 → b ≡ 0) → (ltb 0 n || eqb b 0) ≡ true
none_or zero b h = eq-eqb b 0 (h refl)
none_or (suc n) b h = rw (lt-ltb 0 (suc n) (omega arith))

pub or_none : (n b : ℕ) → (ltb 0 n || eqb b 0) ≡ true → n ≡ 0 → b ≡ 0
or_none zero b e h = eqb-true b 0 e
or_none (suc n) b e h = absurd (omega arith)
