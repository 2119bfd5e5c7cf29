-- Lists of checks, once over what they answer: an answer that is not a check's own is that of the later ones, and the check was passed. Assumes nothing.
use mathlib.Core.Path.{◌≡◌, refl}
use mathlib.Core.Bool.{Bool, true, false}
use Prim.Native.Nat.{ℕ, ◌<◌}
use native.Mathlib.Omega.{arith}
use Rattle.words.specs.Checks.{◌unless◌then◌}

module _ {A : Type 0} where
  pub passed_on : (t : Bool) (own later answer : A) → (own ≡ answer → ⊥) → (own unless t then later) ≡ answer → (t ≡ true) × (later ≡ answer)
  passed_on true own later answer n e = (refl, e)
  passed_on false own later answer n e = absurd (n e)

-- of numbers: where none has failed
pub passed : (t : Bool) (n later : ℕ) → 0 < n → (n unless t then later) ≡ 0 → (t ≡ true) × (later ≡ 0)
passed t n later l e = passed_on t n later 0 (λ z. omega arith) e
