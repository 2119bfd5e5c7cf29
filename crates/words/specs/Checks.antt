-- How a list of checks is written: what is answered unless this holds, then the later checks.
use Rattle.std.specs.Prelude.{Bool, true, false, ℕ, eqb, Result, Ok, Err}

infixr 20 ◌unless◌then◌
module _ {A : Type 0} where
  -- the first of two where a test holds, else the second
  abbrev pub pick : Bool → A → A → A
  pick true x y = x
  pick false x y = y

  -- the answer of the first check that fails: `answer` unless this one holds, then what the later ones give
  abbrev pub ◌unless◌then◌ : A → Bool → A → A
  ◌unless◌then◌ answer holds later = pick holds later answer

-- no check has failed
abbrev pub fine : ℕ
fine = 0

-- what a list of checks lets through: this where no check has failed, else the number of the first that has
abbrev pub if_fine : {A : Type 0} → ℕ → A → Result A ℕ
if_fine number x = pick (eqb number fine) (Ok x) (Err number)
