-- What is answered by a verdict: to an accepted shard what the question asks for, to a refused one its refusal, because a verdict is one or the other.
-- Assumes nothing.
use Rattle.std.specs.Prelude.{Ok, Err}
use mathlib.Core.Path.{◌≡◌, refl, ap}
use Rattle.words.specs.declared.Refusal.{Refusal}
use Rattle.rules.specs.declared.Summary.{Summary}
use Rattle.rules.specs.Verdicts.{Verdict}
use Rattle.layout.specs.Scan.{IsAccepted, if_accepted}

module _ {A : Type 0} (refused : Refusal → A) where
  pub if_accepted_lem : (v : Verdict) (a : A) → IsAccepted v → if_accepted refused v (λ s. a) ≡ a
  if_accepted_lem (Ok s) a h = refl
  if_accepted_lem (Err r) a h = absurd h

  pub if_refused : (v : Verdict) (answer : Summary → A) (r : Refusal) → v ≡ Err r → if_accepted refused v answer ≡ refused r
  if_refused v answer r e = ap (λ (w : Verdict). if_accepted refused w answer) e

  -- what is said of no refusal is said of the answer to an accepted shard
  pub was_accepted : (P : A → Type 0) (v : Verdict) (answer : Summary → A) → ((r : Refusal) → P (refused r) → ⊥) → P (if_accepted refused v answer) → IsAccepted v
  was_accepted P (Ok s) answer h e = tt
  was_accepted P (Err r) answer h e = absurd (h r e)
