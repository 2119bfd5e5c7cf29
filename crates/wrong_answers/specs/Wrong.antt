-- A WRONG ANSWER IS REFUTED BY ONE INPUT. Every public operation promises `r ≡ definition input`. Where the definition gives another answer than the one
-- that is tried, no program that keeps the promise can answer so.
use Rattle.std.specs.Prelude.{◌≡◌, refl, ◌≢◌, Bool, true, false, ◌&&◌, List, [], ◌∷◌, map, ℕ, eqb}
use Rattle.std.proofs.Common.{ap, sym, ◌∙◌, arith, eq-eqb}
use Rattle.layout.specs.Layout.{Each}

-- what the promise gives at an input, and what was answered there; both are told in numbers
pub record Wrong : Type 0 where
  pub promised : List ℕ
  pub answered : List ℕ

-- what is promised is not this answer: the two are told otherwise
infix 10 ◌not◌by◌
abbrev pub ◌not◌by◌ : {A : Type 0} → A → A → (A → List ℕ) → Wrong
◌not◌by◌ promised answered told = record { promised = told promised; answered = told answered }

-- THE CLAIM of a list: none of these answers is the promised one
abbrev pub Refuted : List Wrong → Type 0
Refuted wrongs = Each (λ w. w.promised ≢ w.answered) wrongs

-- so no result that keeps the promise is told as the wrong answer is
pub shut_out : {A : Type 0} (told : A → List ℕ) (promised answered : A) → told promised ≢ told answered → (r : A) → r ≡ promised → told r ≢ told answered
shut_out told promised answered differ r keeps same = differ (sym (ap told keeps) ∙ same)

-- ## By computation

abbrev alike : List ℕ → List ℕ → Bool
alike [] [] = true
alike [] (y ∷ ys) = false
alike (x ∷ xs) [] = false
alike (x ∷ xs) (y ∷ ys) = eqb x y && alike xs ys

alike_self : (xs : List ℕ) → alike xs xs ≡ true
alike_self [] = refl
alike_self (x ∷ xs) = rw (eq-eqb x x refl, alike_self xs)

-- which of the answers are told as what is promised; and what refutes them all
abbrev pub met : List Wrong → List Bool
met wrongs = map (λ w. alike w.promised w.answered) wrongs

abbrev pub unmet : List Wrong → List Bool
unmet wrongs = map (λ _. false) wrongs

true_is_not_false : true ≡ false → ⊥
true_is_not_false e = let z : ◌≡◌ {A = ℕ} 0 1 = cc in omega arith

pub refuted : (wrongs : List Wrong) → met wrongs ≡ unmet wrongs → Refuted wrongs
refuted [] e = tt
refuted (w ∷ ws) e =
    let this : alike w.promised w.answered ≡ false = cc in
    let others : met ws ≡ unmet ws = cc in
    (λ same. true_is_not_false (sym (alike_self w.promised) ∙ ap (alike w.promised) same ∙ this), refuted ws others)
