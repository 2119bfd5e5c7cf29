-- The laws of the layout's lists: what holds of each member, what is joined and what is spelled goes through `++`, because all three go through a list
-- from its head. Assumes nothing.
use mathlib.Core.Path.{◌≡◌, refl, sym, ap, ◌∙◌}
use mathlib.Core.List.{List, [], ◌∷◌, ◌++◌, append_assoc}
use Prim.Native.Nat.{ℕ}
use Rattle.words.specs.Record.{spell_words}
use Rattle.layout.specs.Layout.{Row, Each, joined, spell_rows}

module _ {A : Type 0} (P : A → Type 0) where
  pub each_append : (xs ys : List A) → Each P xs → Each P ys → Each P (xs ++ ys)
  each_append [] ys a b = b
  each_append (x ∷ xs) ys (h, a) b = (h, each_append xs ys a b)

  pub each_first : (xs ys : List A) → Each P (xs ++ ys) → Each P xs
  each_first [] ys a = tt
  each_first (x ∷ xs) ys (h, a) = (h, each_first xs ys a)

  pub each_second : (xs ys : List A) → Each P (xs ++ ys) → Each P ys
  each_second [] ys a = a
  each_second (x ∷ xs) ys (h, a) = each_second xs ys a

pub joined_append : {A : Type 0} {B : Type 0} (f : A → List B) (xs ys : List A) → joined f (xs ++ ys) ≡ joined f xs ++ joined f ys
joined_append f [] ys = refl
joined_append f (x ∷ xs) ys = ap (λ l. f x ++ l) (joined_append f xs ys) ∙ sym (append_assoc (f x) (joined f xs) (joined f ys))

pub spell_append : (xs ys : List Row) → spell_rows (xs ++ ys) ≡ spell_rows xs ++ spell_rows ys
spell_append [] ys = refl
spell_append (x ∷ xs) ys = ap (λ (l : List ℕ). spell_words x.words ++ l) (spell_append xs ys) ∙ sym (append_assoc (spell_words x.words) (spell_rows xs) (spell_rows ys))
