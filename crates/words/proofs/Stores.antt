-- Stores into a list, as a writer makes them: one run after the other is one run, and nothing but the bytes stored changes. Assumes nothing.
use mathlib.Core.Path.{◌≡◌, refl, sym, ◌∙◌}
use Prim.Native.Nat.{ℕ, suc, ◌+◌, ◌-◌, ◌≤◌}
use native.Mathlib.Nat.{add-zero}
use native.Mathlib.Numerals.{add-one}
use native.Mathlib.Omega.{arith}
use mathlib.Core.List.{List, [], ◌∷◌, ◌++◌}
use lib.ListN.{length, take, drop, set, length-set}
use lib.Seq.{sets, sets-eq, drop-drop}
use Rattle.std.proofs.lemmas.List.{append_assoc}
use borrow.Rule.Slice.PartMut.{put_mid}
use Rattle.words.specs.Le.{puts}

pub length_puts : (l : List ℕ) (i : ℕ) (vs : List ℕ) → length (puts l i vs) ≡ length l
unfolding puts
length_puts l i [] = refl
length_puts l i (a ∷ vs) = length_puts (set l i a) (i + 1) vs ∙ length-set l i a

-- two runs of stores, one after the other, are one
pub puts_append : (l : List ℕ) (i : ℕ) (a b : List ℕ) → puts (puts l i a) (i + length a) b ≡ puts l i (a ++ b)
unfolding puts
puts_append l i [] b = rw add-zero
puts_append l i (x ∷ a) b =
    let e : i + suc (length a) ≡ i + 1 + length a = omega arith in
    rw e (puts_append (set l i x) (i + 1) a b)

-- the same, as the calls of a writer give it: each call's list, from the one before
pub puts_then : (n : ℕ) (l₀ : List ℕ) {l₁ l₂ : List ℕ} (at : ℕ) (a b : List ℕ) → length a ≡ n → l₁ ≡ puts l₀ at a → l₂ ≡ puts l₁ (at + n) b → l₂ ≡ puts l₀ at (a ++ b)
puts_then n l₀ at a b e p q = rw (q, p, ← e) (puts_append l₀ at a b)

puts_sets : (l : List ℕ) (i : ℕ) (vs : List ℕ) → puts l i vs ≡ sets l i vs
unfolding puts
puts_sets l i [] = refl
puts_sets l i (a ∷ vs) = rw add-one (puts_sets (set l i a) (suc i) vs)

-- the bytes stored, those before and those after
pub puts_eq : (vs l : List ℕ) (i : ℕ) → i + length vs ≤ length l → puts l i vs ≡ take i l ++ vs ++ drop (i + length vs) l
puts_eq vs l i h = puts_sets l i vs ∙ sets-eq vs l i h

-- what a part of a list becomes by such a store, as std says it
pub mid_puts : (l : List ℕ) (at to : ℕ) (mid vs : List ℕ) → mid ≡ vs → to ≡ at + length vs → to ≤ length l → put_mid at (to - at) l mid ≡ puts l at vs
mid_puts l at to mid vs same end fits =
    let e : to - at ≡ length vs = omega arith in
    rw (same, e, drop-drop, ← append_assoc) (sym (puts_eq vs l at (omega arith)))
