-- Four copies, one behind the other, are the joined bytes, because each begins where the one before ended. Assumes nothing.
use mathlib.Core.Path.{◌≡◌, refl, ap, ◌∙◌}
use mathlib.Core.List.{List, ◌++◌}
use Prim.Native.Nat.{ℕ, ◌+◌, ◌-◌, ◌≤◌}
use native.Mathlib.Omega.{arith}
use lib.ListN.{length, take, drop, length-append, length-drop}
use lib.Seq.{length-take-le}
use Rattle.words.specs.Le.{puts, part}
use Rattle.words.proofs.Stores.{puts_then}
use Rattle.join.specs.Join.{Parted, joined_at, joined_length}

length_part : (from to : ℕ) (s : List ℕ) → from ≤ to → to ≤ length s → length (part from to s) ≡ to - from
length_part from to s h k = length-take-le (to - from) (drop from s) (rw length-drop (omega arith))

module _ (first second : List ℕ) (x y : ℕ) (p : Parted first x) (q : Parted second y) where
  length_1 : length (take (x - 48) first) ≡ x - 48
  length_1 = length-take-le (x - 48) first (omega arith)

  length_2 : length (take (x - 48) first ++ part 48 y second) ≡ x - 48 + (y - 48)
  length_2 = length-append (take (x - 48) first) (part 48 y second) ∙ omega (arith, length_1, length_part 48 y second (omega arith) (omega arith))

  length_3 : length (take (x - 48) first ++ part 48 y second ++ part x (length first - 48) first) ≡ x - 48 + (y - 48) + (length first - 48 - x)
  length_3 = length-append (take (x - 48) first ++ part 48 y second) (part x (length first - 48) first)
      ∙ omega (arith, length_2, length_part x (length first - 48) first (omega arith) (omega arith))

  pub length_joined : length (joined_at first x second y) ≡ joined_length first second
  unfolding joined_at
  length_joined = length-append (take (x - 48) first ++ part 48 y second ++ part x (length first - 48) first) (part y (length second) second)
      ∙ omega (arith, length_3, length_part y (length second) second (omega arith) (omega arith))

  -- one copy behind the others
  put_next : (l₀ : List ℕ) {l₁ l₂ : List ℕ} (a b : List ℕ) (k : ℕ) → length a ≡ k → l₁ ≡ puts l₀ 0 a → l₂ ≡ puts l₁ k b → l₂ ≡ puts l₀ 0 (a ++ b)
  put_next l₀ {l₁} a b k e f g =
      let z : k ≡ 0 + k = omega arith in
      puts_then k l₀ 0 a b e f (g ∙ ap (λ (i : ℕ). puts l₁ i b) z)

  pub four_copies : (l₀ : List ℕ) {l₁ l₂ l₃ l₄ : List ℕ} (a b c d : List ℕ)
      → a ≡ take (x - 48) first → b ≡ part 48 y second → c ≡ part x (length first - 48) first → d ≡ part y (length second) second
      → l₁ ≡ puts l₀ 0 a → l₂ ≡ puts l₁ (length a) b → l₃ ≡ puts l₂ (length a + length b) c → l₄ ≡ puts l₃ (length a + length b + length c) d
      → l₄ ≡ puts l₀ 0 (joined_at first x second y)
  unfolding joined_at
  four_copies l₀ a b c d ea eb ec ed f g h k =
      let n : length (a ++ b) ≡ length a + length b = length-append a b in
      let m : length (a ++ b ++ c) ≡ length a + length b + length c = length-append (a ++ b) c ∙ omega (arith, n) in
      put_next l₀ (a ++ b ++ c) d _ m (put_next l₀ (a ++ b) c _ n (put_next l₀ a b _ refl f g) h) k ∙ rw (ea, eb, ec, ed)
