-- The bytes of std's numbers, the least significant first, are those of `le_at` and `spell`, at each of the three widths: both are sums over the same places. Assumes nothing.
use Rattle.std.proofs.Common.{◌≡◌, ℕ, ◌∙◌, List, [], ◌∷◌, take, drop, arith}
use native.Mathlib.Nat.{add-zero}
use Rattle.std.specs.Int.{w16, w32, w64, from_le_bytes, to_le_bytes}
use Rattle.words.specs.Le.{le_at, spell}
use Rattle.words.proofs.Numbers.{at_part}

-- ## Read

num_2 : (bs : List ℕ) → from_le_bytes w16 bs ≡ le_at 2 bs 0
unfolding le_at
num_2 bs = omega arith

num_4 : (bs : List ℕ) → from_le_bytes w32 bs ≡ le_at 4 bs 0
unfolding le_at
num_4 bs = omega arith

num_8 : (bs : List ℕ) → from_le_bytes w64 bs ≡ le_at 8 bs 0
unfolding le_at
num_8 bs = omega arith

module _ (s : List ℕ) (at : ℕ) (bytes : List ℕ) where
  there : (w : ℕ) → bytes ≡ take w (drop at s) → le_at w bytes 0 ≡ le_at w s at
  there w e = rw (e, at_part w w s at 0 (omega arith), add-zero)

  pub from_bytes_2 : bytes ≡ take 2 (drop at s) → from_le_bytes w16 bytes ≡ le_at 2 s at
  from_bytes_2 e = num_2 bytes ∙ there 2 e

  pub from_bytes_4 : bytes ≡ take 4 (drop at s) → from_le_bytes w32 bytes ≡ le_at 4 s at
  from_bytes_4 e = num_4 bytes ∙ there 4 e

  pub from_bytes_8 : bytes ≡ take 8 (drop at s) → from_le_bytes w64 bytes ≡ le_at 8 s at
  from_bytes_8 e = num_8 bytes ∙ there 8 e

-- ## Written

two : {a b a' b' : ℕ} → a ≡ a' → b ≡ b' → a ∷ b ∷ [] ≡ a' ∷ b' ∷ []
two p q = rw (p, q)

four : {a b c d a' b' c' d' : ℕ} → a ≡ a' → b ≡ b' → c ≡ c' → d ≡ d' → a ∷ b ∷ c ∷ d ∷ [] ≡ a' ∷ b' ∷ c' ∷ d' ∷ []
four p q r s = rw (p, q, r, s)

eight : {a b c d e f g h a' b' c' d' e' f' g' h' : ℕ} → a ≡ a' → b ≡ b' → c ≡ c' → d ≡ d' → e ≡ e' → f ≡ f' → g ≡ g' → h ≡ h'
    → a ∷ b ∷ c ∷ d ∷ e ∷ f ∷ g ∷ h ∷ [] ≡ a' ∷ b' ∷ c' ∷ d' ∷ e' ∷ f' ∷ g' ∷ h' ∷ []
eight p q r s t u v w = rw (p, q, r, s, t, u, v, w)

pub to_bytes_2 : (n : ℕ) → to_le_bytes w16 n ≡ spell 2 n
unfolding spell
to_bytes_2 n = two (omega arith) (omega arith)

pub to_bytes_4 : (n : ℕ) → to_le_bytes w32 n ≡ spell 4 n
unfolding spell
to_bytes_4 n = four (omega arith) (omega arith) (omega arith) (omega arith)

pub to_bytes_8 : (n : ℕ) → to_le_bytes w64 n ≡ spell 8 n
unfolding spell
to_bytes_8 n = eight (omega arith) (omega arith) (omega arith) (omega arith) (omega arith) (omega arith) (omega arith) (omega arith)
