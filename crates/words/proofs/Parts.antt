-- What is read in a part of some bytes is read in the bytes at its place, because each number lies inside the part. Assumes nothing.
use mathlib.Core.Path.{◌≡◌, refl, sym, ap, ◌∙◌}
use mathlib.Core.List.{List, ◌++◌}
use Prim.Native.Nat.{ℕ, zero, suc, ◌+◌, ◌≤◌, ◌<◌}
use native.Mathlib.Omega.{arith}
use lib.ListN.{length, take, drop}
use lib.Seq.{get_or-take, get_or-drop, take-append_seam}
use Rattle.words.specs.Le.{le_at, zeros_at}
use Rattle.words.specs.Record.{words_at, footer_at}
use Rattle.words.proofs.Numbers.{at_part}
use Rattle.words.proofs.Records.{four_same, words_same}

module _ (n : ℕ) (s : List ℕ) (p : ℕ) where
  le_there : (w k j : ℕ) → k + w ≤ n → p + k ≡ j → le_at w (take n (drop p s)) k ≡ le_at w s j
  le_there w k j h e = rw (← e) (at_part w n s p k h)

  zeros_there : (w k j : ℕ) → k + w ≤ n → p + k ≡ j → zeros_at w (take n (drop p s)) k ≡ zeros_at w s j
  unfolding zeros_at
  zeros_there zero k j h e = refl
  zeros_there (suc w) k j h e =
      let l : k < n = omega arith in
      rw (get_or-take n (drop p s) k 0 l, get_or-drop, e, zeros_there w (k + 1) (j + 1) (omega arith) (omega arith))

  pub words_there : (k j : ℕ) → k + 48 ≤ n → p + k ≡ j → words_at (take n (drop p s)) k ≡ words_at s j
  words_there k j h e =
      words_same
      (four_same
      (le_there 8 k j (omega arith) e)
      (le_there 8 (k + 8) (j + 8) (omega arith) (omega arith))
      (le_there 8 (k + 16) (j + 16) (omega arith) (omega arith))
      (le_there 8 (k + 24) (j + 24) (omega arith) (omega arith)))
      (le_there 4 (k + 32) (j + 32) (omega arith) (omega arith))
      (le_there 4 (k + 36) (j + 36) (omega arith) (omega arith))
      (le_there 4 (k + 40) (j + 40) (omega arith) (omega arith))
      (le_there 4 (k + 44) (j + 44) (omega arith) (omega arith))

  pub footer_there : 200 ≤ n → footer_at (take n (drop p s)) 0 ≡ footer_at s p
  footer_there h =
      rw (
        le_there 8 0 p (omega arith) (omega arith),
        le_there 8 8 (p + 8) (omega arith) (omega arith),
        le_there 8 16 (p + 16) (omega arith) (omega arith),
        le_there 8 192 (p + 192) (omega arith) (omega arith),
        words_there 72 (p + 72) (omega arith) (omega arith),
        zeros_there 48 24 (p + 24) (omega arith) (omega arith),
        zeros_there 72 120 (p + 120) (omega arith) (omega arith),
      )

-- the part may be the front, with any bytes behind it
pub le_front : (w : ℕ) (bs z : List ℕ) (k : ℕ) → k + w ≤ length bs → le_at w (bs ++ z) k ≡ le_at w bs k
le_front w bs z k h = sym (le_there (length bs) (bs ++ z) 0 w k k h (omega arith)) ∙ ap (λ (l : List ℕ). le_at w l k) (take-append_seam bs z)

pub zeros_front : (w : ℕ) (bs z : List ℕ) (k : ℕ) → k + w ≤ length bs → zeros_at w (bs ++ z) k ≡ zeros_at w bs k
zeros_front w bs z k h = sym (zeros_there (length bs) (bs ++ z) 0 w k k h (omega arith)) ∙ ap (λ (l : List ℕ). zeros_at w l k) (take-append_seam bs z)

pub words_front : (bs z : List ℕ) (k : ℕ) → k + 48 ≤ length bs → words_at (bs ++ z) k ≡ words_at bs k
words_front bs z k h = sym (words_there (length bs) (bs ++ z) 0 k k h (omega arith)) ∙ ap (λ (l : List ℕ). words_at l k) (take-append_seam bs z)

pub footer_front : (bs z : List ℕ) → 200 ≤ length bs → footer_at (bs ++ z) 0 ≡ footer_at bs 0
footer_front bs z h = sym (footer_there (length bs) (bs ++ z) 0 h) ∙ ap (λ (l : List ℕ). footer_at l 0) (take-append_seam bs z)
