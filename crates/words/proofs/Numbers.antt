-- The laws of little-endian numbers, once over the width: what is spelled reads back, and what is read spells the bytes again,
-- because each byte is a remainder by 256 and the rest a quotient. Assumes nothing.
use mathlib.Core.Path.{◌≡◌, refl, sym, ap, ◌∙◌}
use Prim.Native.Nat.{ℕ, zero, suc, ◌+◌, ◌*◌, ◌/◌, ◌%◌, ◌^◌, ◌≤◌, ◌<◌}
use native.Mathlib.Nat.{pow-succ', add_assoc, suc-add}
use native.Mathlib.Omega.{arith}
use mathlib.Core.List.{List, [], ◌∷◌, ◌++◌}
use lib.ListN.{length, get_or, take, drop, length-take, length-drop}
use lib.Dec.{lit<}
use lib.Seq.{drop-nil, get_or-drop, get_or-take, take-add, drop-drop}
use Rattle.words.specs.Le.{Bytes, le_at, le_num, spell}

pub length_spell : (w x : ℕ) → length (spell w x) ≡ w
unfolding spell
length_spell zero x = refl
length_spell (suc w) x = ap suc (length_spell w (x / 256))

-- what is spelled in w bytes reads back as the number
pub num_spell : (w x : ℕ) → x < 256 ^ w → le_num (spell w x) ≡ x
unfolding le_num spell
num_spell zero x h = omega arith
num_spell (suc w) x h =
    let k : x < 256 * 256 ^ w = rw pow-succ' at h in
    let e : le_num (spell w (x / 256)) ≡ x / 256 = num_spell w (x / 256) (omega arith) in
    omega arith

-- a list of bytes is what its number spells
pub spell_num : (bs : List ℕ) → Bytes bs → spell (length bs) (le_num bs) ≡ bs
unfolding le_num spell
spell_num [] h = refl
spell_num (b ∷ bs) h =
    let hb : b < 256 = h 0 in
    let em : (b + 256 * le_num bs) % 256 ≡ b = omega arith in
    let ed : (b + 256 * le_num bs) / 256 ≡ le_num bs = omega arith in
    rw (em, ed, spell_num bs (λ i. h (suc i)))

-- a number that is read from w bytes is below 256 ^ w
pub at_lt : (w : ℕ) (bs : List ℕ) (at : ℕ) → Bytes bs → le_at w bs at < 256 ^ w
unfolding le_at
at_lt zero bs at b = omega arith
at_lt (suc w) bs at b =
    let hb : get_or bs at 0 < 256 = b at in
    let hn : le_at w bs (at + 1) < 256 ^ w = at_lt w bs (at + 1) b in
    rw pow-succ' (omega arith)

at_nil : (w at : ℕ) → le_at w [] at ≡ 0
unfolding le_at
at_nil zero at = refl
at_nil (suc w) at = rw (at_nil w (at + 1))

at_cons : (w x : ℕ) (s : List ℕ) (at : ℕ) → le_at w (x ∷ s) (suc at) ≡ le_at w s at
unfolding le_at
at_cons zero x s at = refl
at_cons (suc w) x s at = rw (suc-add, at_cons w x s (at + 1))

at_zero : (s : List ℕ) (at : ℕ) → le_at 0 s at ≡ 0
unfolding le_at
at_zero s at = refl

at_first : (w x : ℕ) (s : List ℕ) → le_at (suc w) (x ∷ s) 0 ≡ x + 256 * le_at w s 0
unfolding le_at
at_first w x s = ap (λ (n : ℕ). x + 256 * n) (at_cons w x s 0)

-- the number at a position is that of the part of the list
pub at_num : (w : ℕ) (s : List ℕ) (at : ℕ) → le_at w s at ≡ le_num (take w (drop at s))
unfolding le_num
at_num zero s at = at_zero s at
at_num (suc w) [] at = rw (at_nil, drop-nil)
at_num (suc w) (x ∷ s) zero = at_first w x s ∙ ap (λ (n : ℕ). x + 256 * n) (at_num w s 0)
at_num (suc w) (x ∷ s) (suc at) = at_cons (suc w) x s at ∙ at_num (suc w) s at

-- a part of a list has at each position what the list has there
pub at_part : (w n : ℕ) (s : List ℕ) (p k : ℕ) → k + w ≤ n → le_at w (take n (drop p s)) k ≡ le_at w s (p + k)
unfolding le_at
at_part zero n s p k h = refl
at_part (suc w) n s p k h =
    let hk : k < n = omega arith in
    let e : le_at w (take n (drop p s)) (k + 1) ≡ le_at w s (p + (k + 1)) = at_part w n s p (k + 1) (omega arith) in
    rw (get_or-take n (drop p s) k 0 hk, get_or-drop, e, add_assoc)

pub take_bytes : (w : ℕ) (bs : List ℕ) → Bytes bs → Bytes (take w bs)
take_bytes zero bs b i = lit< tt
take_bytes (suc w) [] b i = lit< tt
take_bytes (suc w) (x ∷ bs) b zero = b 0
take_bytes (suc w) (x ∷ bs) b (suc i) = take_bytes w bs (λ j. b (suc j)) i

-- the bytes of a list at a place are what their number spells
pub spell_at : (w : ℕ) (bs : List ℕ) (at : ℕ) → at + w ≤ length bs → Bytes bs → spell w (le_at w bs at) ≡ take w (drop at bs)
spell_at w bs at h b =
    let e : length (take w (drop at bs)) ≡ w = simp (length-take, length-drop) (omega arith) in
    let d : Bytes (take w (drop at bs)) = λ i. take_bytes w (drop at bs) (λ j. rw get_or-drop (b (at + j))) i in
    rw at_num (ap (λ (n : ℕ). spell n (le_num (take w (drop at bs)))) (sym e) ∙ spell_num (take w (drop at bs)) d)

-- the first n of a list and the next m are the first n + m
pub part_then : (n m : ℕ) (bs : List ℕ) {x y : List ℕ} → x ≡ take n bs → y ≡ take m (drop n bs) → x ++ y ≡ take (n + m) bs
part_then n m bs p q = rw (p, q, take-add)

-- the same inside a list, from place at on
pub part_in : (at n m : ℕ) (bs : List ℕ) {x y : List ℕ} → x ≡ take n (drop at bs) → y ≡ take m (drop (at + n) bs) → x ++ y ≡ take (n + m) (drop at bs)
part_in at n m bs p q = rw (p, q, take-add, drop-drop)

-- ## Lists of bytes

pub bytes_none : Bytes []
bytes_none i = lit< tt

pub bytes_append : (xs ys : List ℕ) → Bytes xs → Bytes ys → Bytes (xs ++ ys)
bytes_append [] ys a b i = b i
bytes_append (x ∷ xs) ys a b zero = a 0
bytes_append (x ∷ xs) ys a b (suc i) = bytes_append xs ys (λ j. a (suc j)) b i

pub spell_bytes : (w x : ℕ) → Bytes (spell w x)
unfolding spell
spell_bytes zero x i = bytes_none i
spell_bytes (suc w) x zero = omega arith
spell_bytes (suc w) x (suc i) = spell_bytes w (x / 256) i
