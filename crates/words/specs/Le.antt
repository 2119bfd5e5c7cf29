-- Little-endian numbers of any width, parts of a list, and stores into one.
use Rattle.std.specs.Prelude.{ℕ, zero, suc, ◌+◌, ◌-◌, ◌*◌, ◌/◌, ◌%◌, ◌<◌, List, [], ◌∷◌, Bool, true, ◌&&◌, get_or, set, take, drop, eqb}

-- all are bytes
abbrev pub Bytes : List ℕ → Type 0
Bytes bs = (i : ℕ) → get_or bs i 0 < 256

-- the number of the w bytes from position at, the least significant first; a byte past the end counts as 0
unfoldable pub le_at : ℕ → List ℕ → ℕ → ℕ
le_at zero s at = 0
le_at (suc w) s at = get_or s at 0 + 256 * le_at w s (at + 1)

-- the number that a list of bytes spells, the least significant first
unfoldable pub le_num : List ℕ → ℕ
le_num [] = 0
le_num (b ∷ bs) = b + 256 * le_num bs

-- the w bytes that spell a number, the least significant first
unfoldable pub spell : ℕ → ℕ → List ℕ
spell zero x = []
spell (suc w) x = x % 256 ∷ spell w (x / 256)

-- the bytes from one position up to but not including another
abbrev pub part : ℕ → ℕ → List ℕ → List ℕ
part from to s = take (to - from) (drop from s)

-- vs stored element by element from index i; what would stand past the end is dropped
unfoldable pub puts : List ℕ → ℕ → List ℕ → List ℕ
puts l i [] = l
puts l i (a ∷ vs) = puts (set l i a) (i + 1) vs

-- whether the n bytes from position at are all 0
unfoldable pub zeros_at : ℕ → List ℕ → ℕ → Bool
zeros_at zero s at = true
zeros_at (suc n) s at = eqb (get_or s at 0) 0 && zeros_at n s (at + 1)

-- a number of 64 bits from its halves, and its halves
abbrev pub long : ℕ → ℕ → ℕ
long lower upper = lower + 4294967296 * upper

abbrev pub low : ℕ → ℕ
low n = n % 4294967296

abbrev pub high : ℕ → ℕ
high n = n / 4294967296
