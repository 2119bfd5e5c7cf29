-- Hashes and whole records, as numbers and as bytes.
use Rattle.std.specs.Prelude.{◌≡◌, ℕ, ◌+◌, ◌^◌, ◌<◌, List, [], ◌∷◌, ◌++◌, Bool, ◌&&◌, length, get_or, replicate, eqb, Result, Ok, Err}
use Rattle.words.specs.Le.{le_at, spell, zeros_at}
use Rattle.words.specs.declared.Words.{Words}
use Rattle.words.specs.declared.Footer.{Footer}
use Rattle.words.specs.declared.Tag.{Tag}
use Rattle.words.specs.declared.NoTag.{NoTag}
use Rattle.words.specs.Checks.{pick}

-- ## Hashes: four numbers of 64 bits

pub record IsHash (h : List ℕ) : Type 0 where
  pub four : length h ≡ 4
  pub each : (i : ℕ) → get_or h i 0 < 2 ^ 64

-- the hash that stands at a position
abbrev pub hash_at : List ℕ → ℕ → List ℕ
hash_at s at = le_at 8 s at ∷ le_at 8 s (at + 8) ∷ le_at 8 s (at + 16) ∷ le_at 8 s (at + 24) ∷ []

-- the 32 bytes of a hash
unfoldable pub spell_hash : List ℕ → List ℕ
spell_hash h = spell 8 (get_or h 0 0) ++ spell 8 (get_or h 1 0) ++ spell 8 (get_or h 2 0) ++ spell 8 (get_or h 3 0)

abbrev pub same_hash : List ℕ → List ℕ → Bool
same_hash a b = eqb (get_or a 0 0) (get_or b 0 0) && eqb (get_or a 1 0) (get_or b 1 0) && eqb (get_or a 2 0) (get_or b 2 0) && eqb (get_or a 3 0) (get_or b 3 0)

-- the hash of all ones
abbrev pub ones : List ℕ
ones = replicate 4 18446744073709551615

abbrev pub is_ones : List ℕ → Bool
is_ones h = same_hash h ones

-- ## The tag of a shard, as four numbers

-- that of 32 bytes
abbrev pub tag_at : List ℕ → Tag
tag_at bytes = record { 0 = hash_at bytes 0 }

-- that of any bytes: only 32 are one
abbrev pub tag_from : List ℕ → Result Tag NoTag
tag_from bytes = pick (eqb (length bytes) 32) (Ok (tag_at bytes)) (Err (record {}))

-- where there is none
abbrev pub no_tag : Tag
no_tag = record { 0 = replicate 4 0 }

-- ## Records of 48 bytes: a hash, and four numbers of 32 bits

-- the numbers are in their ranges
pub record Whole (w : Words) : Type 0 where
  pub hash : IsHash w.hash
  pub a : w.a < 2 ^ 32
  pub b : w.b < 2 ^ 32
  pub c : w.c < 2 ^ 32
  pub d : w.d < 2 ^ 32

-- the record whose 48 bytes start at a position
abbrev pub words_at : List ℕ → ℕ → Words
words_at s at = record { hash = hash_at s at; a = le_at 4 s (at + 32); b = le_at 4 s (at + 36); c = le_at 4 s (at + 40); d = le_at 4 s (at + 44) }

-- the 48 bytes of a record
unfoldable pub spell_words : Words → List ℕ
spell_words w = spell_hash w.hash ++ spell 4 w.a ++ spell 4 w.b ++ spell 4 w.c ++ spell 4 w.d

-- the sixteen bytes behind the hash are 0
abbrev pub tail_zero : Words → Bool
tail_zero w = eqb w.a 0 && eqb w.b 0 && eqb w.c 0 && eqb w.d 0

-- ## The footer of 200 bytes: 0 version, 8 file offset, 16 xorb offset, 24 reserved, 72 key, created and expiry, 120 reserved, 192 footer offset

abbrev pub footer_at : List ℕ → ℕ → Footer
footer_at s at = record {
  version = le_at 8 s at;
  files = le_at 8 s (at + 8);
  xorbs = le_at 8 s (at + 16);
  itself = le_at 8 s (at + 192);
  words = words_at s (at + 72);
  clean = zeros_at 48 s (at + 24) && zeros_at 72 s (at + 120);
}

-- the 200 bytes of a good footer
unfoldable pub spell_footer : ℕ → ℕ → Words → List ℕ
spell_footer xorbs itself w = spell 8 1 ++ spell 8 48 ++ spell 8 xorbs ++ replicate 48 0 ++ spell_words w ++ replicate 72 0 ++ spell 8 itself
