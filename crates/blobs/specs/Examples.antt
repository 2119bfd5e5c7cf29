-- EXAMPLES, by computation: a file of two entries, at 0 and at 113, and its end at 223.
use Rattle.std.specs.Prelude.{◌≡◌, refl, List, [], ◌∷◌, ◌++◌, ℕ, length, take, drop, replicate, set, Result, Ok, Err}
use Rattle.words.specs.declared.Refusal.{Refusal}
use Rattle.words.specs.Le.{le_at, le_num, spell, puts, zeros_at}
use Rattle.words.specs.Refusals.{refused_at}
use Rattle.blobs.specs.declared.Parts.{Parts}
use Rattle.blobs.specs.Blobs.{Blob, blob, are_digits, spell_entry, spell_all, head_of, whole_of, parts_at, entry_at, blob_in, put_fault, put_of, buffer_of, scan_from, scan_of}

-- its hash is all `a` in the first, all `A` in the second, which has no data
abbrev one : Blob
one = blob (replicate 64 97) (1 ∷ 2 ∷ 3 ∷ [])

abbrev two : Blob
two = blob (replicate 64 65) []

abbrev file : List ℕ
file = spell_all (one ∷ two ∷ [])

-- the first entry alone, with another byte in one place
abbrev damaged : ℕ → ℕ → Result Parts Refusal
damaged i x = entry_at (set (spell_entry one) i x) 0

abbrev refused : ℕ → ℕ → Result Parts Refusal
refused at number = Err (refused_at at number)

pub record Examples : Type 0 where
  long : length file ≡ 223
  -- what is found, and where; the digits are kept as they stand
  first : entry_at file 0 ≡ Ok (parts_at 0 3)
  second : entry_at file 113 ≡ Ok (parts_at 113 0)
  kept : blob_in file (parts_at 113 0) ≡ two
  -- at the end, past it, and inside an entry
  at_end : entry_at file 223 ≡ refused 223 24
  past : entry_at file 18446744073709551615 ≡ refused 18446744073709551615 24
  inside : entry_at file 1 ≡ refused 1 25
  -- one byte of the 110 damaged
  magic : damaged 0 0 ≡ refused 0 25
  version : damaged 5 1 ≡ refused 0 26
  longer : damaged 6 4 ≡ refused 0 29
  huge : damaged 13 255 ≡ refused 0 29
  hex : damaged 77 103 ≡ refused 0 27
  reserved : damaged 109 1 ≡ refused 0 28
  -- a shorter length is no fault of this entry
  shorter : damaged 6 2 ≡ Ok (parts_at 0 2)
  -- the scan: all, none, the second cut short, and a byte behind the last
  all : scan_of file ≡ Ok (record { entries = 2; bytes = 3 })
  nothing : scan_of [] ≡ Ok (record { entries = 0; bytes = 0 })
  cut : scan_of (take 222 file) ≡ Err (refused_at 113 24)
  behind : scan_of (file ++ (0 ∷ [])) ≡ Err (refused_at 223 24)
  -- the writer: the entry and no byte behind it; no room, and no digits
  written : buffer_of one (replicate 115 7) ≡ spell_entry one ++ (7 ∷ 7 ∷ [])
  answer : put_of one 115 ≡ Ok 113
  no_room : put_of one 112 ≡ Err (refused_at 0 15)
  untouched : buffer_of one (replicate 112 7) ≡ replicate 112 7
  no_digits : put_of (blob (drop 1 one.digits) one.«data») 0 ≡ Err (refused_at 0 27)

examples : Examples
unfolding are_digits spell_entry head_of whole_of entry_at put_fault put_of buffer_of scan_from scan_of le_at le_num spell puts zeros_at
examples = record {
  long = refl;
  first = refl;
  second = refl;
  kept = refl;
  at_end = refl;
  past = refl;
  inside = refl;
  magic = refl;
  version = refl;
  longer = refl;
  huge = refl;
  hex = refl;
  reserved = refl;
  shorter = refl;
  all = refl;
  nothing = refl;
  cut = refl;
  behind = refl;
  written = refl;
  answer = refl;
  no_room = refl;
  untouched = refl;
  no_digits = refl;
}
