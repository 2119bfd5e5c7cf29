-- THE OLD BLOB FILES: what an entry is, what is found at a position, what is written, and what a scan of the whole counts; for any bytes.
-- An entry: 0 "MSHB", 4 version u16 = 1, 6 data length u64, 14 the hash's 64 digits, 78 thirty-two zeros, 110 the data; then the next entry.
use Rattle.std.specs.Prelude.{◌≡◌, ℕ, zero, suc, ◌+◌, ◌^◌, ◌<◌, List, [], ◌∷◌, ◌++◌, Bool, true, ◌&&◌, ◌||◌, length, take, drop, replicate, eqb, leb, Result, Ok, Err}
use Rattle.words.specs.declared.Refusal.{Refusal}
use Rattle.words.specs.Checks.{pick, ◌unless◌then◌, fine}
use Rattle.words.specs.Le.{Bytes, le_at, le_num, spell, puts, zeros_at}
use Rattle.words.specs.Refusals.{refused_at}
use Rattle.blobs.specs.declared.Parts.{Parts}
use Rattle.blobs.specs.declared.Tally.{Tally}
use Rattle.blobs.specs.declared.EntryNumbers.{EntryNumbers}
use Rattle.blobs.specs.declared.ScannedNumbers.{ScannedNumbers}

-- ## Digits: 0 to 9, A to F, a to f

abbrev pub is_digit : ℕ → Bool
is_digit b = (leb 48 b && leb b 57) || (leb 65 b && leb b 70) || (leb 97 b && leb b 102)

unfoldable pub are_digits : List ℕ → Bool
are_digits [] = true
are_digits (b ∷ bs) = is_digit b && are_digits bs

-- ## A blob, and the entry that keeps it

-- the digits of its hash, and its data
pub record Blob : Type 0 where
  pub digits : List ℕ
  pub «data» : List ℕ

abbrev pub blob : List ℕ → List ℕ → Blob
blob digits bytes = record { digits = digits; «data» = bytes }

-- "MSHB"
abbrev pub magic : List ℕ
magic = 77 ∷ 83 ∷ 72 ∷ 66 ∷ []

unfoldable pub spell_entry : Blob → List ℕ
spell_entry b = magic ++ spell 2 1 ++ spell 8 (length b.«data») ++ b.digits ++ replicate 32 0 ++ b.«data»

-- the 110 bytes, and the data
abbrev pub entry_size : Blob → ℕ
entry_size b = 110 + length b.«data»

-- a blob that an entry can keep: 64 digits, and data of bytes whose length has 64 bits
pub record Sound (b : Blob) : Type 0 where
  pub size : length b.digits ≡ 64
  pub hex : are_digits b.digits ≡ true
  pub bytes : Bytes b.«data»
  pub told : length b.«data» < 2 ^ 64

-- ## A whole file: entries one behind the other

abbrev pub spell_all : List Blob → List ℕ
spell_all [] = []
spell_all (b ∷ bs) = spell_entry b ++ spell_all bs

abbrev pub AllSound : List Blob → Type 0
AllSound [] = Unit {0}
AllSound (b ∷ bs) = Sound b × AllSound bs

abbrev pub bytes_in : List Blob → ℕ
bytes_in [] = 0
bytes_in (b ∷ bs) = length b.«data» + bytes_in bs

-- ## The reader

-- what the 110 bytes say at the start of what is left of the buffer: the first check that fails, or how many bytes of data follow
unfoldable pub head_of : List ℕ → Result ℕ ℕ
head_of left =
    -- no fewer than 110 bytes are left
    Err 24 unless leb 110 (length left) then
    -- the first four are "MSHB"
    Err 25 unless eqb (le_at 4 left 0) (le_num magic) then
    -- the version is 1
    Err 26 unless eqb (le_at 2 left 4) 1 then
    -- the characters of the hash are hex digits
    Err 27 unless are_digits (take 64 (drop 14 left)) then
    -- the reserved bytes are 0
    Err 28 unless zeros_at 32 left 78 then Ok (le_at 8 left 6)

-- the last check: the data end within what is left; numbers are exact here, so nothing wraps
abbrev pub fitting : ℕ → Result ℕ ℕ → Result ℕ ℕ
fitting size (Err number) = Err number
fitting size (Ok n) = Err 29 unless leb (110 + n) size then Ok n

unfoldable pub whole_of : List ℕ → Result ℕ ℕ
whole_of left = fitting (length left) (head_of left)

-- where the parts of an entry are that has so many bytes of data
abbrev pub parts_at : ℕ → ℕ → Parts
parts_at at n = record { digits = record { 0 = at + 14 }; «data» = record { 0 = at + 110 }; length = n; next = record { 0 = at + 110 + n } }

-- the refusal is at the entry's position
abbrev pub entry_by : ℕ → Result ℕ ℕ → Result Parts Refusal
entry_by at (Err number) = Err (refused_at at number)
entry_by at (Ok n) = Ok (parts_at at n)

-- the entry at a position; at the end and past it nothing is left
unfoldable pub entry_at : List ℕ → ℕ → Result Parts Refusal
entry_at s at = entry_by at (whole_of (drop at s))

-- the blob whose parts are in these places of the buffer
abbrev pub blob_in : List ℕ → Parts → Blob
blob_in s p = blob (take 64 (drop p.digits.0 s)) (take p.length (drop p.«data».0 s))

-- ## The writer

-- the first check that fails, or fine; in a buffer of so many bytes
unfoldable pub put_fault : Blob → ℕ → ℕ
put_fault b room =
    -- there are 64 digits
    27 unless eqb (length b.digits) 64 then
    27 unless are_digits b.digits then
    -- the buffer is not shorter than both together
    15 unless leb (entry_size b) room then fine

-- both are refused at 0
unfoldable pub put_of : Blob → ℕ → Result ℕ Refusal
put_of b room = pick (eqb (put_fault b room) fine) (Ok (entry_size b)) (Err (refused_at 0 (put_fault b room)))

-- what the buffer then holds
unfoldable pub buffer_of : Blob → List ℕ → List ℕ
buffer_of b buf = pick (eqb (put_fault b (length buf)) fine) (puts buf 0 (spell_entry b)) buf

-- ## The scan

-- an entry more, of so many bytes of data
abbrev pub with_entry : Tally → ℕ → Tally
with_entry t n = record { entries = t.entries + 1; bytes = t.bytes + n }

-- the first refusal is the scan's
abbrev pub go_on : ℕ → Result ℕ ℕ → (ℕ → Result Tally Refusal) → Result Tally Refusal
go_on at (Err number) more = Err (refused_at at number)
go_on at (Ok n) more = more n

-- from a position on, with what was counted so far, in so many steps at most; the end is no fault
unfoldable pub scan_from : ℕ → List ℕ → ℕ → Tally → Result Tally Refusal
scan_from zero s at t = Ok t
scan_from (suc steps) s at t = pick (leb (length s) at) (Ok t) (go_on at (whole_of (drop at s)) (λ n. scan_from steps s (at + 110 + n) (with_entry t n)))

abbrev pub none : Tally
none = record { entries = 0; bytes = 0 }

-- an entry has at least one byte, so as many steps as there are bytes are enough
unfoldable pub scan_of : List ℕ → Result Tally Refusal
scan_of s = scan_from (length s) s 0 none

-- ## The paper's numbers, for each case of an answer

-- the parts of an entry, or zeros and the refusal
abbrev pub entry_numbers : Result Parts Refusal → EntryNumbers
entry_numbers (Ok p) = record { digits = p.digits.0; «data» = p.«data».0; length = p.length; next = p.next.0; at = 0; number = 0 }
entry_numbers (Err refusal) = record { digits = 0; «data» = 0; length = 0; next = 0; at = refusal.at.0; number = refusal.number }

-- the counts, or zeros and the refusal
abbrev pub scanned_numbers : Result Tally Refusal → ScannedNumbers
scanned_numbers (Ok t) = record { entries = t.entries; bytes = t.bytes; at = 0; number = 0 }
scanned_numbers (Err refusal) = record { entries = 0; bytes = 0; at = refusal.at.0; number = refusal.number }
