-- Wrong answers of `blobs`: an entry of a blob file found, one written, and all of them counted.
use Rattle.std.specs.Prelude.{refl, true, false, List, [], ◌∷◌, ◌++◌, ℕ, take, drop, replicate, set, Result, Ok, Err}
use Rattle.words.specs.declared.Refusal.{Refusal}
use Rattle.words.specs.Le.{le_at, le_num, spell, puts, zeros_at}
use Rattle.words.specs.Refusals.{refused_at}
use Rattle.blobs.specs.Blobs.{blob, is_digit, are_digits, magic, spell_entry, head_of, whole_of, parts_at, entry_at, blob_in, put_fault, put_of, buffer_of, bytes_in, scan_from, scan_of}
use Rattle.blobs.specs.declared.Parts.{Parts}
use Rattle.blobs.specs.declared.Tally.{Tally}
use Rattle.wrong_answers.specs.Wrong.{Wrong, ◌not◌by◌, Refuted, refuted}
use Rattle.wrong_answers.specs.Told.{number, numbers, truth, head_told, entry_told, put_told, scanned_told}

-- ## Entries

-- 64 digits: all `a`, all `A`
abbrev pub lower : List ℕ
lower = replicate 64 97

abbrev upper : List ℕ
upper = replicate 64 65

abbrev pub three : List ℕ
three = 1 ∷ 2 ∷ 3 ∷ []

-- one of three bytes of data, 113 bytes; and one of none
abbrev small : List ℕ
small = spell_entry (blob lower three)

abbrev bare : List ℕ
bare = spell_entry (blob upper [])

-- both: at 0, at 113, and the end at 223
abbrev pub file : List ℕ
file = small ++ bare

-- 110 bytes that say this length, and three bytes of data
abbrev saying : ℕ → List ℕ
saying n = magic ++ spell 2 1 ++ spell 8 n ++ lower ++ replicate 32 0 ++ three

-- the small one with another byte in one place, or in two
abbrev with : ℕ → ℕ → List ℕ
with i x = set small i x

abbrev with_two : ℕ → ℕ → ℕ → ℕ → List ℕ
with_two i x j y = set (set small i x) j y

-- ## Answers

abbrev refused_with : ℕ → Result Parts Refusal
refused_with number = Err (refused_at 0 number)

abbrev found_at : ℕ → ℕ → ℕ → ℕ → Result Parts Refusal
found_at digits bytes n next = Ok (record { digits = record { 0 = digits }; «data» = record { 0 = bytes }; length = n; next = record { 0 = next } })

abbrev counts : ℕ → ℕ → Result Tally Refusal
counts entries bytes = Ok (record { entries = entries; bytes = bytes })

-- the buffer that is lent
abbrev pub room : ℕ → List ℕ
room n = replicate n 255

abbrev wrongs : List Wrong
wrongs =
    -- ## `entry_at`: the places
    -- the next position without the data
    (entry_at file 0 not found_at 14 110 3 110 by entry_told)
    -- from the entry on, not from the buffer's start
    ∷ (entry_at file 113 not found_at 127 223 0 110 by entry_told)
    -- the 110 bytes counted among the data
    ∷ (entry_at file 0 not found_at 14 110 113 113 by entry_told)
    -- the data where the entry begins
    ∷ (entry_at file 0 not found_at 14 0 3 113 by entry_told)
    -- the digits where the length stands
    ∷ (entry_at file 0 not found_at 6 110 3 113 by entry_told)
    -- ## `entry_at`: the position
    -- that of the buffer's start
    ∷ (entry_at (small ++ set bare 0 0) 113 not Err (refused_at 0 25) by entry_told)
    -- at the end: another fault than 24
    ∷ (entry_at file 223 not Err (refused_at 223 25) by entry_told)
    -- past the end: the end's position
    ∷ (entry_at file 1000 not Err (refused_at 223 24) by entry_told)
    -- the last position of all: its sum with 110 wraps, and an entry is found
    ∷ (entry_at file 18446744073709551615 not found_at 13 109 3 112 by entry_told)
    -- one byte is enough for an entry
    ∷ (entry_at file 114 not Err (refused_at 114 25) by entry_told)
    -- ## `entry_at`: the checks in their order
    ∷ (entry_at (take 109 (with 0 0)) 0 not refused_with 25 by entry_told)
    ∷ (entry_at (with_two 0 0 4 2) 0 not refused_with 26 by entry_told)
    ∷ (entry_at (with_two 4 2 14 0) 0 not refused_with 27 by entry_told)
    ∷ (entry_at (with_two 14 0 78 1) 0 not refused_with 28 by entry_told)
    ∷ (entry_at (with_two 78 1 6 4) 0 not refused_with 29 by entry_told)
    -- ## `entry_at`: magic and version
    -- the magic's last byte not looked at; read from the other end
    ∷ (entry_at (with 3 67) 0 not found_at 14 110 3 113 by entry_told)
    ∷ (entry_at (66 ∷ 72 ∷ 83 ∷ 77 ∷ drop 4 small) 0 not found_at 14 110 3 113 by entry_told)
    -- the version's low byte alone; its high byte alone; read from the other end; any version up to 1
    ∷ (entry_at (with 5 1) 0 not found_at 14 110 3 113 by entry_told)
    ∷ (entry_at (with 4 0) 0 not found_at 14 110 3 113 by entry_told)
    ∷ (entry_at (with_two 4 0 5 1) 0 not found_at 14 110 3 113 by entry_told)
    -- ## `entry_at`: digits
    -- lower case only; upper case only
    ∷ (entry_at file 113 not Err (refused_at 113 27) by entry_told)
    ∷ (entry_at file 0 not refused_with 27 by entry_told)
    -- the first digit, the last one not looked at
    ∷ (entry_at (with 14 103) 0 not found_at 14 110 3 113 by entry_told)
    ∷ (entry_at (with 77 103) 0 not found_at 14 110 3 113 by entry_told)
    -- the reserved bytes asked to be digits too
    ∷ (entry_at small 0 not refused_with 27 by entry_told)
    -- ## `entry_at`: reserved
    -- not looked at: the first of them, the last
    ∷ (entry_at (with 78 1) 0 not found_at 14 110 3 113 by entry_told)
    ∷ (entry_at (with 109 1) 0 not found_at 14 110 3 113 by entry_told)
    -- a byte of data taken for one of them
    ∷ (entry_at small 0 not refused_with 28 by entry_told)
    -- ## `entry_at`: the data's end
    -- compared after a sum that wraps
    ∷ (entry_at (saying 18446744073709551506) 0 not found_at 14 110 18446744073709551506 0 by entry_told)
    ∷ (entry_at (small ++ saying 18446744073709551393) 113 not found_at 127 223 18446744073709551393 0 by entry_told)
    -- in 32 bits
    ∷ (entry_at (saying 4294967296) 0 not found_at 14 110 0 110 by entry_told)
    -- as a number with a sign
    ∷ (entry_at (saying 9223372036854775808) 0 not found_at 14 110 9223372036854775808 9223372036854775918 by entry_told)
    -- read from the other end
    ∷ (entry_at small 0 not refused_with 29 by entry_told)
    -- one byte too few is enough
    ∷ (entry_at (saying 4) 0 not found_at 14 110 4 114 by entry_told)
    -- data up to the very end refused
    ∷ (entry_at (saying 3) 0 not refused_with 29 by entry_told)
    -- held against the whole buffer, not what is left of it
    ∷ (entry_at (small ++ saying 4) 113 not found_at 127 223 4 227 by entry_told)
    -- ## `head_of`
    -- the data must be there too
    ∷ (head_of (saying 4) not Err 29 by head_told)
    -- a head cut short
    ∷ (head_of (take 109 small) not Ok 3 by head_told)
    -- ## `is_digit`: the bytes beside the digits
    ∷ (is_digit 47 not true by truth)
    ∷ (is_digit 58 not true by truth)
    ∷ (is_digit 64 not true by truth)
    ∷ (is_digit 71 not true by truth)
    ∷ (is_digit 96 not true by truth)
    ∷ (is_digit 103 not true by truth)
    -- the first and the last of them
    ∷ (is_digit 48 not false by truth)
    ∷ (is_digit 57 not false by truth)
    ∷ (is_digit 70 not false by truth)
    ∷ (is_digit 102 not false by truth)
    -- ## the blob that is found
    -- its digits in lower case
    ∷ ((blob_in file (parts_at 113 0)).digits not lower by numbers)
    -- the data up to the buffer's end
    ∷ ((blob_in file (parts_at 0 3)).«data» not three ++ bare by numbers)
    -- ## `scan`
    -- the end is a fault
    ∷ (scan_of file not Err (refused_at 223 24) by scanned_told)
    ∷ (scan_of [] not Err (refused_at 0 24) by scanned_told)
    -- the first entry only; one without data passed over
    ∷ (scan_of file not counts 1 3 by scanned_told)
    ∷ (scan_of bare not counts 0 0 by scanned_told)
    -- the 110 bytes summed too
    ∷ (scan_of file not counts 2 223 by scanned_told)
    -- the two numbers exchanged
    ∷ (scan_of file not counts 3 2 by scanned_told)
    -- what was good counted, and the rest passed over
    ∷ (scan_of (take 222 file) not counts 1 3 by scanned_told)
    -- a fault's position: the file's start, its end, the place in the entry
    ∷ (scan_of (take 222 file) not Err (refused_at 0 24) by scanned_told)
    ∷ (scan_of (take 222 file) not Err (refused_at 222 24) by scanned_told)
    ∷ (scan_of (small ++ set bare 78 1) not Err (refused_at 191 28) by scanned_told)
    -- the last fault, not the first
    ∷ (scan_of (with 78 1 ++ set bare 0 0) not Err (refused_at 113 25) by scanned_told)
    -- a byte behind the last entry passed over
    ∷ (scan_of (file ++ (0 ∷ [])) not counts 2 3 by scanned_told)
    -- ## `put_entry`: the checks
    -- room before digits
    ∷ (put_of (blob (0 ∷ []) three) 0 not Err (refused_at 0 15) by put_told)
    -- a hash of 63 digits, of 65
    ∷ (put_of (blob (drop 1 lower) three) 113 not Ok 113 by put_told)
    ∷ (put_of (blob (97 ∷ lower) three) 113 not Ok 113 by put_told)
    -- a hash without digits
    ∷ (put_of (blob (set lower 63 103) three) 113 not Ok 113 by put_told)
    -- upper case refused
    ∷ (put_of (blob upper three) 113 not Err (refused_at 0 27) by put_told)
    -- room enough refused; one byte too few is enough; room for the 110 bytes is
    ∷ (put_of (blob lower three) 113 not Err (refused_at 0 15) by put_told)
    ∷ (put_of (blob lower three) 112 not Ok 113 by put_told)
    ∷ (put_of (blob lower three) 110 not Ok 113 by put_told)
    -- so many bytes as the head has, as the data have
    ∷ (put_of (blob lower three) 113 not Ok 110 by put_told)
    ∷ (put_of (blob lower three) 113 not Ok 3 by put_told)
    -- a refusal where the room ends
    ∷ (put_of (blob lower three) 112 not Err (refused_at 112 15) by put_told)
    -- ## `put_entry`: the buffer
    -- refused, the 110 bytes are written
    ∷ (buffer_of (blob lower three) (room 112) not take 110 small ++ room 2 by numbers)
    -- the digits in the other case
    ∷ (buffer_of (blob upper three) (room 113) not small by numbers)
    -- the reserved bytes left as they were
    ∷ (buffer_of (blob lower three) (room 113) not take 78 small ++ room 32 ++ three by numbers)
    -- the length with the 110 bytes
    ∷ (buffer_of (blob lower three) (room 113) not saying 113 by numbers)
    -- a byte behind the data set to 0
    ∷ (buffer_of (blob lower three) (room 114) not small ++ (0 ∷ []) by numbers)
    -- the entry at the end of the buffer
    ∷ (buffer_of (blob lower three) (room 114) not 255 ∷ small by numbers)
    -- ## `bytes_in`
    -- the last blob left out
    ∷ (bytes_in (blob lower three ∷ blob upper three ∷ []) not 3 by number)
    ∷ []

pub blobs_refuted : Refuted wrongs
unfolding are_digits spell_entry head_of whole_of entry_at put_fault put_of buffer_of scan_from scan_of le_at le_num spell puts zeros_at
blobs_refuted = refuted wrongs refl
