-- THE WRITTEN RULES: how long the record is that is due at a place, which checks it must pass, what kind it is, and what is due after it.
-- Numbers are natural numbers and sums are exact. Every definition is total: it answers for each place, also for one that no reading gives.
--
-- The four numbers behind a record's hash, by document 01:
--
--                 a (at 32)          b (at 36)           c (at 40)          d (at 44)
--   header        version, 64 bits                       footer size, 64 bits
--   file head     flags              entries             reserved           reserved
--   segment       flags              unpacked bytes      chunk start        chunk end
--   verification  reserved           reserved            reserved           reserved
--   metadata      reserved           reserved            reserved           reserved
--   xorb head     flags              entries             bytes in xorb      bytes on disk
--   chunk         byte start         unpacked bytes      reserved           reserved
use Rattle.std.specs.Prelude.{ℕ, ◌+◌, ◌-◌, ◌*◌, ◌/◌, ◌%◌, Bool, true, false, ◌&&◌, ◌||◌, leb, List, ◌==◌, nat_eq, nat_le, nat_lt}
use Rattle.words.specs.Le.{long}
use Rattle.words.specs.Record.{same_hash, is_ones, tail_zero, words_at, footer_at}
use Rattle.words.specs.declared.Words.{Words}
use Rattle.words.specs.declared.Tag.{Tag}
use Rattle.words.specs.declared.Footer as foot
use Rattle.words.specs.Checks.{pick, fine, ◌unless◌then◌}
use Rattle.rules.specs.declared.Totals.{Totals}
use Rattle.rules.specs.declared.Place.{Place}
use Rattle.rules.specs.declared.Record.{Record}
use Rattle.rules.specs.declared.Kind.{Kind}
use Rattle.rules.specs.declared.Kind.TheVariants as kind
use Rattle.rules.specs.declared.Due.{Due}
use Rattle.rules.specs.declared.Due.TheVariants.{Header, FileHead, Segment, Verification, Metadata, XorbHead, Chunk, Footer, End, Refused}

-- ## Sizes

-- a shard is at most so many bytes
abbrev pub limit : ℕ
limit = 16777216

-- the header, each entry and each bookend are 48 bytes; the footer is 200; after the end nothing is due
abbrev pub size_by : Due → ℕ
size_by Header = 48
size_by FileHead = 48
size_by (Segment left) = 48
size_by (Verification left) = 48
size_by Metadata = 48
size_by XorbHead = 48
size_by (Chunk left sum total) = 48
size_by Footer = 200
size_by End = 0
size_by (Refused number) = 0

-- whether the footer is due
abbrev pub footer_due : Due → Bool
footer_due Header = false
footer_due FileHead = false
footer_due (Segment left) = false
footer_due (Verification left) = false
footer_due Metadata = false
footer_due XorbHead = false
footer_due (Chunk left sum total) = false
footer_due Footer = true
footer_due End = false
footer_due (Refused number) = false

abbrev pub size_of : Place → ℕ
size_of p = size_by p.due

abbrev pub footer_size : Bool → ℕ
footer_size footer = pick footer 200 0

-- ## Flags

abbrev pub bit31 : ℕ → Bool
bit31 flags = flags / 2147483648 % 2 == 1

abbrev pub bit30 : ℕ → Bool
bit30 flags = flags / 1073741824 % 2 == 1

-- the bits with no meaning here, 0 to 29, are 0
abbrev pub no_other_bit : ℕ → Bool
no_other_bit flags = flags % 1073741824 == 0

-- two flags agree about bit 31
abbrev pub same31 : ℕ → ℕ → Bool
same31 f g = f / 2147483648 % 2 == g / 2147483648 % 2

-- a file head declares n segments, n verifications if bit 31 is set, and one metadata record if bit 30 is set
abbrev pub further_records : ℕ → ℕ → ℕ
further_records flags n = n + pick (bit31 flags) n 0 + pick (bit30 flags) 1 0

-- bit 31 is that of the first file, if there was one; all files so far agree, so that the last one's bit is the first one's
abbrev pub agrees : Place → ℕ → Bool
agrees p flags = p.totals.files == 0 || same31 flags p.flags

-- a head at position p that declares m further records leaves room for the rest; the sum is exact
abbrev pub fits : ℕ → ℕ → ℕ → Bool
fits p m rest = nat_le (p + 48 + 48 * m + rest) limit

-- ## Checks
-- Each record's, in the order in which they are asked: the number of the refusal, unless what must hold does.

abbrev pub header_fault : Tag → Words → ℕ
header_fault tag w =
    -- the tag
    3 unless same_hash w.hash tag.0 then
    -- the version is 2
    4 unless nat_eq (long w.a w.b) 2 then
    -- the footer size is 0 or 200
    5 unless nat_eq (long w.c w.d) 0 || long w.c w.d == 200 then fine

-- an all-ones hash at a head
abbrev pub bookend_fault : Words → ℕ
bookend_fault w =
    -- the tail is zero
    8 unless tail_zero w then fine

abbrev pub file_head_fault : Place → Words → ℕ
file_head_fault p w =
    -- unnamed flag bits and reserved bytes are 0
    7 unless no_other_bit w.a && w.c == 0 && nat_eq w.d 0 then
    -- bit 31 is the first file's
    9 unless agrees p w.a then
    -- it declares no more than the limit holds: two bookends and the footer are still to come
    6 unless fits p.at.0 (further_records w.a w.b) (96 + footer_size p.footer) then fine

abbrev pub segment_fault : Words → ℕ
segment_fault w =
    -- the flags are 0
    7 unless nat_eq w.a 0 then
    -- the chunk start is below the chunk end
    10 unless nat_lt w.c w.d then fine

-- a verification, a metadata record
abbrev pub plain_fault : Words → ℕ
plain_fault w =
    -- the sixteen reserved bytes are 0
    7 unless tail_zero w then fine

abbrev pub xorb_head_fault : Place → Words → ℕ
xorb_head_fault p w =
    -- the flags are 0
    7 unless nat_eq w.a 0 then
    -- it declares no more than the limit holds: a bookend and the footer are still to come
    6 unless fits p.at.0 w.b (48 + footer_size p.footer) then
    -- a head with no chunks declares no bytes
    11 unless nat_lt 0 w.b || w.c == 0 then fine

-- left: this chunk and those after it; sum: the lengths before it; total: the head's bytes in xorb
abbrev pub chunk_fault : ℕ → ℕ → ℕ → Words → ℕ
chunk_fault left sum total w =
    -- the eight reserved bytes are 0
    7 unless nat_eq w.c 0 && nat_eq w.d 0 then
    -- it starts at the sum so far
    11 unless nat_eq w.a sum then
    -- the sum does not pass the head's bytes
    11 unless leb (sum + w.b) total then
    -- after the last chunk it is the head's bytes
    11 unless nat_lt 1 left || sum + w.b == total then fine

abbrev pub footer_fault : Place → foot.Footer → ℕ
footer_fault p f =
    -- the version is 1
    12 unless nat_eq f.version 1 then
    -- the file offset is 48
    13 unless nat_eq f.files 48 then
    -- the xorb offset is the byte after the first bookend
    13 unless nat_eq f.xorbs p.offset.0 then
    -- the footer offset is the byte after the second, where the footer starts
    13 unless nat_eq f.itself p.at.0 then
    -- the forty-eight and the seventy-two reserved bytes are 0
    7 unless f.clean then fine

-- the refusal number of a record of 48 bytes, 0 for none; a hash of all ones marks a bookend only where a head is expected
abbrev pub fault_by : Due → Tag → Place → Words → ℕ
fault_by Header tag p w = header_fault tag w
fault_by FileHead tag p w = pick (is_ones w.hash) (bookend_fault w) (file_head_fault p w)
fault_by (Segment left) tag p w = segment_fault w
fault_by (Verification left) tag p w = plain_fault w
fault_by Metadata tag p w = plain_fault w
fault_by XorbHead tag p w = pick (is_ones w.hash) (bookend_fault w) (xorb_head_fault p w)
fault_by (Chunk left sum total) tag p w = chunk_fault left sum total w
-- key, created and expiry may be any
fault_by Footer tag p w = fine
-- where nothing is due, no record is good
fault_by End tag p w = 14
fault_by (Refused number) tag p w = number

unfoldable pub fault_of : Tag → Place → Words → ℕ
fault_of tag p w = fault_by p.due tag p w

-- ## A whole record, from its bytes

-- its numbers: of a footer those at 72, where key, created and expiry stand
abbrev pub words_in : Place → List ℕ → Words
words_in p bytes = pick (footer_due p.due) (words_at bytes 72) (words_at bytes 0)

-- the number of its refusal, 0 for none
abbrev pub fault_in : Tag → Place → List ℕ → ℕ
fault_in tag p bytes = pick (footer_due p.due) (footer_fault p (footer_at bytes 0)) (fault_of tag p (words_at bytes 0))

-- ## Kinds

abbrev pub kind_by : Due → Words → Kind
kind_by Header w = kind.Header
kind_by FileHead w = pick (is_ones w.hash) kind.Bookend kind.FileHead
kind_by (Segment left) w = kind.Segment
kind_by (Verification left) w = kind.Verification
kind_by Metadata w = kind.Metadata
kind_by XorbHead w = pick (is_ones w.hash) kind.Bookend kind.XorbHead
kind_by (Chunk left sum total) w = kind.Chunk
kind_by Footer w = kind.Footer
-- after the end no record is due
kind_by End w = kind.Footer
kind_by (Refused number) w = kind.Footer

unfoldable pub kind_of : Place → Words → Kind
kind_of p w = kind_by p.due w

-- ## Records

-- a record as it is handed out: with its kind and position, and a footer with the xorb offset
unfoldable pub record_of : Place → Words → Record
record_of p w = record { at = p.at; offset = pick (footer_due p.due) p.offset (record { 0 = 0 }); words = w; kind = kind_of p w }

-- ## Order
-- Header; file blocks; bookend; xorb blocks; bookend; footer if the header's footer size is 200, none if it is 0.

-- n records of one kind, then what comes after them; n may be 0
abbrev pub many : ℕ → (ℕ → Due) → Due → Due
many n one after = pick (n == 0) after (one n)

-- one metadata record if bit 30 is set; then the next file head
abbrev pub after_verifications : ℕ → Due
after_verifications flags = pick (bit30 flags) Metadata FileHead

-- n verifications if bit 31 is set
abbrev pub after_segments : ℕ → ℕ → Due
after_segments flags n = pick (bit31 flags) (many n Verification (after_verifications flags)) (after_verifications flags)

-- n chunks of a xorb of so many bytes in all, sum of them before these; then the next xorb head
abbrev pub chunks_from : ℕ → ℕ → ℕ → Due
chunks_from n sum total = many n (λ left. Chunk left sum total) XorbHead

-- what is due after a good record
abbrev pub due_by : Due → Place → Words → Due
due_by Header p w = FileHead
due_by FileHead p w = pick (is_ones w.hash) XorbHead (many w.b Segment (after_segments w.a w.b))
due_by (Segment left) p w = many (left - 1) Segment (after_segments p.flags p.entries)
due_by (Verification left) p w = many (left - 1) Verification (after_verifications p.flags)
due_by Metadata p w = FileHead
due_by XorbHead p w = pick (is_ones w.hash) (pick p.footer Footer End) (chunks_from w.b 0 w.c)
due_by (Chunk left sum total) p w = chunks_from (left - 1) (sum + w.b) total
due_by Footer p w = End
due_by End p w = End
due_by (Refused number) p w = Refused number

-- ## Counts

abbrev pub counts : ℕ → ℕ → ℕ → ℕ → ℕ → Totals
counts files segments xorbs chunks bytes = record { files = files; segments = segments; xorbs = xorbs; chunks = chunks; bytes = bytes }

abbrev pub nothing : Totals
nothing = counts 0 0 0 0 0

abbrev pub plus : Totals → Totals → Totals
plus t u = counts (t.files + u.files) (t.segments + u.segments) (t.xorbs + u.xorbs) (t.chunks + u.chunks) (t.bytes + u.bytes)

-- what a record counts
abbrev pub count_by : Kind → Words → Totals
count_by kind.Header w = nothing
count_by kind.FileHead w = counts 1 0 0 0 0
count_by kind.Segment w = counts 0 1 0 0 w.b
count_by kind.Verification w = nothing
count_by kind.Metadata w = nothing
count_by kind.XorbHead w = counts 0 0 1 0 0
count_by kind.Chunk w = counts 0 0 0 1 0
count_by kind.Bookend w = nothing
count_by kind.Footer w = nothing

-- ## The next place

abbrev pub with_footer : Bool → Place → Place
with_footer footer p = record { at = p.at; offset = p.offset; totals = p.totals; flags = p.flags; entries = p.entries; footer = footer; due = p.due }

abbrev pub with_file : ℕ → ℕ → Place → Place
with_file flags entries p = record { at = p.at; offset = p.offset; totals = p.totals; flags = flags; entries = entries; footer = p.footer; due = p.due }

abbrev pub with_offset : ℕ → Place → Place
with_offset offset p = record { at = p.at; offset = record { 0 = offset }; totals = p.totals; flags = p.flags; entries = p.entries; footer = p.footer; due = p.due }

-- what a good record leaves to remember: a header whether there is a footer, a file head its flags and entries, the first bookend the byte after it
abbrev pub known_by : Due → ℕ → Place → Words → Place
known_by Header after p w = with_footer (long w.c w.d == 200) p
known_by FileHead after p w = pick (is_ones w.hash) (with_offset after p) (with_file w.a w.b p)
known_by (Segment left) after p w = p
known_by (Verification left) after p w = p
known_by Metadata after p w = p
known_by XorbHead after p w = p
known_by (Chunk left sum total) after p w = p
known_by Footer after p w = p
known_by End after p w = p
known_by (Refused number) after p w = p

-- the same place at another position, with other totals and something else due
abbrev pub moved_to : ℕ → Totals → Due → Place → Place
moved_to at totals due p = record { at = record { 0 = at }; offset = p.offset; totals = totals; flags = p.flags; entries = p.entries; footer = p.footer; due = due }

-- the place after a good record
abbrev pub next_by : Due → Place → Words → Place
next_by due p w =
    moved_to (p.at.0 + size_by due) (plus p.totals (count_by (kind_by due w) w)) (due_by due p w)
    (known_by due (p.at.0 + size_by due) p w)

unfoldable pub next_of : Place → Words → Place
next_of p w = next_by p.due p w

-- where reading begins
abbrev pub start : Place
start = record { at = record { 0 = 0 }; offset = record { 0 = 0 }; totals = nothing; flags = 0; entries = 0; footer = false; due = Header }
