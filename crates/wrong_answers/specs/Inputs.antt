-- The inputs at which answers are tried: places, readers and writers that stand there, and a few shards. Tag, hash, rows, bookend and footer are the quay's.
use Rattle.std.specs.Prelude.{ℕ, true, List, [], ◌∷◌, ◌++◌, take, replicate}
use Rattle.words.specs.declared.Words.{Words}
use Rattle.words.specs.declared.Tag.{Tag}
use Rattle.rules.specs.Rules.{moved_to, with_offset, with_footer, nothing, start}
use Rattle.rules.specs.declared.Place.{Place}
use Rattle.rules.specs.declared.Due.{Due}
use Rattle.rules.specs.declared.Due.TheVariants.{Segment, Footer, End}
use Rattle.layout.specs.Quay.{tag, hash, row, header, bookend, footer}
use Rattle.reader.specs.Stream.{emptied}
use Rattle.reader.specs.declared.Reader.{Reader}
use Rattle.writer.specs.declared.Writer.{Writer}
use Rattle.writer.specs.declared.Offer.{Offer}
use Rattle.writer.specs.declared.Fields.{Fields}
use Rattle.plan.specs.declared.Row.{Row}
use Rattle.host.specs.declared.OfferState.{OfferState}
use Rattle.host.specs.declared.PlaceState.{PlaceState}
use Rattle.host.specs.declared.StandState.{StandState}

-- ## Numbers of records

abbrev pub words : ℕ → ℕ → ℕ → ℕ → Words
words a b c d = record { hash = hash; a = a; b = b; c = c; d = d }

-- the hash of all ones, and another one
abbrev pub ones_words : ℕ → Words
ones_words a = record { hash = replicate 4 18446744073709551615; a = a; b = 0; c = 0; d = 0 }

abbrev pub other : List ℕ
other = 5 ∷ 6 ∷ 7 ∷ 8 ∷ []

-- bits 31 and 30
abbrev pub flag31 : ℕ
flag31 = 2147483648

abbrev pub flag30 : ℕ
flag30 = 1073741824

-- ## Places

-- at a position, with this due
abbrev pub here : ℕ → Due → Place
here at due = moved_to at nothing due start

-- where the only segment of a file is due
abbrev pub at_segment : Place
at_segment = here 96 (Segment 1)

-- behind the shard of 144 bytes
abbrev pub at_end : Place
at_end = here 144 End

-- where the footer of a shard with nothing else is due
abbrev pub at_footer : Place
at_footer = with_footer true (with_offset 96 (here 144 Footer))

-- ## Those that stand there

abbrev pub tag_short : List ℕ
tag_short = take 31 tag

-- a tag of the hash's numbers
abbrev pub four : Tag
four = record { 0 = hash }

abbrev pub reader : Place → Reader
reader p = emptied four p

abbrev pub writer : Place → Writer
writer p = record { tag = four; place = p }

abbrev pub offer : Fields → Offer
offer f = record { hash = hash; fields = f }

-- ## As a host hands them in

-- a place where what is due has this code, and so much is left
abbrev pub place_with : ℕ → ℕ → PlaceState
place_with code left = record {
  at = 96;
  offset = 0;
  totals = record { files = 0; segments = 0; xorbs = 0; chunks = 0; bytes = 0 };
  due = record { sum = 0; total = 0; code = code; left = left };
  flags = 0;
  entries = 0;
  footer = 2;
  have = 7;
}

-- a reader or a writer that stands there
abbrev pub stand_with : ℕ → ℕ → StandState
stand_with code left = record { tag = hash; place = place_with code left }

-- a struct of zeros
abbrev pub blank : StandState
blank = record {
  tag = replicate 4 0;
  place = record {
    at = 0;
    offset = 0;
    totals = record { files = 0; segments = 0; xorbs = 0; chunks = 0; bytes = 0 };
    due = record { sum = 0; total = 0; code = 0; left = 0 };
    flags = 0;
    entries = 0;
    footer = 0;
    have = 0;
  };
}

-- an offer of this kind
abbrev pub offered : ℕ → OfferState
offered kind = record { hash = hash; x = 5; y = 6; kind = kind; a = 1; b = 2; c = 3; d = 4 }

-- a fetch row, by xorb, chunk start and end, bytes to skip and bytes to take; and one as it is lent
abbrev pub fetch_row : List ℕ → ℕ → ℕ → ℕ → ℕ → Row
fetch_row xorb start end skip take = record { xorb = xorb; start = record { 0 = start }; end = record { 0 = end }; skip = skip; take = take }

abbrev pub lent_row : Row
lent_row = fetch_row (replicate 4 9) 9 9 9 9

-- ## Bytes

abbrev pub zeros : ℕ → List ℕ
zeros n = replicate n 0

-- a segment of 7 bytes, chunks 5 to 5, and one of chunks 5 to 6
abbrev pub bad_segment : List ℕ
bad_segment = row hash 0 7 5 5

abbrev pub good_segment : List ℕ
good_segment = row hash 0 7 5 6

-- the shard of 144 bytes, and one byte more
abbrev pub empty : List ℕ
empty = header 0 ++ bookend ++ bookend

abbrev pub late : List ℕ
late = empty ++ (0 ∷ [])

-- one xorb with two chunks, at 144 and 192
abbrev pub chunks : List ℕ
chunks = header 0 ++ bookend ++ row hash 0 2 30 0 ++ row hash 0 10 0 0 ++ row other 10 20 0 0 ++ bookend

-- a file of one segment and its verification, and at 192 an empty one
abbrev pub files : List ℕ
files = header 0 ++ row hash flag31 1 0 0 ++ good_segment ++ row hash 0 0 0 0 ++ row other flag31 0 0 0 ++ bookend ++ bookend

-- the shard of an empty file with these flags, and of one with bit 31 and a footer, at 192
abbrev pub file_with : ℕ → List ℕ
file_with flags = header 0 ++ row hash flags 0 0 0 ++ bookend ++ bookend

abbrev pub footed : List ℕ
footed = header 200 ++ row hash flag31 0 0 0 ++ bookend ++ bookend ++ footer 48 144 192

-- an empty file with bit 31, an empty xorb of 7 bytes on disk, and the shard of both
abbrev pub empty_file : List ℕ → List ℕ
empty_file h = row h flag31 0 0 0

abbrev pub empty_xorb : List ℕ → List ℕ
empty_xorb h = row h 0 0 0 7

abbrev pub one_of_each : List ℕ → List ℕ
one_of_each h = header 0 ++ empty_file h ++ bookend ++ empty_xorb h ++ bookend

-- a file of three segments, of 3, 0 and 2 bytes, and at 240 an empty one
abbrev pub three_segments : List ℕ
three_segments = header 0 ++ row other 0 3 0 0 ++ row hash 0 3 1 4 ++ row hash 0 0 4 5 ++ row other 0 2 0 2 ++ row hash 0 0 0 0 ++ bookend ++ bookend

-- a segment that claims so many bytes for chunks of a xorb, from start up to end
abbrev pub claims : List ℕ → ℕ → ℕ → ℕ → List ℕ
claims xorb start end bytes = row xorb 0 bytes start end

-- three xorbs: chunks of 10, 20 and 30 bytes; another one of the same hash, with a chunk of 1 byte; and one without chunks
abbrev pub third : List ℕ
third = 9 ∷ 9 ∷ 9 ∷ 9 ∷ []

abbrev pub xorbs : List ℕ
xorbs = row hash 0 3 60 0 ++ row third 0 10 0 0 ++ row third 10 20 0 0 ++ row third 30 30 0 0 ++ row hash 0 1 1 0 ++ row third 0 1 0 0 ++ row other 0 0 0 0

-- a file of so many segments, the first of them at 96, and these xorbs
abbrev pub with_xorbs : ℕ → List ℕ → List ℕ
with_xorbs n segments = header 0 ++ row third 0 n 0 0 ++ segments ++ bookend ++ xorbs ++ bookend
