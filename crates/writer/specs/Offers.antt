-- What is offered to a writer, and the record that it makes of it: the tag, the versions, reserved bytes and bookends are the writer's own.
-- What a record offers again is beside it, so that what a reader hands out can be offered as it stands.
use Rattle.std.specs.Prelude.{ℕ, ◌^◌, ◌<◌, List}
use Rattle.words.specs.Le.{long, low, high}
use Rattle.words.specs.Record.{IsHash, ones}
use Rattle.words.specs.declared.Words.{Words}
use Rattle.words.specs.declared.Tag.{Tag}
use Rattle.rules.specs.declared.Record.{Record}
use Rattle.rules.specs.declared.Kind.{Kind}
use Rattle.rules.specs.declared.Kind.TheVariants as kind
use Rattle.writer.specs.declared.Offer.{Offer}
use Rattle.writer.specs.declared.Fields.{Fields}
use Rattle.writer.specs.declared.Fields.TheVariants.{Header, FileHead, Segment, Verification, Metadata, XorbHead, Chunk, SectionEnd, Footer}

-- ## What an offer asks for

-- the kind of record; the end of a section is a bookend
abbrev pub kind_by : Fields → Kind
kind_by (Header size) = kind.Header
kind_by (FileHead flags entries) = kind.FileHead
kind_by (Segment flags bytes start end) = kind.Segment
kind_by Verification = kind.Verification
kind_by Metadata = kind.Metadata
kind_by (XorbHead flags entries bytes disk) = kind.XorbHead
kind_by (Chunk start bytes) = kind.Chunk
kind_by SectionEnd = kind.Bookend
kind_by (Footer created expiry) = kind.Footer

abbrev pub kind_offered : Offer → Kind
kind_offered o = kind_by o.fields

abbrev words : List ℕ → ℕ → ℕ → ℕ → ℕ → Words
words hash a b c d = record { hash = hash; a = a; b = b; c = c; d = d }

-- the hash of the record: a header has the tag and a bookend all ones, any other the hash offered
abbrev pub hash_by : Fields → Tag → List ℕ → List ℕ
hash_by (Header size) tag hash = tag.0
hash_by (FileHead flags entries) tag hash = hash
hash_by (Segment flags bytes start end) tag hash = hash
hash_by Verification tag hash = hash
hash_by Metadata tag hash = hash
hash_by (XorbHead flags entries bytes disk) tag hash = hash
hash_by (Chunk start bytes) tag hash = hash
hash_by SectionEnd tag hash = ones
hash_by (Footer created expiry) tag hash = hash

-- the numbers behind it
abbrev numbers_by : Fields → List ℕ → Words
numbers_by (Header size) hash = words hash 2 0 (low size) (high size)
numbers_by (FileHead flags entries) hash = words hash flags entries 0 0
numbers_by (Segment flags bytes start end) hash = words hash flags bytes start.0 end.0
numbers_by Verification hash = words hash 0 0 0 0
numbers_by Metadata hash = words hash 0 0 0 0
numbers_by (XorbHead flags entries bytes disk) hash = words hash flags entries bytes disk
numbers_by (Chunk start bytes) hash = words hash start bytes 0 0
numbers_by SectionEnd hash = words hash 0 0 0 0
numbers_by (Footer created expiry) hash = words hash (low created) (high created) (low expiry) (high expiry)

-- the whole record; of a footer what stands at 72: key, created and expiry
abbrev pub words_by : Fields → Tag → List ℕ → Words
words_by f tag hash = numbers_by f (hash_by f tag hash)

unfoldable pub words_of : Tag → Offer → Words
words_of tag o = words_by o.fields tag o.hash

-- the numbers of an offer are in their ranges; those of the code's types always are
abbrev pub In64 : ℕ → Type 0
In64 n = n < 2 ^ 64

abbrev pub In32 : ℕ → Type 0
In32 n = n < 2 ^ 32

abbrev pub RangesBy : Fields → Type 0
RangesBy (Header size) = In64 size
RangesBy (FileHead flags entries) = In32 flags × In32 entries
RangesBy (Segment flags bytes start end) = In32 flags × In32 bytes × In32 start.0 × In32 end.0
RangesBy Verification = Unit {0}
RangesBy Metadata = Unit {0}
RangesBy (XorbHead flags entries bytes disk) = In32 flags × In32 entries × In32 bytes × In32 disk
RangesBy (Chunk start bytes) = In32 start × In32 bytes
RangesBy SectionEnd = Unit {0}
RangesBy (Footer created expiry) = In64 created × In64 expiry

pub record InRange (o : Offer) : Type 0 where
  pub hash : IsHash o.hash
  pub fields : RangesBy o.fields

-- ## What a record offers

abbrev pub fields_by : Kind → Words → Fields
fields_by kind.Header w = Header (long w.c w.d)
fields_by kind.FileHead w = FileHead w.a w.b
fields_by kind.Segment w = Segment w.a w.b (record { 0 = w.c }) (record { 0 = w.d })
fields_by kind.Verification w = Verification
fields_by kind.Metadata w = Metadata
fields_by kind.XorbHead w = XorbHead w.a w.b w.c w.d
fields_by kind.Chunk w = Chunk w.a w.b
fields_by kind.Bookend w = SectionEnd
fields_by kind.Footer w = Footer (long w.a w.b) (long w.c w.d)

unfoldable pub fields_of : Record → Fields
fields_of r = fields_by r.kind r.words

unfoldable pub offer_of : Record → Offer
offer_of r = record { hash = r.words.hash; fields = fields_of r }
