-- THE SHARD AS A TREE, and its bytes. Nothing here knows of places, of what is due or of refusals.
-- What can be derived is not in the tree: flags, entry counts, chunk starts, bytes in xorb, offsets.
use Rattle.std.specs.Prelude.{◌≡◌, ◌≢◌, ℕ, ◌+◌, ◌*◌, ◌^◌, ◌≤◌, ◌<◌, List, [], ◌∷◌, ◌++◌, map, Bool, true, false, length}
use Rattle.std.proofs.Math.Option.{Option, none, some}
use Rattle.words.specs.Checks.{pick}
use Rattle.words.specs.Le.{low, high}
use Rattle.words.specs.Record.{IsHash, hash_at, ones, spell_words, spell_footer}
use Rattle.words.specs.declared.Words.{Words}
use Rattle.rules.specs.Rules as rules
use Rattle.rules.specs.Rules.{limit}
use Rattle.rules.specs.declared.Totals.{Totals}
use Rattle.rules.specs.declared.Record.{Record}
use Rattle.rules.specs.declared.Kind.{Kind}
use Rattle.rules.specs.declared.Kind.TheVariants as kind

-- ## The tree

-- a hash is four numbers of 64 bits
abbrev pub Hash : Type 0
Hash = List ℕ

pub record Segment : Type 0 where
  pub xorb : Hash
  pub bytes : ℕ
  pub start : ℕ
  pub end : ℕ

-- a file has a verification for each segment, or none; a metadata record, or none
pub record FileBlock : Type 0 where
  pub hash : Hash
  pub segments : List Segment
  pub verifications : Option (List Hash)
  pub metadata : Option Hash

pub record Chunk : Type 0 where
  pub hash : Hash
  pub bytes : ℕ

pub record XorbBlock : Type 0 where
  pub hash : Hash
  pub disk : ℕ
  pub chunks : List Chunk

pub record Foot : Type 0 where
  pub key : Hash
  pub created : ℕ
  pub expiry : ℕ

pub record Shard : Type 0 where
  pub files : List FileBlock
  pub xorbs : List XorbBlock
  pub footer : Option Foot

-- ## Words for parts that may be absent, and for sums

module _ {A : Type 0} where
  abbrev pub has : Option A → Bool
  has none = false
  has (some x) = true

  abbrev pub if_any : Option A → List A
  if_any none = []
  if_any (some x) = x ∷ []

  abbrev pub members : Option (List A) → List A
  members none = []
  members (some l) = l

  abbrev pub sum_of : (A → ℕ) → List A → ℕ
  sum_of f [] = 0
  sum_of f (x ∷ xs) = f x + sum_of f xs

  abbrev pub joined : {B : Type 0} → (A → List B) → List A → List B
  joined f [] = []
  joined f (x ∷ xs) = f x ++ joined f xs

  abbrev pub Each : (A → Type 0) → List A → Type 0
  Each P [] = Unit {0}
  Each P (x ∷ xs) = P x × Each P xs

-- ## The rows of the table: records of 48 bytes

pub record Row : Type 0 where
  pub kind : Kind
  pub words : Words

abbrev pub row : Kind → Hash → ℕ → ℕ → ℕ → ℕ → Row
row k hash a b c d = record { kind = k; words = record { hash = hash; a = a; b = b; c = c; d = d } }

abbrev pub footer_size : Shard → ℕ
footer_size s = rules.footer_size (has s.footer)

abbrev pub header_row : List ℕ → Shard → Row
header_row tag s = row kind.Header (hash_at tag 0) 2 0 (footer_size s) 0

-- bit 31: there are verifications; bit 30: there is a metadata record
abbrev pub flags_of : FileBlock → ℕ
flags_of f = pick (has f.verifications) 2147483648 0 + pick (has f.metadata) 1073741824 0

abbrev pub file_head_row : FileBlock → Row
file_head_row f = row kind.FileHead f.hash (flags_of f) (length f.segments) 0 0

abbrev pub segment_row : Segment → Row
segment_row s = row kind.Segment s.xorb 0 s.bytes s.start s.end

abbrev pub verification_row : Hash → Row
verification_row h = row kind.Verification h 0 0 0 0

abbrev pub metadata_row : Hash → Row
metadata_row h = row kind.Metadata h 0 0 0 0

-- a head, n segments, n verifications or none, one metadata record or none
unfoldable pub file_rows : FileBlock → List Row
file_rows f = file_head_row f ∷ (map segment_row f.segments ++ (map verification_row (members f.verifications) ++ map metadata_row (if_any f.metadata)))

abbrev pub bytes_in : List Chunk → ℕ
bytes_in chunks = sum_of (λ c. c.bytes) chunks

abbrev pub xorb_head_row : XorbBlock → Row
xorb_head_row x = row kind.XorbHead x.hash 0 (length x.chunks) (bytes_in x.chunks) x.disk

-- each chunk starts where the one before ended
abbrev pub chunk_rows : ℕ → List Chunk → List Row
chunk_rows start [] = []
chunk_rows start (c ∷ cs) = row kind.Chunk c.hash start c.bytes 0 0 ∷ chunk_rows (start + c.bytes) cs

-- a head and n chunks, the first of which starts at 0
unfoldable pub xorb_rows : XorbBlock → List Row
xorb_rows x = xorb_head_row x ∷ chunk_rows 0 x.chunks

abbrev pub bookend : Row
bookend = row kind.Bookend ones 0 0 0 0

-- file blocks; bookend
unfoldable pub file_section : Shard → List Row
file_section s = joined file_rows s.files ++ (bookend ∷ [])

-- xorb blocks; bookend
unfoldable pub xorb_section : Shard → List Row
xorb_section s = joined xorb_rows s.xorbs ++ (bookend ∷ [])

unfoldable pub rows_of : List ℕ → Shard → List Row
rows_of tag s = header_row tag s ∷ (file_section s ++ xorb_section s)

-- ## Its bytes

-- the byte after the first bookend, the byte after the second, and the whole
unfoldable pub xorb_offset : Shard → ℕ
xorb_offset s = 48 + 48 * length (file_section s)

unfoldable pub footer_offset : Shard → ℕ
footer_offset s = xorb_offset s + 48 * length (xorb_section s)

unfoldable pub length_of : Shard → ℕ
length_of s = footer_offset s + footer_size s

abbrev pub spell_rows : List Row → List ℕ
spell_rows [] = []
spell_rows (r ∷ rs) = spell_words r.words ++ spell_rows rs

-- key, created and expiry, as the 48 bytes at 72
abbrev pub foot_words : Foot → Words
foot_words f = record { hash = f.key; a = low f.created; b = high f.created; c = low f.expiry; d = high f.expiry }

abbrev pub spell_foot : ℕ → ℕ → Foot → List ℕ
spell_foot xorbs here f = spell_footer xorbs here (foot_words f)

-- the bytes of a shard
unfoldable pub bytes_of : List ℕ → Shard → List ℕ
bytes_of tag s = spell_rows (rows_of tag s) ++ joined (spell_foot (xorb_offset s) (footer_offset s)) (if_any s.footer)

-- ## Its records and totals

-- rows from a position on
abbrev pub placed : ℕ → List Row → List Record
placed at [] = []
placed at (r ∷ rs) = record { at = record { 0 = at }; offset = record { 0 = 0 }; words = r.words; kind = r.kind } ∷ placed (at + 48) rs

abbrev pub foot_record : ℕ → ℕ → Foot → Record
foot_record xorbs here f = record { at = record { 0 = here }; offset = record { 0 = xorbs }; words = foot_words f; kind = kind.Footer }

unfoldable pub records_of : List ℕ → Shard → List Record
records_of tag s = placed 0 (rows_of tag s) ++ map (foot_record (xorb_offset s) (footer_offset s)) (if_any s.footer)

unfoldable pub totals_of : Shard → Totals
totals_of s = record {
  files = length s.files;
  segments = sum_of (λ f. length f.segments) s.files;
  xorbs = length s.xorbs;
  chunks = sum_of (λ x. length x.chunks) s.xorbs;
  bytes = sum_of (λ f. sum_of (λ g. g.bytes) f.segments) s.files;
}

-- ## Which trees are shards

pub record SoundSegment (s : Segment) : Type 0 where
  pub xorb : IsHash s.xorb
  pub bytes : s.bytes < 2 ^ 32
  pub start_end : s.start < s.end
  pub end : s.end < 2 ^ 32

-- one verification for each segment, if there are any at all
abbrev pub Matched : Option (List Hash) → ℕ → Type 0
Matched none n = Unit {0}
Matched (some l) n = length l ≡ n

pub record SoundFile (f : FileBlock) : Type 0 where
  pub hash : IsHash f.hash
  pub not_ones : f.hash ≢ ones
  pub segments : Each SoundSegment f.segments
  pub verifications : Each IsHash (members f.verifications)
  pub matched : Matched f.verifications (length f.segments)
  pub metadata : Each IsHash (if_any f.metadata)

pub record SoundChunk (c : Chunk) : Type 0 where
  pub hash : IsHash c.hash

pub record SoundXorb (x : XorbBlock) : Type 0 where
  pub hash : IsHash x.hash
  pub not_ones : x.hash ≢ ones
  pub disk : x.disk < 2 ^ 32
  pub chunks : Each SoundChunk x.chunks
  pub bytes : bytes_in x.chunks < 2 ^ 32

pub record SoundFoot (f : Foot) : Type 0 where
  pub key : IsHash f.key
  pub created : f.created < 2 ^ 64
  pub expiry : f.expiry < 2 ^ 64

abbrev pub verified : FileBlock → Bool
verified f = has f.verifications

-- all files agree with the first one about verifications
abbrev pub Agree : List FileBlock → Type 0
Agree [] = Unit {0}
Agree (f ∷ fs) = Each (λ g. verified g ≡ verified f) fs

pub record Sound (s : Shard) : Type 0 where
  pub files : Each SoundFile s.files
  pub agree : Agree s.files
  pub xorbs : Each SoundXorb s.xorbs
  pub footer : Each SoundFoot (if_any s.footer)
  pub short : length_of s ≤ limit
