-- BLOCK BY BLOCK: the rows of a section up to its bookend, where they stand in bytes, and what the records of a block say.
use Rattle.std.specs.Prelude.{◌≡◌, List, [], ◌∷◌, ◌++◌, map, ℕ, ◌+◌, ◌≤◌, length}
use Rattle.words.specs.Checks.{pick}
use Rattle.words.specs.Record.{words_at}
use Rattle.words.specs.declared.Words.{Words}
use Rattle.rules.specs.Kinds.{same_kind}
use Rattle.rules.specs.declared.Record.{Record}
use Rattle.rules.specs.declared.Kind.{Kind}
use Rattle.layout.specs.Layout.{Segment, FileBlock, Chunk, XorbBlock, Row, if_any, members, file_head_row, segment_row, verification_row, metadata_row, xorb_head_row, chunk_rows, bookend}

-- ## Heads and what is behind them

-- a kind of block: its head, and the entries behind the head
pub record BlockRows (B : Type 0) : Type 0 where
  pub head : B → Row
  pub entries : B → List Row

-- behind a file head: its segments, then its verifications and its metadata
abbrev pub other_rows : FileBlock → List Row
other_rows f = map verification_row (members f.verifications) ++ map metadata_row (if_any f.metadata)

abbrev pub entry_rows : FileBlock → List Row
entry_rows f = map segment_row f.segments ++ other_rows f

abbrev pub file_block : BlockRows FileBlock
file_block = record { head = file_head_row; entries = entry_rows }

abbrev pub xorb_block : BlockRows XorbBlock
xorb_block = record { head = xorb_head_row; entries = λ x. chunk_rows 0 x.chunks }

-- blocks of one kind, their bookend, and what follows it
abbrev pub blocks_then : {B : Type 0} → BlockRows B → List B → List Row → List Row
blocks_then k [] end = bookend ∷ end
blocks_then k (b ∷ bs) end = k.head b ∷ (k.entries b ++ blocks_then k bs end)

-- ## In bytes

-- these rows stand in the bytes from a position on
abbrev pub Stand : List ℕ → ℕ → List Row → Type 0
Stand bytes at [] = Unit {0}
Stand bytes at (r ∷ rs) = (words_at bytes at ≡ r.words) × (at + 48 ≤ length bytes) × Stand bytes (at + 48) rs

-- ## Among records

-- what the numbers of a segment's record say, and those of a chunk's
abbrev pub segment_of : Words → Segment
segment_of w = record { xorb = w.hash; bytes = w.b; start = w.c; end = w.d }

abbrev pub chunk_of : Words → Chunk
chunk_of w = record { hash = w.hash; bytes = w.b }

-- the numbers of the records in front of these that are of one kind, up to the first that is not
unfoldable pub leading : Kind → List Record → List Words
leading k [] = []
leading k (r ∷ rs) = pick (same_kind r.kind k) (r.words ∷ leading k rs) []
