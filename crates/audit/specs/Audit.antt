-- THE AUDIT: what a segment says of a xorb that the same shard lists is held against that xorb's chunks; for any tag and any bytes.
-- Numbers are natural numbers, and a difference below zero is 0.
use Rattle.std.specs.Prelude.{ℕ, ◌+◌, ◌-◌, ◌*◌, Bool, false, ◌&&◌, not, List, [], ◌∷◌, ◌++◌, map, eqb, leb, length, take, drop, Result, Ok, Err}
use Rattle.std.proofs.Math.Option.{Option, none, some}
use Rattle.words.specs.Checks.{pick}
use Rattle.words.specs.Record.{same_hash}
use Rattle.words.specs.Refusals.{refused_at}
use Rattle.rules.specs.Kinds.{same_kind}
use Rattle.rules.specs.declared.Record.{Record}
use Rattle.words.specs.declared.Refusal.{Refusal}
use Rattle.rules.specs.declared.Kind.TheVariants as kind
use Rattle.layout.specs.Layout.{Hash, Segment, FileBlock, Chunk, XorbBlock, Shard, has, sum_of, bytes_in, file_rows}
use Rattle.layout.specs.Scan.{found_in, if_accepted}
use Rattle.layout.specs.Blocks.{segment_of, chunk_of, leading}
use Rattle.audit.specs.declared.Counts.{Counts}
use Rattle.audit.specs.declared.AuditedNumbers.{AuditedNumbers}

-- ## One segment

-- A xorb block of four chunks, and a segment that names the second and the third.
--
--     chunks      |   0   |    1    |  2  |     3     |
--     segment             |---------------|
--                         start 1         end 3

-- the first block of that hash where there are several
abbrev pub first_block : Hash → List XorbBlock → Option XorbBlock
first_block hash [] = none
first_block hash (x ∷ xs) = pick (same_hash x.hash hash) (some x) (first_block hash xs)

-- the segment names a xorb that the shard lists
abbrev pub is_listed : List XorbBlock → Segment → Bool
is_listed xorbs s = has (first_block s.xorb xorbs)

-- the lengths of the chunks from start up to but not including end, together
abbrev pub bytes_between : ℕ → ℕ → List Chunk → ℕ
bytes_between start end chunks = bytes_in (take (end - start) (drop start chunks))

-- its chunk end does not pass the xorb's chunk count, and its unpacked bytes are the sum of those chunks' lengths
abbrev pub is_true_of : XorbBlock → Segment → Bool
is_true_of x s = leb s.end (length x.chunks) && eqb s.bytes (bytes_between s.start s.end x.chunks)

-- false of the xorb that it names, if that is listed; a xorb that is not can't tell
abbrev pub is_false_of : Option XorbBlock → Segment → Bool
is_false_of none s = false
is_false_of (some x) s = not (is_true_of x s)

abbrev pub is_false : List XorbBlock → Segment → Bool
is_false xorbs s = is_false_of (first_block s.xorb xorbs) s

-- ## All of them

-- a segment, and the position of its record
pub record PlacedSegment : Type 0 where
  pub at : ℕ
  pub segment : Segment

-- where the first false one starts, if there is one
unfoldable pub first_false : List XorbBlock → List PlacedSegment → Option ℕ
first_false xorbs [] = none
first_false xorbs (p ∷ ps) = pick (is_false xorbs p.segment) (some p.at) (first_false xorbs ps)

-- how many name a listed xorb, and how many don't
abbrev pub listed_of : List XorbBlock → List PlacedSegment → ℕ
listed_of xorbs ps = sum_of (λ p. pick (is_listed xorbs p.segment) 1 0) ps

abbrev pub unlisted_of : List XorbBlock → List PlacedSegment → ℕ
unlisted_of xorbs ps = sum_of (λ p. pick (is_listed xorbs p.segment) 0 1) ps

abbrev pub counts_of : List XorbBlock → List PlacedSegment → Counts
counts_of xorbs ps = record { listed = listed_of xorbs ps; unlisted = unlisted_of xorbs ps }

abbrev pub false_at : ℕ → Refusal
false_at at = refused_at at 22

-- 22 at the first false segment, or the counts if there is none
abbrev pub answer_to : Option ℕ → Counts → Result Counts Refusal
answer_to none counts = Ok counts
answer_to (some at) counts = Err (false_at at)

-- the paper's numbers for each case: the two counts, or the refusal
abbrev pub audited_numbers : Result Counts Refusal → AuditedNumbers
audited_numbers (Ok counts) = record { listed = counts.listed; unlisted = counts.unlisted; at = 0; number = 0 }
audited_numbers (Err refusal) = record { listed = 0; unlisted = 0; at = refusal.at.0; number = refusal.number }

unfoldable pub audit_in : List XorbBlock → List PlacedSegment → Result Counts Refusal
audit_in xorbs ps = answer_to (first_false xorbs ps) (counts_of xorbs ps)

-- ## In the tree

-- segments one behind the other, from a position on
abbrev pub placed_behind : ℕ → List Segment → List PlacedSegment
placed_behind at [] = []
placed_behind at (s ∷ ss) = record { at = at; segment = s } ∷ placed_behind (at + 48) ss

-- those of files, the first of which stands at a position: they come behind its head
abbrev pub placed_from : ℕ → List FileBlock → List PlacedSegment
placed_from at [] = []
placed_from at (f ∷ fs) = placed_behind (at + 48) f.segments ++ placed_from (at + 48 * length (file_rows f)) fs

-- those of a shard: the first file stands behind the header
abbrev pub placed_of : Shard → List PlacedSegment
placed_of s = placed_from 48 s.files

abbrev pub audit_for : Shard → Result Counts Refusal
audit_for s = audit_in s.xorbs (placed_of s)

-- ## In bytes

-- the segments among records
unfoldable pub placed_in : List Record → List PlacedSegment
placed_in [] = []
placed_in (r ∷ rs) = pick (same_kind r.kind kind.Segment) (record { at = r.at.0; segment = segment_of r.words } ∷ placed_in rs) (placed_in rs)

-- the xorb blocks among records: each head with the chunks behind it
unfoldable pub blocks_in : List Record → List XorbBlock
blocks_in [] = []
blocks_in (r ∷ rs) = pick (same_kind r.kind kind.XorbHead) (record { hash = r.words.hash; disk = r.words.d; chunks = map chunk_of (leading kind.Chunk rs) } ∷ blocks_in rs) (blocks_in rs)

-- the shard's own refusal comes first
unfoldable pub audit_of : List ℕ → List ℕ → Result Counts Refusal
audit_of tag shard = if_accepted Err (found_in tag shard).verdict (λ s. audit_in (blocks_in (found_in tag shard).records) (placed_in (found_in tag shard).records))
