-- THE PIECES TO FETCH for the bytes of one file from a up to but not including b, in an accepted shard; for any tag, any bytes, any numbers and any table.
-- Numbers are natural numbers, and a difference below zero is 0.
use Rattle.std.specs.Prelude.{ℕ, zero, suc, ◌+◌, ◌-◌, min, max, Bool, ◌&&◌, List, [], ◌∷◌, ◌++◌, map, leb, ltb, length, drop, Result, Ok, Err}
use Rattle.std.proofs.Math.Option.{Option, none, some}
use Rattle.words.specs.Checks.{pick, ◌unless◌then◌}
use Rattle.rules.specs.Kinds.{same_kind}
use Rattle.rules.specs.Rules.{start}
use Rattle.rules.specs.Verdicts.{refusal_at}
use Rattle.rules.specs.declared.Record.{Record}
use Rattle.words.specs.declared.Refusal.{Refusal}
use Rattle.rules.specs.declared.Kind.TheVariants as kind
use Rattle.layout.specs.Layout.{Segment, FileBlock, sum_of}
use Rattle.layout.specs.Blocks.{segment_of, leading}
use Rattle.layout.specs.Scan.{found_in, if_accepted}
use Rattle.plan.specs.declared.Row.{Row}
use Rattle.plan.specs.declared.PlannedNumbers.{PlannedNumbers}

-- ## The rows

-- A file of four segments, of which the third has no bytes, and a range. The first segment's row skips some bytes and takes the others, the second's
-- takes all, the last one's takes some; the third has no row.
--
--     file    |   first   |      second      |    fourth    |
--             0                                             file_bytes
--     range         |------------------------------|
--                   a                              b
--     takes         |-----|------------------|-----|

-- a segment, and how many bytes of its file are before it
pub record Extent : Type 0 where
  pub segment : Segment
  pub before : ℕ

-- each segment begins where the one before it ends
abbrev pub extents_from : ℕ → List Segment → List Extent
extents_from n [] = []
extents_from n (s ∷ ss) = record { segment = s; before = n } ∷ extents_from (n + s.bytes) ss

-- the byte of the file behind the segment
abbrev pub behind : Extent → ℕ
behind e = e.before + e.segment.bytes

-- the first byte of the file that the segment and the range may share, and the byte behind the last
abbrev pub from : ℕ → Extent → ℕ
from a e = max a e.before

abbrev pub up_to : ℕ → Extent → ℕ
up_to b e = min b (behind e)

-- the segment shares at least one byte with the range
abbrev pub shares : ℕ → ℕ → Extent → Bool
shares a b e = ltb (from a e) (up_to b e)

-- xorb hash, chunk start and end, bytes to skip in the segment, bytes to take
abbrev pub row_for : ℕ → ℕ → Extent → Row
row_for a b e = record {
  xorb = e.segment.xorb;
  start = record { 0 = e.segment.start };
  end = record { 0 = e.segment.end };
  skip = from a e - e.before;
  take = up_to b e - from a e;
}

-- those of which a test holds, in their order
abbrev pub only_if : (Extent → Bool) → List Extent → List Extent
only_if test [] = []
only_if test (e ∷ es) = pick (test e) (e ∷ only_if test es) (only_if test es)

-- in file order, one for each segment that shares at least one byte with the range, and no others
unfoldable pub rows_for : ℕ → ℕ → List Segment → List Row
rows_for a b segments = map (row_for a b) (only_if (shares a b) (extents_from 0 segments))

abbrev pub file_bytes : List Segment → ℕ
file_bytes segments = sum_of (λ s. s.bytes) segments

-- ## A file by its number, from 0

-- in the tree
abbrev pub segments_at : ℕ → List FileBlock → Option (List Segment)
segments_at n [] = none
segments_at zero (f ∷ fs) = some f.segments
segments_at (suc n) (f ∷ fs) = segments_at n fs

-- at a file head, with so many to pass: the segments behind it, or those that the later records give
abbrev pub at_head : ℕ → List Segment → (ℕ → Option (List Segment)) → Option (List Segment)
at_head zero here later = some here
at_head (suc n) here later = later n

-- among records: the segments behind the file head of that number
unfoldable pub segments_in : ℕ → List Record → Option (List Segment)
segments_in n [] = none
segments_in n (r ∷ rs) = pick (same_kind r.kind kind.FileHead) (at_head n (map segment_of (leading kind.Segment rs)) (λ m. segments_in m rs)) (segments_in n rs)

-- ## The plan

-- the rows, or the refusal
pub data Plan : Type 0 where
  fetch : List Row → Plan
  refused : Refusal → Plan

-- a refusal of the plan's own is at position 0
abbrev pub refused_with : ℕ → Plan
refused_with number = refused (refusal_at number start)

-- for the segments of a file, if there is one; a and b; and how many rows the table has
abbrev pub plan_for : Option (List Segment) → ℕ → ℕ → ℕ → Plan
-- no such file
plan_for none a b room = refused_with 17
plan_for (some segments) a b room =
    -- a is below b, and b is not past the file's end
    refused_with 18 unless ltb a b && leb b (file_bytes segments) then
    -- the table has room for the rows
    refused_with 15 unless leb (length (rows_for a b segments)) room then
    fetch (rows_for a b segments)

-- by the tag, the shard, the file's number, a, b, and how many rows the table has; the shard's own refusal comes before the plan's
unfoldable pub plan_of : List ℕ → List ℕ → ℕ → ℕ → ℕ → ℕ → Plan
plan_of tag shard file a b room = if_accepted refused (found_in tag shard).verdict (λ s. plan_for (segments_in file (found_in tag shard).records) a b room)

-- the number of rows, or the refusal
abbrev pub answer_to : Plan → Result ℕ Refusal
answer_to (fetch rows) = Ok (length rows)
answer_to (refused refusal) = Err refusal

-- the paper's numbers for each case: so many rows, or the refusal
abbrev pub planned_numbers : Result ℕ Refusal → PlannedNumbers
planned_numbers (Ok n) = record { rows = n; at = 0; number = 0 }
planned_numbers (Err refusal) = record { rows = 0; at = refusal.at.0; number = refusal.number }

-- the table: the rows, and those beyond them as they were; refused, no row changes
abbrev pub table_to : Plan → List Row → List Row
table_to (fetch rows) table = rows ++ drop (length rows) table
table_to (refused refusal) table = table
