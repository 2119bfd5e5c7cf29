-- Wrong answers of `plan`: the pieces to fetch for a stretch of a file, by what is answered and by what is in the table.
use Rattle.std.specs.Prelude.{refl, true, false, List, [], ◌∷◌, ◌++◌, map, ℕ, ◌+◌, ◌-◌, take, drop, replicate, Result, Ok, Err}
use Rattle.words.specs.declared.Refusal.{Refusal}
use Rattle.std.proofs.Math.Option.{none, some}
use Rattle.cut.specs.Format.{run, push, fill}
use Rattle.words.specs.Le.{le_at, zeros_at, spell}
use Rattle.words.specs.Record.{spell_hash, spell_words}
use Rattle.rules.specs.Rules.{fault_of, kind_of, record_of, next_of, start}
use Rattle.rules.specs.Verdicts.{refusal_at, verdict_at}
use Rattle.rules.specs.declared.Due.TheVariants as due
use Rattle.rules.specs.declared.Kind.TheVariants as kind
use Rattle.layout.specs.Layout.{Segment, FileBlock}
use Rattle.layout.specs.Blocks.{leading, segment_of}
use Rattle.layout.specs.Quay.{tag, hash, row, header, bookend}
use Rattle.layout.specs.Scan.{found_in, scan}
use Rattle.plan.specs.Plan.{Extent, shares, row_for, rows_for, file_bytes, segments_at, segments_in, fetch, refused_with, plan_for, plan_of, answer_to, table_to}
use Rattle.plan.specs.Claims.{Store, fetched, stretch}
use Rattle.plan.specs.declared.Row.{Row}
use Rattle.wrong_answers.specs.Wrong.{Wrong, ◌not◌by◌, Refuted, refuted}
use Rattle.wrong_answers.specs.Told.{number, numbers, truth, planned_told, rows_told, plan_told, segments_told, file_segments_told}
use Rattle.wrong_answers.specs.Inputs.{other, flag31, flag30, here, fetch_row, lent_row, late, chunks, good_segment, three_segments}

-- ## Shards

-- a file of a segment of 7 bytes, its verification and its metadata; one of a segment of 7 bytes and its verification
abbrev verified : List ℕ
verified = header 0 ++ row hash (flag31 + flag30) 1 0 0 ++ good_segment ++ row other 0 0 0 0 ++ row other 0 0 0 0 ++ row other flag31 1 0 0 ++ good_segment ++ row other 0 0 0 0 ++ bookend ++ bookend

-- the shard with the file of three segments, and one byte more
abbrev too_long : List ℕ
too_long = three_segments ++ (0 ∷ [])

-- a file of two segments of 4,294,967,295 bytes each
abbrev large : List ℕ
large = header 0 ++ row hash 0 2 0 0 ++ row hash 0 4294967295 0 1 ++ row other 0 4294967295 0 1 ++ bookend ++ bookend

-- the largest number of 64 bits
abbrev last64 : ℕ
last64 = 18446744073709551615

-- ## What `plan` gives, by shard, file number, a and b

-- the answer, with room for so many rows
abbrev answer : List ℕ → ℕ → ℕ → ℕ → ℕ → Result ℕ Refusal
answer shard file a b room = answer_to (plan_of tag shard file a b room)

-- the table, of so many rows that were lent
abbrev table : List ℕ → ℕ → ℕ → ℕ → ℕ → List Row
table shard file a b room = table_to (plan_of tag shard file a b room) (replicate room lent_row)

-- a row of zeros
abbrev cleared : Row
cleared = fetch_row (replicate 4 0) 0 0 0 0

-- ## The file of three segments in the tree

abbrev segment : List ℕ → ℕ → ℕ → ℕ → Segment
segment xorb bytes start end = record { xorb = xorb; bytes = bytes; start = start; end = end }

abbrev first : Extent
first = record { segment = segment hash 3 1 4; before = 0 }

abbrev second : Extent
second = record { segment = segment hash 0 4 5; before = 3 }

abbrev third : Extent
third = record { segment = segment other 2 0 2; before = 3 }

abbrev segments : List Segment
segments = first.segment ∷ second.segment ∷ third.segment ∷ []

-- a file of these segments, and one of none
abbrev blocks : List FileBlock
blocks = record { hash = other; segments = segments; verifications = none; metadata = none } ∷ record { hash = hash; segments = []; verifications = none; metadata = none } ∷ []

-- a store in which a xorb has four chunks of one byte each, the numbers of its hash, and no byte behind them: the file is 2, 3, 4, 5, 6
abbrev store : Store
store xorb start end = take (end - start) (drop start xorb)

abbrev wrongs : List Wrong
wrongs =
    -- ## `plan`: how many rows
    -- a row for a segment that ends where the range starts
    (answer three_segments 0 3 5 3 not Ok 2 by planned_told)
    -- one for a segment that starts where the range ends
    ∷ (answer three_segments 0 0 3 3 not Ok 2 by planned_told)
    -- one for a segment of no bytes
    ∷ (answer three_segments 0 0 5 3 not Ok 3 by planned_told)
    -- the walk ends at a segment of no bytes
    ∷ (answer three_segments 0 0 5 3 not Ok 1 by planned_told)
    -- the length of the table for their number
    ∷ (answer three_segments 0 0 5 9 not Ok 9 by planned_told)
    -- the bytes taken for their number
    ∷ (answer three_segments 0 0 5 9 not Ok 5 by planned_told)
    -- ## `plan`: room
    -- a table that is too short filled, and its length answered
    ∷ (answer three_segments 0 1 4 1 not Ok 1 by planned_told)
    -- more rows answered than it has
    ∷ (answer three_segments 0 1 4 1 not Ok 2 by planned_told)
    -- a table just long enough refused
    ∷ (answer three_segments 0 1 4 2 not Err (refusal_at 15 start) by planned_told)
    -- room asked for every segment
    ∷ (answer three_segments 0 3 5 1 not Err (refusal_at 15 start) by planned_told)
    -- ## `plan`: the range
    -- a range of no bytes planned, with no rows
    ∷ (answer three_segments 0 2 2 2 not Ok 0 by planned_told)
    -- one row for it
    ∷ (answer three_segments 0 2 2 2 not Ok 1 by planned_told)
    -- a above b planned, with no rows
    ∷ (answer three_segments 0 4 1 2 not Ok 0 by planned_told)
    -- a above b planned from b up to a
    ∷ (answer three_segments 0 4 1 2 not Ok 2 by planned_told)
    -- b one past the file's end planned
    ∷ (answer three_segments 0 4 6 2 not Ok 1 by planned_told)
    -- b at the file's end refused
    ∷ (answer three_segments 0 4 5 2 not Err (refusal_at 18 start) by planned_told)
    -- no bytes of an empty file planned
    ∷ (answer three_segments 1 0 0 2 not Ok 0 by planned_told)
    -- b and one more wraps to 0
    ∷ (answer three_segments 0 0 last64 2 not Ok 2 by planned_told)
    -- a and one more wraps to 0
    ∷ (answer three_segments 0 last64 3 2 not Ok 0 by planned_told)
    -- both do
    ∷ (answer three_segments 0 last64 last64 2 not Ok 0 by planned_told)
    -- the file's bytes added in 32 bits
    ∷ (answer large 0 4294967296 4294967298 1 not Err (refusal_at 18 start) by planned_told)
    -- the byte behind a segment counted in 32 bits
    ∷ (answer large 0 4294967296 4294967298 1 not Ok 0 by planned_told)
    -- ## `plan`: the file
    -- files counted from 1
    ∷ (answer three_segments 0 0 5 2 not Err (refusal_at 17 start) by planned_told)
    ∷ (answer three_segments 1 0 5 2 not Ok 2 by planned_told)
    -- 17 for the last file
    ∷ (answer verified 1 0 7 1 not Err (refusal_at 17 start) by planned_told)
    -- a file one past the last planned
    ∷ (answer verified 2 0 7 1 not Ok 1 by planned_told)
    -- 17 for an empty file
    ∷ (answer three_segments 1 0 1 2 not Err (refusal_at 17 start) by planned_told)
    -- a verification or a metadata record taken for the next file's head
    ∷ (answer verified 1 0 7 1 not Err (refusal_at 18 start) by planned_told)
    -- a xorb and its chunks taken for a file and its segments
    ∷ (answer chunks 0 0 30 2 not Ok 2 by planned_told)
    -- ## `plan`: the order of refusals
    -- 15 before 18
    ∷ (answer three_segments 0 0 6 0 not Err (refusal_at 15 start) by planned_told)
    -- 18 before 17
    ∷ (answer three_segments 2 1 1 2 not Err (refusal_at 18 start) by planned_told)
    -- 17 before the shard's refusal
    ∷ (answer late 0 0 1 2 not Err (refusal_at 17 start) by planned_told)
    -- a refused shard planned
    ∷ (answer too_long 0 0 5 2 not Ok 2 by planned_told)
    -- ## `plan`: positions of refusals
    -- 17 where the files end
    ∷ (answer three_segments 2 0 1 2 not Err (refusal_at 17 (here 288 due.FileHead)) by planned_told)
    -- 18 at the file's head
    ∷ (answer three_segments 0 4 6 2 not Err (refusal_at 18 (here 48 due.FileHead)) by planned_told)
    -- 15 at the segment that finds no room
    ∷ (answer three_segments 0 1 4 1 not Err (refusal_at 15 (here 192 (due.Segment 1))) by planned_told)
    -- the shard's refusal at 0
    ∷ (answer late 0 0 1 2 not Err (refusal_at 14 start) by planned_told)
    -- ## `plan`: the rows in the table
    -- in another order
    ∷ (table three_segments 0 1 4 2 not fetch_row other 0 2 0 1 ∷ fetch_row hash 1 4 1 2 ∷ [] by rows_told)
    -- one left out
    ∷ (table three_segments 0 1 4 2 not fetch_row hash 1 4 1 2 ∷ lent_row ∷ [] by rows_told)
    -- the file's hash for the xorb's
    ∷ (table three_segments 0 1 4 2 not fetch_row other 1 4 1 2 ∷ fetch_row other 0 2 0 1 ∷ [] by rows_told)
    -- chunk start and end exchanged
    ∷ (table three_segments 0 1 4 2 not fetch_row hash 4 1 1 2 ∷ fetch_row other 2 0 0 1 ∷ [] by rows_told)
    -- skip and take exchanged
    ∷ (table three_segments 0 1 4 2 not fetch_row hash 1 4 2 1 ∷ fetch_row other 0 2 1 0 ∷ [] by rows_told)
    -- nothing skipped where a is inside a segment
    ∷ (table three_segments 0 1 4 2 not fetch_row hash 1 4 0 2 ∷ fetch_row other 0 2 0 1 ∷ [] by rows_told)
    -- as much skipped in each segment as in the first
    ∷ (table three_segments 0 1 4 2 not fetch_row hash 1 4 1 2 ∷ fetch_row other 0 2 1 1 ∷ [] by rows_told)
    -- the bytes skipped taken too
    ∷ (table three_segments 0 1 4 2 not fetch_row hash 1 4 1 3 ∷ fetch_row other 0 2 0 1 ∷ [] by rows_told)
    -- the last take goes past b
    ∷ (table three_segments 0 1 4 2 not fetch_row hash 1 4 1 2 ∷ fetch_row other 0 2 0 2 ∷ [] by rows_told)
    -- the skip counted from the file's start
    ∷ (table three_segments 0 4 5 1 not fetch_row other 0 2 4 1 ∷ [] by rows_told)
    -- a and b cut to 32 bits
    ∷ (table large 0 4294967296 4294967298 1 not fetch_row hash 0 1 0 2 ∷ [] by rows_told)
    -- ## `plan`: the rest of the table
    -- a row beyond the answer cleared
    ∷ (table three_segments 0 3 5 2 not fetch_row other 0 2 0 2 ∷ cleared ∷ [] by rows_told)
    -- the last row repeated up to the table's end
    ∷ (table three_segments 0 3 5 2 not fetch_row other 0 2 0 2 ∷ fetch_row other 0 2 0 2 ∷ [] by rows_told)
    -- the rows that fit filled before 15
    ∷ (table three_segments 0 1 4 1 not fetch_row hash 1 4 1 2 ∷ [] by rows_told)
    -- filled up to the file's end before 18
    ∷ (table three_segments 0 4 6 1 not fetch_row other 0 2 1 1 ∷ [] by rows_told)
    -- the table cleared before 17
    ∷ (table three_segments 2 0 1 1 not cleared ∷ [] by rows_told)
    -- filled before the shard's refusal
    ∷ (table too_long 0 3 5 1 not fetch_row other 0 2 0 2 ∷ [] by rows_told)
    -- ## `shares`, of which the claims speak
    -- a segment that ends at a shares
    ∷ (shares 3 5 first not true by truth)
    -- one that starts at b shares
    ∷ (shares 0 3 third not true by truth)
    -- one of no bytes inside the range shares
    ∷ (shares 0 5 second not true by truth)
    -- the whole segment has to be in the range
    ∷ (shares 1 5 first not false by truth)
    -- the whole range has to be in the segment
    ∷ (shares 1 4 third not false by truth)
    -- ## `row_for`
    -- the bytes from a up to the segment skipped
    ∷ ((row_for 1 4 third).skip not 2 by number)
    -- the take counted from a
    ∷ ((row_for 1 4 third).take not 3 by number)
    -- ## `rows_for`
    -- every segment begins at 0
    ∷ (rows_for 0 2 segments not fetch_row hash 1 4 0 2 ∷ fetch_row other 0 2 0 2 ∷ [] by rows_told)
    -- only the segment that a is in
    ∷ (rows_for 2 4 segments not fetch_row hash 1 4 2 1 ∷ [] by rows_told)
    -- ## `file_bytes`
    -- the last segment not counted
    ∷ (file_bytes segments not 3 by number)
    -- ## `segments_at`
    -- files counted from 1
    ∷ (segments_at 0 blocks not none by file_segments_told)
    -- an empty file passed over
    ∷ (segments_at 1 blocks not none by file_segments_told)
    -- the last file for any number beyond
    ∷ (segments_at 2 blocks not some [] by file_segments_told)
    -- ## `segments_in`
    -- always the first file
    ∷ (segments_in 1 (found_in tag three_segments).records not some segments by file_segments_told)
    -- a verification counted as a file
    ∷ (segments_in 1 (found_in tag verified).records not some [] by file_segments_told)
    -- the segments of every file
    ∷ (segments_in 0 (found_in tag verified).records not some (segment hash 7 5 6 ∷ segment hash 7 5 6 ∷ []) by file_segments_told)
    -- ## `leading`
    -- verifications and metadata taken for segments
    ∷ (map segment_of (leading kind.Segment (drop 2 (found_in tag verified).records)) not segment hash 7 5 6 ∷ segment other 0 0 0 ∷ segment other 0 0 0 ∷ [] by segments_told)
    -- the first segment only
    ∷ (map segment_of (leading kind.Segment (drop 2 (found_in tag three_segments).records)) not segment hash 3 1 4 ∷ [] by segments_told)
    -- the numbers of a record one place off
    ∷ (map segment_of (leading kind.Segment (drop 2 (found_in tag verified).records)) not segment hash 0 7 5 ∷ [] by segments_told)
    -- ## `plan_for`
    -- the whole file planned
    ∷ (plan_for (some segments) 3 5 2 not fetch (fetch_row hash 1 4 0 3 ∷ fetch_row other 0 2 0 2 ∷ []) by plan_told)
    -- as many rows planned as the table has room for
    ∷ (plan_for (some segments) 1 4 1 not fetch (fetch_row hash 1 4 1 2 ∷ []) by plan_told)
    -- no file taken for an empty one
    ∷ (plan_for none 0 1 0 not refused_with 18 by plan_told)
    -- ## `table_to`
    -- the rows beyond lost
    ∷ (table_to (fetch (fetch_row hash 1 4 1 2 ∷ [])) (lent_row ∷ lent_row ∷ []) not fetch_row hash 1 4 1 2 ∷ [] by rows_told)
    -- the table grown by the rows
    ∷ (table_to (fetch (fetch_row hash 1 4 1 2 ∷ [])) (lent_row ∷ []) not fetch_row hash 1 4 1 2 ∷ lent_row ∷ [] by rows_told)
    -- no table on a refusal
    ∷ (table_to (refused_with 15) (lent_row ∷ []) not [] by rows_told)
    -- ## `fetched`
    -- chunk start and end exchanged
    ∷ (fetched store (fetch_row hash 1 4 1 2) not [] by numbers)
    -- nothing skipped
    ∷ (fetched store (fetch_row hash 1 4 1 2) not 2 ∷ 3 ∷ [] by numbers)
    -- everything behind the skip taken
    ∷ (fetched store (fetch_row hash 1 4 1 1) not 3 ∷ 4 ∷ [] by numbers)
    -- the take counted before the skip
    ∷ (fetched store (fetch_row hash 1 4 1 2) not 3 ∷ [] by numbers)
    -- ## `stretch`
    -- b fetched too
    ∷ (stretch store 2 3 segments not 4 ∷ 5 ∷ [] by numbers)
    -- b bytes from a on
    ∷ (stretch store 2 3 segments not 4 ∷ 5 ∷ 6 ∷ [] by numbers)
    -- none of the segments behind the first
    ∷ (stretch store 2 4 segments not 4 ∷ [] by numbers)
    ∷ []

pub plan_refuted : Refuted wrongs
unfolding rows_for leading segments_in plan_of found_in scan run push fill verdict_at fault_of kind_of record_of next_of le_at zeros_at spell spell_hash spell_words
plan_refuted = refuted wrongs refl
