-- Wrong answers of `reader`: one call, whole pieces into rows, and a whole shard in a buffer; and of `whole`, where reading begins and ends.
use Rattle.std.specs.Prelude.{refl, false, List, [], ◌∷◌, ◌++◌, ℕ, take, drop, Option, Some, None, Result, Ok, Err}
use Rattle.cut.specs.Format.{run, push, fill}
use Rattle.words.specs.Le.{le_at, zeros_at, spell, puts}
use Rattle.words.specs.Record.{hash_at, spell_hash, spell_words}
use Rattle.rules.specs.Rules.{fault_of, kind_of, record_of, next_of, counts, start}
use Rattle.rules.specs.Held.{held}
use Rattle.rules.specs.Verdicts as Verdicts
use Rattle.rules.specs.Verdicts.{refusal_at, verdict_at}
use Rattle.rules.specs.declared.Record.{Record}
use Rattle.rules.specs.declared.Due.TheVariants as due
use Rattle.words.specs.declared.Refusal.{Refusal}
use Rattle.layout.specs.Quay.{tag, hash, row, header, bookend, footer, accepted, refused}
use Rattle.layout.specs.Scan.{found_in, scan}
use Rattle.layout.specs.Reach.{last_place}
use Rattle.whole.specs.Turns.{start_for}
use Rattle.reader.specs.Stream.{fresh, passed_by, failed_by, stopped, lacking, step_of, verdict_of}
use Rattle.reader.specs.Rows.{Reading, reads_on, read_for}
use Rattle.reader.specs.Readings.{offers, fed_one}
use Rattle.reader.specs.declared.Reader.{Reader}
use Rattle.reader.specs.declared.Ended.{Ended}
use Rattle.reader.specs.declared.Ended.TheVariants.{PieceUsed, TableFull}
use Rattle.wrong_answers.specs.Wrong.{Wrong, ◌not◌by◌, Refuted, refuted}
use Rattle.wrong_answers.specs.Told.{number, numbers, due_told, verdict_told}
use Rattle.wrong_answers.specs.Inputs.{words, at_end, at_segment, tag_short, reader, zeros, bad_segment, good_segment, empty, late}

-- how what a call found is told, a record by its position; and why a read ended
abbrev found_told : Result (Option Record) Refusal → List ℕ
found_told (Ok None) = 0 ∷ []
found_told (Ok (Some r)) = 1 ∷ r.at.0 ∷ []
found_told (Err f) = 2 ∷ f.number ∷ f.at.0 ∷ []

abbrev ended_told : Result Ended Refusal → List ℕ
ended_told (Ok PieceUsed) = 0 ∷ []
ended_told (Ok TableFull) = 1 ∷ []
ended_told (Err f) = 2 ∷ f.number ∷ f.at.0 ∷ []

-- a reader that has the first ten bytes of a segment
abbrev in_segment : Reader
in_segment = (step_of (reader at_segment) (take 10 good_segment)).reader

-- one that has refused a segment
abbrev at_fault : Reader
at_fault = reader (Verdicts.refused 10 at_segment)

-- the segment, handed out
abbrev segment_found : Result (Option Record) Refusal
segment_found = Ok (Some (record_of at_segment (words 0 7 5 6)))

-- a segment is read into a table of so many numbers
abbrev segment_read : ℕ → Reading
segment_read table = read_for (reader at_segment) good_segment (zeros table)

-- and one of which ten bytes came before
abbrev rest_read : List ℕ → Reading
rest_read segment = read_for in_segment (drop 10 segment) (zeros 9)

abbrev wrongs : List Wrong
wrongs =
    -- ## `Reader::new`
    -- a tag of 31 bytes taken
    ((fresh tag_short).stand.place.due not due.Header by due_told)
    -- 3 for 2
    ∷ ((fresh tag_short).stand.place.due not due.Refused 3 by due_told)
    -- a byte in a fresh carry
    ∷ ((fresh tag).stand.have not 1 by number)
    -- a bad tag kept
    ∷ ((fresh tag_short).stand.tag.0 not hash_at tag_short 0 by numbers)
    -- ## `Reader::step`, and `Stand::step` with the carry lent
    -- the tag judged before 48 bytes came
    ∷ ((step_of (fresh tag) (zeros 47)).answer.found not Err (refusal_at 3 start) by found_told)
    -- a refusal at the shard's start
    ∷ ((step_of (reader at_segment) bad_segment).answer.found not Err (refusal_at 10 start) by found_told)
    -- a faulty record handed out
    ∷ ((step_of (reader at_segment) bad_segment).answer.found not segment_found by found_told)
    -- a record handed out before it is whole
    ∷ ((step_of in_segment (zeros 3)).answer.found not segment_found by found_told)
    -- 14 that takes the byte
    ∷ ((step_of (reader at_end) (0 ∷ [])).answer.taken not 1 by number)
    -- a carry not zeroed
    ∷ ((step_of in_segment (drop 10 good_segment)).reader.carry not good_segment ++ zeros 152 by numbers)
    ∷ ((step_of in_segment (drop 10 bad_segment)).reader.carry not bad_segment ++ zeros 152 by numbers)
    -- bytes kept and not counted
    ∷ ((step_of in_segment (zeros 3)).reader.stand.have not 10 by number)
    -- bytes kept two apart
    ∷ ((step_of (reader at_segment) (1 ∷ 2 ∷ 3 ∷ [])).reader.carry not (1 ∷ 0 ∷ 2 ∷ 0 ∷ 3 ∷ []) ++ zeros 195 by numbers)
    -- more taken than is missing from the record due
    ∷ ((step_of in_segment (zeros 48)).answer.taken not 48 by number)
    -- another piece
    ∷ ((step_of in_segment (zeros 3)).answer.taken not (step_of in_segment []).answer.taken by number)
    -- begun anew at each call, with the tag that it has
    ∷ ((step_of in_segment (zeros 3)).reader.stand.have not (step_of (reader start) (zeros 3)).reader.stand.have by number)
    ∷ ((step_of in_segment (drop 10 good_segment)).answer.found not (step_of (reader start) (drop 10 good_segment)).answer.found by found_told)
    -- 15 for anything
    ∷ ((step_of (reader at_segment) good_segment).answer.found not Err (refusal_at 15 at_segment) by found_told)
    -- an empty piece that forgets the bytes so far
    ∷ ((step_of in_segment []).reader.stand.have not 0 by number)
    ∷ ((step_of in_segment []).reader.carry not zeros 200 by numbers)
    -- an empty piece after the end that refuses
    ∷ ((step_of (reader at_end) []).reader.stand.place.due not due.Refused 14 by due_told)
    -- a refusal forgotten at an empty piece
    ∷ ((step_of at_fault []).answer.found not Ok None by found_told)
    -- ## `start_for`, of which beginning is made
    -- a bad tag not refused
    ∷ ((start_for tag_short).due not due.Header by due_told)
    -- 3 for 2
    ∷ ((start_for tag_short).due not due.Refused 3 by due_told)
    -- ## `Stand::lacks`
    -- what the carry has is not taken off
    ∷ (lacking in_segment.stand not 48 by number)
    -- ## `Stand::passed`, `Stand::failed` and `Stand::stop`, of which a call is made
    -- a faulty record handed out
    ∷ ((failed_by (reader at_segment).stand 10 48).answer.found not segment_found by found_told)
    -- reading goes on behind it
    ∷ ((failed_by (reader at_segment).stand 10 48).reader.stand.place.at.0 not 144 by number)
    ∷ ((Verdicts.refused 10 at_segment).due not due.FileHead by due_told)
    -- a byte taken, or a record handed out, where nothing is due
    ∷ ((stopped (reader at_end) 0).answer.taken not 1 by number)
    ∷ ((stopped (reader at_end) 0).answer.found not segment_found by found_told)
    -- bytes carried on behind a record
    ∷ ((passed_by (reader at_segment).stand (words 0 7 5 6) 48).reader.stand.have not 48 by number)
    -- none taken for it
    ∷ ((passed_by (reader at_segment).stand (words 0 7 5 6) 48).answer.taken not 0 by number)
    -- a byte after the end passed over
    ∷ ((stopped (reader at_end) 1).answer.found not Ok None by found_told)
    -- no byte after the end refused
    ∷ ((stopped (reader at_end) 0).answer.found not Err (refusal_at 14 at_end) by found_told)
    -- ## `Reader::verdict`
    -- always 1
    ∷ (verdict_of (reader at_end) not Err (refusal_at 1 at_end) by verdict_told)
    -- that of a fresh reader
    ∷ (verdict_of (reader at_segment) not Err (refusal_at 1 start) by verdict_told)
    -- always 14
    ∷ (verdict_of (reader at_segment) not Err (refusal_at 14 at_segment) by verdict_told)
    -- ## `Stand::read`
    -- a filled row not counted
    ∷ ((segment_read 9).answer.count not 0 by number)
    -- a number of the hash twice
    ∷ ((segment_read 9).table not 2 ∷ 96 ∷ 0 ∷ 1 ∷ 1 ∷ 3 ∷ 4 ∷ 30064771072 ∷ 25769803781 ∷ [] by numbers)
    -- bytes carried on behind their record
    ∷ ((segment_read 9).answer.reader.stand.have not 48 by number)
    -- a table of eight numbers taken for a row
    ∷ ((segment_read 8).answer.taken not 48 by number)
    -- begun anew at each call, with the tag that it has
    ∷ ((rest_read good_segment).answer.count not (read_for (reader start) (drop 10 good_segment) (zeros 9)).answer.count by number)
    -- 15 for anything
    ∷ ((segment_read 9).answer.ended not Err (refusal_at 15 at_segment) by ended_told)
    -- a carry not zeroed
    ∷ ((rest_read good_segment).answer.reader.carry not good_segment ++ zeros 152 by numbers)
    ∷ ((rest_read bad_segment).answer.reader.carry not bad_segment ++ zeros 152 by numbers)
    -- a row for a faulty record
    ∷ ((rest_read bad_segment).answer.count not 1 by number)
    -- no further than the first record
    ∷ ((read_for (fresh tag) (header 0 ++ bookend) (zeros 18)).answer.count not 1 by number)
    -- nothing more said where the table is full
    ∷ ((segment_read 9).answer.ended not Ok PieceUsed by ended_told)
    -- no row: refused with 15; nothing said; bytes taken; bytes kept
    ∷ ((segment_read 0).answer.ended not Err (refusal_at 15 at_segment) by ended_told)
    ∷ ((segment_read 0).answer.ended not Ok PieceUsed by ended_told)
    ∷ ((segment_read 0).answer.taken not 48 by number)
    ∷ ((segment_read 0).answer.reader.stand.have not 48 by number)
    -- no row: a refusal not repeated
    ∷ ((read_for at_fault good_segment []).answer.ended not Ok TableFull by ended_told)
    ∷ ((read_for at_fault good_segment []).answer.ended not Ok PieceUsed by ended_told)
    -- an empty piece that forgets the bytes so far, or fills a row
    ∷ ((read_for in_segment [] (zeros 9)).answer.reader.stand.have not 0 by number)
    ∷ ((read_for in_segment [] (zeros 9)).answer.count not 1 by number)
    -- ## `fed` of `shardline`
    -- what is left of a piece forgotten behind its first record
    ∷ ((fed_one (fresh tag) empty).reader.stand.place.at.0 not 48 by number)
    -- no byte offered
    ∷ ((fed_one (fresh tag) empty).reader.stand.place.due not due.Header by due_told)
    -- ## `judge`
    -- 1 for 14 after the end
    ∷ ((found_in tag late).verdict not refused 1 144 by verdict_told)
    -- a few bytes after the end passed over
    ∷ ((found_in tag late).verdict not accepted 144 (counts 0 0 0 0 0) false by verdict_told)
    -- ## `last_place`
    -- every record read behind the first
    ∷ ((last_place tag (header 0 ++ bookend ++ row hash 0 0 0 0)).due not due.End by due_told)
    -- a footer taken for whole too early
    ∷ ((last_place tag (header 200 ++ bookend ++ bookend ++ take 48 (footer 48 96 144))).due not due.Refused 13 by due_told)
    ∷ []

pub reader_refuted : Refuted wrongs
unfolding fresh step_of read_for reads_on puts offers verdict_of last_place found_in scan run push fill verdict_at fault_of kind_of record_of next_of held le_at zeros_at spell spell_hash spell_words
reader_refuted = refuted wrongs refl
