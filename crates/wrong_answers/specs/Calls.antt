-- Wrong answers of the functions that a host calls, in `host_read`, `host_step`, `host_write`, `host_whole` and `host_blobs`: what the operation inside promises, as it crosses.
use Rattle.std.specs.Prelude.{refl, List, [], ◌∷◌, ℕ, take, drop}
use Rattle.cut.specs.Format.{run, push, fill}
use Rattle.words.specs.Le.{le_at, le_num, zeros_at, spell, puts}
use Rattle.words.specs.Refusals.{wrote_numbers}
use Rattle.words.specs.Record.{spell_hash, spell_words, spell_footer}
use Rattle.rules.specs.Rules.{fault_of, kind_of, record_of, next_of, start}
use Rattle.rules.specs.Held.{held}
use Rattle.rules.specs.Verdicts.{verdict_at, refused}
use Rattle.rules.specs.declared.Due.TheVariants.{Chunk}
use Rattle.layout.specs.Blocks.{leading}
use Rattle.layout.specs.Quay.{tag, hash}
use Rattle.layout.specs.Scan.{found_in, scan}
use Rattle.layout.specs.Reach.{last_place}
use Rattle.reader.specs.Stream.{fresh, step_of}
use Rattle.reader.specs.Rows.{reads_on, read_for}
use Rattle.writer.specs.Offers.{words_of}
use Rattle.writer.specs.Write as write
use Rattle.writer.specs.Write.{bytes_of, answer_of, written_of, buffer_of}
use Rattle.finder.specs.Find.{chunk_behind, chunk_in, chunk_found, chunk_numbers, file_in, file_found, file_numbers}
use Rattle.join.specs.Join as join
use Rattle.join.specs.Join.{joined_at, joined_bytes, join_fault, answer_for, join_of}
use Rattle.plan.specs.Plan.{rows_for, segments_in, plan_of, answer_to, planned_numbers, table_to}
use Rattle.audit.specs.Audit.{first_false, audit_in, placed_in, blocks_in, audit_of, audited_numbers}
use Rattle.blobs.specs.Blobs as blobs
use Rattle.blobs.specs.Blobs.{blob, are_digits, spell_entry, head_of, whole_of, entry_at, entry_numbers, put_fault, put_of, scan_from, scan_of, scanned_numbers}
use Rattle.host.specs.Boundary.{reader_out, record_out, offer_for, verdict_out, writer_out}
use Rattle.host.specs.Calls.{Stepped, Read, Put, step_by, read_by, verdict_for, put_by}
use Rattle.host.specs.declared.ReaderState.{ReaderState}
use Rattle.host.specs.declared.RecordState.{RecordState}
use Rattle.host.specs.declared.WriterState.{WriterState}
use Rattle.wrong_answers.specs.Wrong.{Wrong, ◌not◌by◌, Refuted, refuted}
use Rattle.wrong_answers.specs.Told.{number, numbers, rows_told}
use Rattle.wrong_answers.specs.Inputs.{words, other, here, at_end, at_segment, at_footer, tag_short, reader, writer, stand_with, blank, offered, lent_row, zeros, good_segment, empty, late, chunks, files, one_of_each, three_segments, claims, with_xorbs}
use Rattle.wrong_answers.specs.Blobs.{lower, three, file, room}

-- a reader that waits for a segment, as it was given out
abbrev waiting : ReaderState
waiting = reader_out (reader at_segment)

-- one that has refused it
abbrev faulty : ReaderState
faulty = reader_out (reader (refused 10 at_segment))

-- a struct of zeros
abbrev blank_reader : ReaderState
blank_reader = record { stand = blank; carry = zeros 200 }

-- a reader that has ten bytes of the segment, as it was given out
abbrev begun : ReaderState
begun = (step_by waiting (take 10 good_segment)).reader

-- what the waiting one gives for a segment, by a read and by a step
abbrev segment_read : Read
segment_read = read_by waiting good_segment (zeros 9)

abbrev segment_step : Stepped
segment_step = step_by waiting good_segment

-- a writer that waits for a footer, as it was given out
abbrev footer_writer : WriterState
footer_writer = record { stand = writer_out (writer at_footer) }

-- an offer of this kind to it, with room for a footer
abbrev footer_put : ℕ → Put
footer_put kind = put_by footer_writer (offered kind) (zeros 200)

-- a chunk of 10 bytes from 5 on, as it was read
abbrev chunk_read : RecordState
chunk_read = record_out (record_of (here 144 (Chunk 1 5 15)) (words 5 10 0 0))

abbrev wrongs : List Wrong
wrongs =
    -- ## `mdb_reader_new`
    -- a reader begun with a bad tag goes out as one that has read all
    ((reader_out (fresh tag_short)).stand.place.due.code not 10 by number)
    -- a header due goes out as 0
    ∷ ((reader_out (fresh tag)).stand.place.due.code not 0 by number)
    -- a footer announced
    ∷ ((reader_out (fresh tag)).stand.place.footer not 1 by number)
    -- ## `mdb_reader_read`
    -- how many bytes are carried is forgotten on the way out
    ∷ ((read_by waiting (1 ∷ 2 ∷ 3 ∷ []) (zeros 9)).reader.stand.place.have not 0 by number)
    -- the bytes taken for the rows filled
    ∷ (segment_read.answer.count not 48 by number)
    -- no byte taken
    ∷ (segment_read.answer.taken not 0 by number)
    -- the bytes carried are not stored
    ∷ ((read_by waiting (1 ∷ 2 ∷ 3 ∷ []) (zeros 9)).reader.carry not waiting.carry by numbers)
    -- begun anew at each call, with the tag that it has
    ∷ ((read_by begun (drop 10 good_segment) (zeros 9)).answer.count not (read_by (reader_out (reader start)) (drop 10 good_segment) (zeros 9)).answer.count by number)
    -- the table left as it was
    ∷ (segment_read.table not zeros 9 by numbers)
    -- nothing more said where the table is full
    ∷ (segment_read.answer.said not 0 by number)
    -- 15 for anything
    ∷ (segment_read.answer.number not 15 by number)
    -- no row: 15; bytes taken
    ∷ ((read_by waiting good_segment []).answer.number not 15 by number)
    ∷ ((read_by waiting good_segment []).answer.taken not 48 by number)
    -- no row: a refusal not repeated
    ∷ ((read_by faulty good_segment []).answer.number not 0 by number)
    ∷ ((read_by faulty good_segment []).answer.said not 1 by number)
    -- a struct of zeros waits for a header
    ∷ ((read_by blank_reader good_segment (zeros 9)).answer.number not 3 by number)
    -- an empty piece that forgets the bytes so far
    ∷ ((read_by begun [] (zeros 9)).reader.stand.place.have not 0 by number)
    -- ## `mdb_reader_step`
    -- no byte taken
    ∷ (segment_step.answer.taken not 0 by number)
    -- a record found said to be nothing yet
    ∷ (segment_step.answer.said not 0 by number)
    -- the reader left as it was
    ∷ ((step_by waiting (1 ∷ 2 ∷ 3 ∷ [])).reader.stand.place.have not waiting.stand.place.have by number)
    -- the bytes carried are not stored
    ∷ ((step_by waiting (1 ∷ 2 ∷ 3 ∷ [])).reader.carry not waiting.carry by numbers)
    -- they stay behind their record
    ∷ ((step_by begun (drop 10 good_segment)).reader.carry not begun.carry by numbers)
    -- begun anew at each call, with the tag that it has
    ∷ ((step_by begun (drop 10 good_segment)).answer.said not (step_by (reader_out (reader start)) (drop 10 good_segment)).answer.said by number)
    -- 15 for anything
    ∷ (segment_step.answer.number not 15 by number)
    -- a struct of zeros waits for a header
    ∷ ((step_by blank_reader (zeros 48)).answer.taken not 48 by number)
    ∷ ((step_by blank_reader (zeros 48)).answer.number not 0 by number)
    -- an empty piece that forgets the bytes so far
    ∷ ((step_by begun []).reader.stand.place.have not 0 by number)
    ∷ ((step_by begun []).reader.carry not zeros 200 by numbers)
    -- ## `mdb_reader_verdict`
    -- the number of an accepted shard for a refused one
    ∷ ((verdict_for waiting.stand).number not 0 by number)
    -- a code that is not given out taken for the end
    ∷ ((verdict_for (stand_with 0 7)).length not 96 by number)
    ∷ ((verdict_for (stand_with 8 7)).length not 96 by number)
    ∷ ((verdict_for (stand_with 12 7)).length not 96 by number)
    -- taken for a header
    ∷ ((verdict_for (stand_with 0 7)).number not 1 by number)
    ∷ ((verdict_for (stand_with 8 7)).number not 1 by number)
    ∷ ((verdict_for (stand_with 12 7)).number not 1 by number)
    -- a refusal with number 0 told as accepted
    ∷ ((verdict_for (stand_with 11 0)).number not 0 by number)
    -- a struct of zeros waits for a header
    ∷ ((verdict_for blank).number not 1 by number)
    -- ## `mdb_writer_new`
    -- 16 for a bad tag
    ∷ ((writer_out (write.fresh tag_short)).place.due.left not 16 by number)
    -- a fresh writer waits for a file head
    ∷ ((writer_out (write.fresh tag)).place.due.code not 2 by number)
    -- ## `mdb_writer_put`
    -- kind 9 taken for a footer
    ∷ ((footer_put 9).answer.wrote not 200 by number)
    ∷ ((footer_put 9).buffer not (footer_put 8).buffer by numbers)
    -- a refused offer said to have been written
    ∷ ((footer_put 1).answer.wrote not 48 by number)
    -- the writer moves on, though the kind is not known
    ∷ ((footer_put 9).writer.stand.place.at not 344 by number)
    ∷ ((footer_put 9).writer.stand.place.due.code not 10 by number)
    -- the writer left as it was
    ∷ ((footer_put 8).writer.stand.place.at not 144 by number)
    -- a struct of zeros takes a header
    ∷ ((put_by (record { stand = blank }) (offered 0) (zeros 48)).answer.wrote not 48 by number)
    -- ## `mdb_offer_of`
    -- a chunk's numbers exchanged
    ∷ ((offer_for chunk_read).a not 10 by number)
    -- its kind lost
    ∷ ((offer_for chunk_read).kind not 0 by number)
    -- ## `mdb_writer_verdict`
    -- a writer that is done waits for a footer when it comes back
    ∷ ((verdict_for (writer_out (writer at_end))).number not 1 by number)
    -- a verdict never has a footer
    ∷ ((verdict_for (writer_out (writer (next_of at_footer (words 0 0 0 0))))).footer not 0 by number)
    -- ## `mdb_judge`
    -- the position of a refusal for the length
    ∷ ((verdict_out (found_in tag empty).verdict).length not 0 by number)
    -- tag and shard exchanged
    ∷ ((verdict_out (found_in tag empty).verdict).number not (verdict_out (found_in empty tag).verdict).number by number)
    -- ## `mdb_find_chunk`
    -- the chunk index for the block number
    ∷ ((chunk_numbers (chunk_found tag chunks other)).block not 1 by number)
    -- the chunk index lost
    ∷ ((chunk_numbers (chunk_found tag chunks other)).index not 0 by number)
    -- ## `mdb_find_file`
    -- the file number lost
    ∷ ((file_numbers (file_found tag files other)).file not 0 by number)
    -- tag and shard exchanged
    ∷ ((file_numbers (file_found tag files other)).said not (file_numbers (file_found files tag other)).said by number)
    -- ## `mdb_join`
    -- first and second exchanged
    ∷ (join.buffer_of tag (one_of_each hash) (one_of_each other) (zeros 336) not join.buffer_of tag (one_of_each other) (one_of_each hash) (zeros 336) by numbers)
    -- a refused join said to have written
    ∷ ((wrote_numbers (join_of tag empty late 145)).wrote not 145 by number)
    -- the buffer left as it was
    ∷ (join.buffer_of tag empty empty (zeros 144) not zeros 144 by numbers)
    -- ## `mdb_plan`
    -- the first file, whichever is asked for
    ∷ ((planned_numbers (answer_to (plan_of tag three_segments 1 0 5 2))).number not 0 by number)
    -- a and b exchanged
    ∷ ((planned_numbers (answer_to (plan_of tag three_segments 0 1 4 2))).rows not (planned_numbers (answer_to (plan_of tag three_segments 0 4 1 2))).rows by number)
    -- a refused plan said to have filled the table
    ∷ ((planned_numbers (answer_to (plan_of tag three_segments 0 1 4 1))).rows not 1 by number)
    -- the table left as it was
    ∷ (table_to (plan_of tag three_segments 0 3 5 1) (lent_row ∷ []) not lent_row ∷ [] by rows_told)
    -- ## `mdb_audit`
    -- the verdict of the reader for that of the audit
    ∷ ((audited_numbers (audit_of tag (with_xorbs 1 (claims hash 0 3 61)))).number not 0 by number)
    -- a refused shard passes with no segments
    ∷ ((audited_numbers (audit_of tag late)).number not 0 by number)
    -- tag and shard exchanged
    ∷ ((audited_numbers (audit_of tag empty)).number not (audited_numbers (audit_of empty tag)).number by number)
    -- ## `mdb_blob_entry_at`
    -- the first entry, whichever is asked for
    ∷ ((entry_numbers (entry_at file 113)).digits not 14 by number)
    -- a position past the end taken for the end of the entries
    ∷ ((entry_numbers (entry_at file 1000)).number not 0 by number)
    -- ## `mdb_blob_put_entry`
    -- digits and data exchanged
    ∷ ((wrote_numbers (put_of (blob lower three) 113)).number not (wrote_numbers (put_of (blob three lower) 113)).number by number)
    -- the buffer left as it was
    ∷ (blobs.buffer_of (blob lower three) (room 113) not room 113 by numbers)
    -- ## `mdb_blob_scan`
    -- the first entry only
    ∷ ((scanned_numbers (scan_of file)).entries not 1 by number)
    -- an empty file refused
    ∷ ((scanned_numbers (scan_of [])).number not 24 by number)
    ∷ []

pub calls_refuted : Refuted wrongs
unfolding fresh step_of read_for reads_on puts step_by read_by verdict_for put_by write.fresh words_of bytes_of answer_of written_of buffer_of chunk_found chunk_in chunk_behind file_found file_in joined_at joined_bytes join_fault answer_for join_of join.buffer_of rows_for leading segments_in plan_of first_false audit_in placed_in blocks_in audit_of are_digits spell_entry head_of whole_of entry_at put_fault put_of blobs.buffer_of scan_from scan_of last_place found_in scan run push fill verdict_at fault_of kind_of record_of next_of held le_at le_num zeros_at spell spell_hash spell_words spell_footer
calls_refuted = refuted wrongs refl
