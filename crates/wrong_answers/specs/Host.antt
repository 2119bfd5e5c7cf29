-- Wrong answers of `host`, and of the paper's numbers for an answer: states and answers on their way out as numbers, and in again.
use Rattle.std.specs.Prelude.{refl, List, [], ◌∷◌, None, Some, Ok, Err}
use Rattle.words.specs.Record.{spell_footer, spell_hash, spell_words}
use Rattle.words.specs.Le.{spell}
use Rattle.words.specs.Refusals.{refused_at, wrote_numbers}
use Rattle.rules.specs.Rules.{fault_of, kind_of, record_of, next_of, start}
use Rattle.rules.specs.Held.{held}
use Rattle.rules.specs.Verdicts.{refused, refusal_at, summary_of}
use Rattle.rules.specs.declared.Record.{Record}
use Rattle.rules.specs.declared.Due.TheVariants as due
use Rattle.reader.specs.declared.Ended.TheVariants as ended
use Rattle.reader.specs.declared.Answer.{Answer}
use Rattle.writer.specs.Offers.{words_of}
use Rattle.writer.specs.Write.{bytes_of, answer_of, written_of, buffer_of}
use Rattle.writer.specs.declared.Fields.TheVariants as fields
use Rattle.finder.specs.Find.{ChunkAnswer, the_chunk, chunk_numbers, FileAnswer, the_file, file_numbers}
use Rattle.plan.specs.Plan.{planned_numbers}
use Rattle.audit.specs.Audit.{false_at, audited_numbers}
use Rattle.blobs.specs.Blobs.{parts_at, entry_numbers, scanned_numbers}
use Rattle.host.specs.Boundary.{record_out, offer_in, offer_for, verdict_out, stand_in, stand_out, step_out, read_out, writer_in, writer_out}
use Rattle.host.specs.Calls.{written_for, buffer_for}
use Rattle.host.specs.declared.ReadState.{ReadState}
use Rattle.host.specs.declared.RecordState.{RecordState}
use Rattle.wrong_answers.specs.Wrong.{Wrong, ◌not◌by◌, Refuted, refuted}
use Rattle.wrong_answers.specs.Told.{number, numbers, due_told, answer_told, fields_told}
use Rattle.wrong_answers.specs.Inputs.{words, at_end, at_segment, at_footer, reader, writer, stand_with, blank, offered, zeros}

-- a footer and a header, as they were read
abbrev footer_found : RecordState
footer_found = record_out (record_of at_footer (words 1 0 2 0))

abbrev header_found : RecordState
header_found = record_out (record_of start (words 2 0 200 0))

-- a call that found a record of 48 bytes, one that was refused, one that kept its bytes, a read of two records, and one that was refused behind a record
abbrev segment_found : Record
segment_found = record_of at_segment (words 0 7 5 6)

abbrev found : Answer
found = record { taken = 48; found = Ok (Some segment_found) }

abbrev refused_call : Answer
refused_call = record { taken = 48; found = Err (refusal_at 10 at_segment) }

abbrev kept_call : Answer
kept_call = record { taken = 40; found = Ok None }

abbrev two_rows : ReadState
two_rows = read_out 96 2 (Ok ended.TableFull)

abbrev refused_rows : ReadState
refused_rows = read_out 96 1 (Err (refusal_at 10 at_segment))

abbrev chunk_hit : ChunkAnswer
chunk_hit = the_chunk (record { 0 = 1 }) (record { 0 = 2 }) (record { 0 = 240 })

abbrev file_hit : FileAnswer
file_hit = the_file (record { 0 = 1 }) (record { 0 = 192 })

abbrev wrongs : List Wrong
wrongs =
    -- ## `stand_in`
    -- a code that is not given out taken for the end
    ((stand_in (stand_with 0 7)).place.due not due.End by due_told)
    ∷ ((stand_in (stand_with 8 7)).place.due not due.End by due_told)
    ∷ ((stand_in (stand_with 12 7)).place.due not due.End by due_told)
    -- taken for a header
    ∷ ((stand_in (stand_with 0 7)).place.due not due.Header by due_told)
    ∷ ((stand_in (stand_with 8 7)).place.due not due.Header by due_told)
    ∷ ((stand_in (stand_with 12 7)).place.due not due.Header by due_told)
    -- taken for a refusal with the number beside it
    ∷ ((stand_in (stand_with 12 7)).place.due not due.Refused 7 by due_told)
    -- a refusal with number 0 taken as it is; taken for the end
    ∷ ((stand_in (stand_with 11 0)).place.due not due.Refused 0 by due_told)
    ∷ ((stand_in (stand_with 11 0)).place.due not due.End by due_told)
    -- every refusal taken for one with 255
    ∷ ((stand_in (stand_with 11 7)).place.due not due.Refused 255 by due_told)
    -- a struct of zeros waits for a header
    ∷ ((stand_in blank).place.due not due.Header by due_told)
    -- nothing in the carry
    ∷ ((stand_in (stand_with 3 1)).have not 0 by number)
    -- ## `stand_out`
    -- a refusal goes out as the end
    ∷ ((stand_out (reader (refused 2 start)).stand).place.due.code not 10 by number)
    -- a header due goes out as 0
    ∷ ((stand_out (reader start).stand).place.due.code not 0 by number)
    -- the end goes out as 8
    ∷ ((stand_out (reader at_end).stand).place.due.code not 8 by number)
    -- a footer announced
    ∷ ((stand_out (reader at_segment).stand).place.footer not 1 by number)
    -- ## `step_out`
    -- no byte taken
    ∷ ((step_out found).taken not 0 by number)
    -- a record found said to be nothing yet; said to be a refusal
    ∷ ((step_out found).said not 0 by number)
    ∷ ((step_out found).said not 2 by number)
    -- nothing yet said to be a record; a record beside it
    ∷ ((step_out kept_call).said not 1 by number)
    ∷ ((step_out kept_call).found.kind not 1 by number)
    -- a refusal said to be a record
    ∷ ((step_out refused_call).said not 1 by number)
    -- a refusal's number lost; its position lost
    ∷ ((step_out refused_call).number not 0 by number)
    ∷ ((step_out refused_call).at not 0 by number)
    -- a record beside a refusal
    ∷ ((step_out refused_call).found.at not 96 by number)
    -- ## `read_out`
    -- the bytes taken for the rows filled
    ∷ (two_rows.count not 96 by number)
    -- no byte taken
    ∷ (two_rows.taken not 0 by number)
    -- a full table said to be a refusal; a refusal said to be a full table
    ∷ (two_rows.said not 2 by number)
    ∷ (refused_rows.said not 1 by number)
    -- a refusal's number lost; its position lost
    ∷ (refused_rows.number not 0 by number)
    ∷ (refused_rows.at not 0 by number)
    -- ## `record_out`
    -- no position
    ∷ ((record_out segment_found).at not 0 by number)
    -- a segment in the header's row
    ∷ ((record_out segment_found).kind not 0 by number)
    -- ## `offer_in`
    -- a chunk's numbers exchanged
    ∷ ((offer_in (offered 6)).fields not fields.Chunk 2 1 by fields_told)
    -- times exchanged
    ∷ ((offer_in (offered 8)).fields not fields.Footer 6 5 by fields_told)
    -- ## `offer_for`
    -- times exchanged
    ∷ ((offer_for footer_found).x not 2 by number)
    ∷ ((offer_for footer_found).y not 1 by number)
    -- a header's footer size from a and b
    ∷ ((offer_for header_found).x not 2 by number)
    -- another kind
    ∷ ((offer_for header_found).kind not 8 by number)
    -- ## `verdict_out`
    -- the number of an accepted shard for a refused one
    ∷ ((verdict_out (Err (refusal_at 7 at_segment))).number not 0 by number)
    -- the position of a refusal for the length
    ∷ ((verdict_out (Ok (summary_of at_end))).length not 0 by number)
    -- a number for an accepted shard
    ∷ ((verdict_out (Ok (summary_of at_end))).number not 1 by number)
    -- a length beside a refusal
    ∷ ((verdict_out (Err (refusal_at 14 at_end))).length not 144 by number)
    -- ## `writer_in`
    -- the end taken for a footer
    ∷ ((writer_in (stand_with 10 0)).place.due not due.Footer by due_told)
    -- another position
    ∷ ((writer_in (stand_with 10 0)).place.at.0 not 0 by number)
    -- ## `writer_out`
    -- 16 for a bad tag
    ∷ ((writer_out (writer (refused 2 start))).place.due.left not 16 by number)
    -- a fresh writer waits for a file head
    ∷ ((writer_out (writer start)).place.due.code not 2 by number)
    -- ## `offered`
    -- kind 9 taken for a footer
    ∷ ((written_for (writer at_footer) (offered 9) 200).answer not Ok 200 by answer_told)
    ∷ (buffer_for (writer at_footer) (offered 9) (zeros 200) not buffer_for (writer at_footer) (offered 8) (zeros 200) by numbers)
    -- the writer moves on, though the kind is not known
    ∷ ((written_for (writer at_footer) (offered 9) 200).writer.place.at.0 not 344 by number)
    -- a kind that is known refused
    ∷ ((written_for (writer at_footer) (offered 8) 200).answer not Err (refusal_at 16 at_footer) by answer_told)
    -- ## `WroteNumbers::from`, of what is written, joined or put
    -- a refused offer said to have been written
    ∷ ((wrote_numbers (Err (refusal_at 16 at_segment))).wrote not 48 by number)
    -- no byte written; the number of bytes lost
    ∷ ((wrote_numbers (Ok 48)).wrote not 0 by number)
    ∷ ((wrote_numbers (Ok 113)).wrote not 0 by number)
    -- the bytes written for a position
    ∷ ((wrote_numbers (Ok 240)).at not 240 by number)
    -- the number of a refusal lost
    ∷ ((wrote_numbers (Err (refusal_at 9 start))).number not 0 by number)
    ∷ ((wrote_numbers (Err (refused_at 0 27))).number not 0 by number)
    -- ## `FoundChunkNumbers::from`
    -- the chunk index for the block number
    ∷ ((chunk_numbers chunk_hit).block not 2 by number)
    -- the chunk index lost
    ∷ ((chunk_numbers chunk_hit).index not 0 by number)
    -- ## `FoundFileNumbers::from`
    -- the file number lost
    ∷ ((file_numbers file_hit).file not 0 by number)
    -- found, and said to be absent
    ∷ ((file_numbers file_hit).said not 0 by number)
    -- ## `PlannedNumbers::from`
    -- the number of rows lost
    ∷ ((planned_numbers (Ok 2)).rows not 0 by number)
    -- the position of a refusal for the number of rows
    ∷ ((planned_numbers (Err (refusal_at 14 at_end))).rows not 144 by number)
    -- its position lost
    ∷ ((planned_numbers (Err (refusal_at 14 at_end))).at not 0 by number)
    -- its number lost
    ∷ ((planned_numbers (Err (refusal_at 17 start))).number not 0 by number)
    -- ## `AuditedNumbers::from`
    -- the counts exchanged
    ∷ ((audited_numbers (Ok (record { listed = 2; unlisted = 1 }))).listed not 1 by number)
    ∷ ((audited_numbers (Ok (record { listed = 2; unlisted = 1 }))).unlisted not 2 by number)
    -- the position of a false segment for a count
    ∷ ((audited_numbers (Err (false_at 96))).listed not 96 by number)
    -- its position lost
    ∷ ((audited_numbers (Err (false_at 96))).at not 0 by number)
    -- its number lost
    ∷ ((audited_numbers (Err (false_at 96))).number not 0 by number)
    -- ## `EntryNumbers::from`
    -- the places of digits and data exchanged
    ∷ ((entry_numbers (Ok (parts_at 113 3))).digits not 223 by number)
    ∷ ((entry_numbers (Ok (parts_at 113 3))).«data» not 127 by number)
    -- the length for the next position
    ∷ ((entry_numbers (Ok (parts_at 113 3))).next not 3 by number)
    -- a good entry with a position, as a refusal has it
    ∷ ((entry_numbers (Ok (parts_at 113 3))).at not 113 by number)
    -- a refusal's position for the next one; its position lost; its number lost
    ∷ ((entry_numbers (Err (refused_at 113 25))).next not 113 by number)
    ∷ ((entry_numbers (Err (refused_at 113 25))).at not 0 by number)
    ∷ ((entry_numbers (Err (refused_at 113 25))).number not 0 by number)
    -- ## `ScannedNumbers::from`
    -- the counts exchanged
    ∷ ((scanned_numbers (Ok (record { entries = 2; bytes = 3 }))).entries not 3 by number)
    ∷ ((scanned_numbers (Ok (record { entries = 2; bytes = 3 }))).bytes not 2 by number)
    -- a refusal's position for a count, lost; its number lost
    ∷ ((scanned_numbers (Err (refused_at 113 24))).entries not 113 by number)
    ∷ ((scanned_numbers (Err (refused_at 113 24))).at not 0 by number)
    ∷ ((scanned_numbers (Err (refused_at 113 24))).number not 0 by number)
    ∷ []

pub host_refuted : Refuted wrongs
unfolding words_of bytes_of answer_of written_of buffer_of fault_of kind_of record_of next_of held spell spell_hash spell_words spell_footer
host_refuted = refuted wrongs refl
