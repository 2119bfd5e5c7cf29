-- Wrong answers of `writer`: what is offered, the record that is made of it, what a record read offers again, and one record into a buffer.
use Rattle.std.specs.Prelude.{refl, List, [], ◌∷◌, replicate, Ok, Err}
use Rattle.words.specs.Le.{le_at, spell}
use Rattle.words.specs.Record.{spell_hash, spell_words, spell_footer}
use Rattle.words.specs.Refusals.{wrote_numbers}
use Rattle.rules.specs.Rules.{fault_of, kind_of, record_of, next_of, start}
use Rattle.rules.specs.Held.{held}
use Rattle.rules.specs.Kinds.{row_of}
use Rattle.rules.specs.Verdicts.{refusal_at, verdict_at}
use Rattle.rules.specs.declared.Place.{Place}
use Rattle.rules.specs.declared.Kind.TheVariants as kind
use Rattle.rules.specs.declared.Due.TheVariants as due
use Rattle.writer.specs.Offers.{kind_offered, words_of, fields_of, offer_of}
use Rattle.writer.specs.Write.{bytes_of, answer_of, written_of, buffer_of, fresh, verdict_of}
use Rattle.writer.specs.declared.Offer.{Offer}
use Rattle.writer.specs.declared.Fields.TheVariants as fields
use Rattle.wrong_answers.specs.Wrong.{Wrong, ◌not◌by◌, Refuted, refuted}
use Rattle.wrong_answers.specs.Told.{number, numbers, due_told, verdict_told, answer_told, fields_told}
use Rattle.wrong_answers.specs.Inputs.{words, four, here, at_end, at_footer, tag_short, writer, offer, zeros}

abbrev at_file_head : Place
at_file_head = here 48 due.FileHead

-- a file head that declares more than the limit holds
abbrev large : Offer
large = offer (fields.FileHead 0 349523)

-- a xorb head with the hash of all ones
abbrev ones_head : Offer
ones_head = record { hash = replicate 4 18446744073709551615; fields = fields.XorbHead 0 0 0 0 }

abbrev wrongs : List Wrong
wrongs =
    -- ## `Fields::kind`
    -- the end of a section as a footer
    (row_of (kind_offered (offer fields.SectionEnd)) not row_of kind.Footer by number)
    -- a verification as metadata
    ∷ (row_of (kind_offered (offer fields.Verification)) not row_of kind.Metadata by number)
    -- ## `Offer::words`
    -- version 1
    ∷ ((words_of four (offer (fields.Header 200))).a not 1 by number)
    -- a chunk's numbers exchanged
    ∷ ((words_of four (offer (fields.Chunk 3 7))).a not 7 by number)
    -- ## A record's `Fields`
    -- the version as the footer size
    ∷ (fields_of (record_of start (words 2 0 200 0)) not fields.Header 2 by fields_told)
    -- bytes in xorb as bytes on disk
    ∷ (fields_of (record_of (here 96 due.XorbHead) (words 0 0 30 20)) not fields.XorbHead 0 0 30 30 by fields_told)
    -- ## A record's `Offer`
    -- no hash
    ∷ ((offer_of (record_of at_file_head (words 0 0 0 0))).hash not replicate 4 0 by numbers)
    -- times exchanged
    ∷ ((offer_of (record_of at_footer (words 1 0 2 0))).fields not fields.Footer 2 1 by fields_told)
    -- ## `Writer::new`
    -- a tag of 31 bytes taken
    ∷ ((fresh tag_short).place.due not due.Header by due_told)
    -- 1 for 2
    ∷ ((fresh tag_short).place.due not due.Refused 1 by due_told)
    -- ## `Writer::put`
    -- writes nothing
    ∷ (buffer_of (writer at_file_head) (offer (fields.FileHead 0 0)) (zeros 48) not zeros 48 by numbers)
    -- writes past its record
    ∷ (buffer_of (writer at_file_head) (offer (fields.FileHead 0 0)) (replicate 49 7) not 7 ∷ spell_words (words 0 0 0 0) by numbers)
    -- 15 before 6
    ∷ (answer_of (writer at_file_head) large 0 not Err (refusal_at 15 at_file_head) by answer_told)
    -- moves on when refused
    ∷ ((written_of (writer at_file_head) large 48).writer.place.at.0 not 96 by number)
    -- all ones in a xorb head
    ∷ (answer_of (writer (here 96 due.XorbHead)) ones_head 48 not Ok 48 by answer_told)
    -- another footer offset
    ∷ (buffer_of (writer at_footer) (offer (fields.Footer 0 0)) (zeros 200) not spell_footer 144 144 (words 0 0 0 0) by numbers)
    -- a buffer that is too short for the record
    ∷ (answer_of (writer at_footer) (offer (fields.Footer 0 0)) 199 not Ok 200 by answer_told)
    -- ## The `WroteNumbers` of an answer
    -- no byte written
    ∷ ((wrote_numbers (Ok 48)).wrote not 0 by number)
    -- a refused offer said to have been written
    ∷ ((wrote_numbers (Err (refusal_at 16 at_file_head))).wrote not 48 by number)
    -- a refusal's number lost; its position lost
    ∷ ((wrote_numbers (Err (refusal_at 16 at_file_head))).number not 0 by number)
    ∷ ((wrote_numbers (Err (refusal_at 16 at_file_head))).at not 0 by number)
    -- ## `Writer::verdict`
    -- always 1
    ∷ (verdict_of (writer at_end) not Err (refusal_at 1 at_end) by verdict_told)
    -- that of a fresh writer
    ∷ (verdict_of (writer at_file_head) not Err (refusal_at 1 start) by verdict_told)
    ∷ []

pub writer_refuted : Refuted wrongs
unfolding words_of fields_of offer_of fresh bytes_of answer_of written_of buffer_of verdict_of verdict_at fault_of kind_of record_of next_of held le_at spell spell_hash spell_words spell_footer
writer_refuted = refuted wrongs refl
