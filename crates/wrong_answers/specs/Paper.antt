-- THE IMPOSSIBLE PROGRAMS that document 01 asks to be tried on paper, each caught at one input. The claim that shuts each out for every input is in docs/STATEMENTS.md.
use Rattle.std.specs.Prelude.{refl, List, [], ◌∷◌, length}
use Rattle.cut.specs.Format.{run, push, fill}
use Rattle.words.specs.Le.{le_at, zeros_at, spell}
use Rattle.words.specs.Record.{spell_hash, spell_words}
use Rattle.rules.specs.Rules.{fault_of, kind_of, record_of, next_of}
use Rattle.rules.specs.Held.{held}
use Rattle.rules.specs.Verdicts.{verdict_at}
use Rattle.layout.specs.Quay.{tag, header}
use Rattle.layout.specs.Scan.{found_in, scan}
use Rattle.reader.specs.Stream.{fresh, step_of}
use Rattle.reader.specs.Readings.{offers, fed}
use Rattle.writer.specs.Offers.{words_of}
use Rattle.writer.specs.Write as write
use Rattle.writer.specs.Write.{bytes_of, answer_of, buffer_of}
use Rattle.writer.specs.declared.Fields.TheVariants as fields
use Rattle.host.specs.Boundary.{verdict_out}
use Rattle.wrong_answers.specs.Wrong.{Wrong, ◌not◌by◌, Refuted, refuted}
use Rattle.wrong_answers.specs.Told.{number, numbers, verdict_told}
use Rattle.wrong_answers.specs.Inputs.{offer, zeros, empty, late, chunks}

abbrev wrongs : List Wrong
wrongs =
    -- a reader that refuses all: the shard of 144 bytes is accepted
    ((verdict_out (found_in tag empty).verdict).number not 1 by number)
    -- one that says the same each time: the shard and its extra byte
    ∷ ((found_in tag late).verdict not (found_in tag empty).verdict by verdict_told)
    -- one that takes no bytes
    ∷ ((step_of (fresh tag) (1 ∷ [])).answer.taken not 0 by number)
    -- one that holds everything back: a header makes one record
    ∷ (length (fed (fresh tag) (header 0 ∷ [])).records not 0 by number)
    -- one that hands all out in one call: one call for the whole shard gives one record, and not its three
    ∷ (length (offers 1 (fresh tag) empty).records not 3 by number)
    -- invented counts: two chunks are two
    ∷ ((verdict_out (found_in tag chunks).verdict).totals.chunks not 3 by number)
    -- a writer that writes nothing
    ∷ (buffer_of (write.fresh tag) (offer (fields.Header 0)) (zeros 48) not zeros 48 by numbers)
    ∷ []

pub paper_refuted : Refuted wrongs
unfolding fresh step_of offers fed write.fresh words_of bytes_of answer_of buffer_of found_in scan run push fill verdict_at fault_of kind_of record_of next_of held le_at zeros_at spell spell_hash spell_words
paper_refuted = refuted wrongs refl
