-- WHAT A HOST CALLS: the answer, what is lent afterwards, and the state that the host keeps, for every state and all that is lent.
use Rattle.std.specs.Prelude.{ℕ, List, ltb, length}
use Rattle.words.specs.Checks.{pick}
use Rattle.words.specs.Refusals.{wrote_numbers}
use Rattle.words.specs.declared.WroteNumbers.{WroteNumbers}
use Rattle.rules.specs.Kinds.{not_due}
use Rattle.rules.specs.Verdicts.{verdict_at}
use Rattle.reader.specs.Stream.{step_of}
use Rattle.reader.specs.Rows.{read_for}
use Rattle.writer.specs.Write.{refuses, written_of, buffer_of}
use Rattle.writer.specs.declared.Writer.{Writer}
use Rattle.writer.specs.declared.Written.{Written}
use Rattle.host.specs.Boundary.{place_in, reader_in, reader_out, step_out, read_out, verdict_out, writer_in, writer_out, offer_in}
use Rattle.host.specs.declared.StandState.{StandState}
use Rattle.host.specs.declared.ReaderState.{ReaderState}
use Rattle.host.specs.declared.WriterState.{WriterState}
use Rattle.host.specs.declared.ReadState.{ReadState}
use Rattle.host.specs.declared.StepState.{StepState}
use Rattle.host.specs.declared.OfferState.{OfferState}
use Rattle.host.specs.declared.VerdictState.{VerdictState}

-- ## Readers

-- one call
pub record Stepped : Type 0 where
  pub reader : ReaderState
  pub answer : StepState

unfoldable pub step_by : ReaderState → List ℕ → Stepped
step_by s piece = record { reader = reader_out (step_of (reader_in s) piece).reader; answer = step_out (step_of (reader_in s) piece).answer }

-- a whole piece
pub record Read : Type 0 where
  pub reader : ReaderState
  pub answer : ReadState
  pub table : List ℕ

unfoldable pub read_by : ReaderState → List ℕ → List ℕ → Read
read_by s piece table =
    let x = read_for (reader_in s) piece table in
    record { reader = reader_out x.answer.reader; answer = read_out x.answer.taken x.answer.count x.answer.ended; table = x.table }

-- the verdict so far, of a reader and of a writer
unfoldable pub verdict_for : StandState → VerdictState
verdict_for s = verdict_out (verdict_at (place_in s.place))

-- ## Writers

-- an offer of no known kind is refused as a record that is not due: with 16, and by a writer begun with a bad tag with 2
abbrev pub unknown : Writer → Written
unknown w = record { writer = w; answer = refuses w (not_due w.place.due) }

-- what is answered to an offer of any kind, known or not, from the length of the buffer
abbrev pub written_for : Writer → OfferState → ℕ → Written
written_for w s room = pick (ltb s.kind 9) (written_of w (offer_in s) room) (unknown w)

-- the buffer after it
abbrev pub buffer_for : Writer → OfferState → List ℕ → List ℕ
buffer_for w s buffer = pick (ltb s.kind 9) (buffer_of w (offer_in s) buffer) buffer

-- one record
pub record Put : Type 0 where
  pub writer : WriterState
  pub answer : WroteNumbers
  pub buffer : List ℕ

unfoldable pub put_by : WriterState → OfferState → List ℕ → Put
put_by s offer buffer =
    let x = written_for (writer_in s.stand) offer (length buffer) in
    record { writer = record { stand = writer_out x.writer }; answer = wrote_numbers x.answer; buffer = buffer_for (writer_in s.stand) offer buffer }
