-- A WHOLE PIECE AT ONCE: calls of the reader, one after the other, each with what the call before left of the piece, until it is used up or refused or
-- the table is full. The records found go to the rows of a lent table, from its start.
use Rattle.std.specs.Prelude.{ℕ, zero, suc, ◌+◌, ◌*◌, ◌/◌, List, [], ◌∷◌, length, drop, get_or, Option, Some, None, Result, Ok, Err}
use Rattle.words.specs.Le.{puts, long}
use Rattle.words.specs.declared.Refusal.{Refusal}
use Rattle.rules.specs.Kinds.{row_of}
use Rattle.rules.specs.declared.Record.{Record}
use Rattle.reader.specs.Stream.{said_at, step_of}
use Rattle.reader.specs.declared.Reader.{Reader}
use Rattle.reader.specs.declared.Step.{Step}
use Rattle.reader.specs.declared.Ended.{Ended}
use Rattle.reader.specs.declared.Ended.TheVariants.{PieceUsed, TableFull}
use Rattle.reader.specs.declared.Read.{Read}

-- a record's row: kind, position, offset, the hash, and the four numbers behind it, two in one
abbrev pub row_in : Record → List ℕ
row_in r =
    row_of r.kind
    ∷ r.at.0
    ∷ r.offset.0
    ∷ get_or r.words.hash 0 0
    ∷ get_or r.words.hash 1 0
    ∷ get_or r.words.hash 2 0
    ∷ get_or r.words.hash 3 0
    ∷ long r.words.a r.words.b
    ∷ long r.words.c r.words.d
    ∷ []

-- what is answered after some calls: the reader, the bytes taken, the rows filled, and why no more was read
pub record Answered : Type 0 where
  pub reader : Reader
  pub taken : ℕ
  pub count : ℕ
  pub ended : Result Ended Refusal

abbrev pub answered : Reader → ℕ → ℕ → Result Ended Refusal → Answered
answered r taken count e = record { reader = r; taken = taken; count = count; ended = e }

-- after a call that handed out no record
abbrev pub ended_by : Step → ℕ → ℕ → Result Ended Refusal → Answered
ended_by s taken count e = answered s.reader (taken + s.answer.taken) count e

-- the answer, and the table after the call
pub record Reading : Type 0 where
  pub answer : Answered
  pub table : List ℕ

-- the next call, after so many bytes were taken
abbrev pub next_step : Reader → List ℕ → ℕ → Step
next_step r piece taken = step_of r (drop taken piece)

-- a read goes on behind a record, and else ends
abbrev pub goes_on : {A : Type 0} → Result (Option Record) Refusal → (Record → A) → (Result Ended Refusal → A) → A
goes_on (Ok (Some found)) on over = on found
goes_on (Ok None) on over = over (Ok PieceUsed)
goes_on (Err refusal) on over = over (Err refusal)

-- with so many rows left, so many bytes taken and so many rows filled; where no row is left the table is full, or it was refused before
unfoldable pub reads_on : ℕ → Reader → List ℕ → ℕ → ℕ → List ℕ → Reading
reads_on zero r piece taken count table = record { answer = answered r taken count (said_at TableFull r.stand.place); table = table }
reads_on (suc left) r piece taken count table =
    let s = next_step r piece taken in
    goes_on s.answer.found
    (λ found. reads_on left s.reader piece (taken + s.answer.taken) (count + 1) (puts table (9 * count) (row_in found)))
    (λ e. record { answer = ended_by s taken count e; table = table })

-- a table shorter than a row is one that is full
unfoldable pub read_for : Reader → List ℕ → List ℕ → Reading
read_for r piece table = reads_on (length table / 9) r piece 0 0 table

-- the answer without the carry
abbrev pub read_of : Answered → Read
read_of x = record { stand = x.reader.stand; taken = x.taken; count = x.count; ended = x.ended }
