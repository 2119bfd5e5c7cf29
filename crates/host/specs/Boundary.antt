-- STATES AND ANSWERS AS NUMBERS: how each crosses to C, and how the numbers are taken when they come back.
-- Every number is taken: a code of what is due that is not given out, and a refusal with number 0, is a refusal with 255; and a mark is true unless it is 0.
use Rattle.std.specs.Prelude.{ℕ, Bool, not, eqb, ltb, replicate, Option, Some, None, Result, Ok, Err}
use Rattle.words.specs.declared.Refusal.{Refusal}
use Rattle.words.specs.Refusals.{no_refusal}
use Rattle.words.specs.Checks.{pick}
use Rattle.words.specs.Le.{low, long}
use Rattle.rules.specs.Rules.{nothing}
use Rattle.rules.specs.Kinds.{row_of}
use Rattle.rules.specs.declared.Place.{Place}
use Rattle.rules.specs.declared.Record.{Record}
use Rattle.rules.specs.Verdicts.{Verdict}
use Rattle.rules.specs.declared.Due.{Due}
use Rattle.rules.specs.declared.Due.TheVariants as due
use Rattle.reader.specs.declared.Stand.{Stand}
use Rattle.reader.specs.declared.Reader.{Reader}
use Rattle.reader.specs.declared.Answer.{Answer}
use Rattle.reader.specs.declared.Ended.{Ended}
use Rattle.reader.specs.declared.Ended.TheVariants as ended
use Rattle.writer.specs.declared.Writer.{Writer}
use Rattle.writer.specs.declared.Offer.{Offer}
use Rattle.writer.specs.declared.Fields.{Fields}
use Rattle.writer.specs.declared.Fields.TheVariants as fields
use Rattle.host.specs.declared.DueState.{DueState}
use Rattle.host.specs.declared.PlaceState.{PlaceState}
use Rattle.host.specs.declared.StandState.{StandState}
use Rattle.host.specs.declared.ReaderState.{ReaderState}
use Rattle.host.specs.declared.ReadState.{ReadState}
use Rattle.host.specs.declared.RecordState.{RecordState}
use Rattle.host.specs.declared.VerdictState.{VerdictState}
use Rattle.host.specs.declared.StepState.{StepState}
use Rattle.host.specs.declared.OfferState.{OfferState}
use Rattle.host.specs.declared.UnknownKind.{UnknownKind}

-- ## Places

abbrev pub yes : ℕ → Bool
yes n = not (eqb n 0)

abbrev pub mark : Bool → ℕ
mark b = pick b 1 0

-- a refusal that is given out has a number that is not 0
abbrev pub number_in : ℕ → ℕ
number_in left = pick (eqb left 0) 255 left

-- the first that has this code; a code that is not given out is a refusal with 255
abbrev pub due_in : DueState → Due
due_in s =
    pick (eqb s.code 1) due.Header
    (pick (eqb s.code 2) due.FileHead
    (pick (eqb s.code 3) (due.Segment s.left)
    (pick (eqb s.code 4) (due.Verification s.left)
    (pick (eqb s.code 5) due.Metadata
    (pick (eqb s.code 6) due.XorbHead
    (pick (eqb s.code 7) (due.Chunk s.left s.sum s.total)
    (pick (eqb s.code 9) due.Footer
    (pick (eqb s.code 10) due.End
    (due.Refused (pick (eqb s.code 11) (number_in s.left) 255))))))))))

abbrev due_numbers : ℕ → ℕ → ℕ → ℕ → DueState
due_numbers code left sum total = record { sum = sum; total = total; code = code; left = left }

abbrev pub due_out : Due → DueState
due_out due.Header = due_numbers 1 0 0 0
due_out due.FileHead = due_numbers 2 0 0 0
due_out (due.Segment left) = due_numbers 3 left 0 0
due_out (due.Verification left) = due_numbers 4 left 0 0
due_out due.Metadata = due_numbers 5 0 0 0
due_out due.XorbHead = due_numbers 6 0 0 0
due_out (due.Chunk left sum total) = due_numbers 7 left sum total
due_out due.Footer = due_numbers 9 0 0 0
due_out due.End = due_numbers 10 0 0 0
due_out (due.Refused number) = due_numbers 11 number 0 0

abbrev pub place_in : PlaceState → Place
place_in s = record {
  at = record { 0 = s.at };
  offset = record { 0 = s.offset };
  totals = s.totals;
  flags = s.flags;
  entries = s.entries;
  footer = yes s.footer;
  due = due_in s.due;
}

-- with the bytes that a reader's carry has
abbrev pub place_out : Place → ℕ → PlaceState
place_out p have = record {
  at = p.at.0;
  offset = p.offset.0;
  totals = p.totals;
  due = due_out p.due;
  flags = p.flags;
  entries = p.entries;
  footer = mark p.footer;
  have = have;
}

-- ## Records, offers and verdicts

abbrev pub record_out : Record → RecordState
record_out r = record {
  hash = r.words.hash;
  at = r.at.0;
  offset = r.offset.0;
  kind = row_of r.kind;
  a = r.words.a;
  b = r.words.b;
  c = r.words.c;
  d = r.words.d;
}

-- where no record was found, zeros go out
abbrev pub no_record : RecordState
no_record = record { hash = replicate 4 0; at = 0; offset = 0; kind = 0; a = 0; b = 0; c = 0; d = 0 }

-- what is offered, where its kind is known: a kind that is not 0 to 8 is no offer, and is not put (`written_for`)
abbrev pub if_known : {A : Type 0} → OfferState → A → Result A UnknownKind
if_known s x = pick (ltb s.kind 9) (Ok x) (Err (record { 0 = s.kind }))

-- the fields of an offer, by the paper's row
abbrev pub fields_in : OfferState → Fields
fields_in s =
    pick (eqb s.kind 0) (fields.Header s.x)
    (pick (eqb s.kind 1) (fields.FileHead s.a s.b)
    (pick (eqb s.kind 2) (fields.Segment s.a s.b (record { 0 = s.c }) (record { 0 = s.d }))
    (pick (eqb s.kind 3) fields.Verification
    (pick (eqb s.kind 4) fields.Metadata
    (pick (eqb s.kind 5) (fields.XorbHead s.a s.b s.c s.d)
    (pick (eqb s.kind 6) (fields.Chunk s.a s.b)
    (pick (eqb s.kind 7) fields.SectionEnd
    (fields.Footer s.x s.y))))))))

abbrev pub offer_in : OfferState → Offer
offer_in s = record { hash = s.hash; fields = fields_in s }

-- the offer that writes a record which was read: what its kind does not name is not looked at
abbrev pub offer_for : RecordState → OfferState
offer_for s = record {
  hash = s.hash;
  x = pick (eqb s.kind 0) (long s.c s.d) (long s.a s.b);
  y = long s.c s.d;
  kind = s.kind;
  a = s.a;
  b = s.b;
  c = s.c;
  d = s.d;
}

-- an accepted shard has no number and no position; a refusal has zeros for the rest
abbrev pub verdict_out : Verdict → VerdictState
verdict_out (Ok summary) = record { length = summary.length; totals = summary.totals; at = 0; number = 0; footer = mark summary.footer }
verdict_out (Err refusal) = record { length = 0; totals = nothing; at = refusal.at.0; number = refusal.number; footer = 0 }

-- ## Readers

abbrev pub stand_in : StandState → Stand
stand_in s = record { have = s.place.have; tag = record { 0 = s.tag }; place = place_in s.place }

-- `have` goes out as 32 bits; that of a begun reader is at most 200
abbrev pub stand_out : Stand → StandState
stand_out s = record { tag = s.tag.0; place = place_out s.place (low s.have) }

abbrev pub reader_in : ReaderState → Reader
reader_in s = record { stand = stand_in s.stand; carry = s.carry }

abbrev pub reader_out : Reader → ReaderState
reader_out r = record { stand = stand_out r.stand; carry = r.carry }

-- what a call found: 0 nothing yet, 1 a record, 2 a refusal
abbrev pub found_number : Result (Option Record) Refusal → ℕ
found_number (Ok None) = 0
found_number (Ok (Some r)) = 1
found_number (Err refusal) = 2

-- what ended the reading of a piece: 0 it is used up, 1 the table is full, 2 a refusal
abbrev pub ended_number : Result Ended Refusal → ℕ
ended_number (Ok ended.PieceUsed) = 0
ended_number (Ok ended.TableFull) = 1
ended_number (Err refusal) = 2

-- the refusal, or number 0 at position 0
abbrev pub refusal_of : {A : Type 0} → Result A Refusal → Refusal
refusal_of (Ok x) = no_refusal
refusal_of (Err refusal) = refusal

abbrev pub found_out : Result (Option Record) Refusal → RecordState
found_out (Ok None) = no_record
found_out (Ok (Some r)) = record_out r
found_out (Err refusal) = no_record

abbrev pub step_out : Answer → StepState
step_out a = record {
  found = found_out a.found;
  taken = a.taken;
  at = (refusal_of a.found).at.0;
  said = found_number a.found;
  number = (refusal_of a.found).number;
}

abbrev pub read_out : ℕ → ℕ → Result Ended Refusal → ReadState
read_out taken count e = record { taken = taken; count = count; at = (refusal_of e).at.0; said = ended_number e; number = (refusal_of e).number }

-- ## Writers

abbrev pub writer_in : StandState → Writer
writer_in s = record { tag = record { 0 = s.tag }; place = place_in s.place }

abbrev pub writer_out : Writer → StandState
writer_out w = record { tag = w.tag.0; place = place_out w.place 0 }
