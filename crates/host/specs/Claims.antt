-- THE CLAIMS about what a host holds: one reader that it keeps and lends to any calls, and one writer, each begun with a tag. Proved in proofs/.
use Rattle.std.specs.Prelude.{◌≡◌, ◌⊎◌, ◌≢◌, List, [], ◌∷◌, ◌++◌, ℕ, ◌+◌, ◌-◌, ◌*◌, ◌/◌, ◌≤◌, eqb, ltb, length, take, drop, get_or, replicate}
use Rattle.words.specs.Checks.{pick}
use Rattle.words.specs.Le.{Bytes, long}
use Rattle.layout.specs.Layout.{Each}
use Rattle.layout.specs.Scan.{scan, found_in, IsAccepted}
use Rattle.rules.specs.declared.Record.{Record}
use Rattle.reader.specs.Stream.{tag_in, fresh}
use Rattle.reader.specs.Readings.{Begun, reader_of, looked_at}
use Rattle.reader.specs.Showings.{rows_in, rests_of}
use Rattle.writer.specs.Offers.{InRange, offer_of}
use Rattle.writer.specs.Write as write
use Rattle.writer.specs.Writings as writings
use Rattle.host.specs.Boundary.{record_out, no_record, reader_in, reader_out, verdict_out, writer_out, offer_in, offer_for}
use Rattle.host.specs.Calls.{step_by, read_by, put_by, verdict_for}
use Rattle.host.specs.declared.RecordState.{RecordState}
use Rattle.host.specs.declared.StepState.{StepState}
use Rattle.host.specs.declared.StandState.{StandState}
use Rattle.host.specs.declared.ReaderState.{ReaderState}
use Rattle.host.specs.declared.WriterState.{WriterState}
use Rattle.host.specs.declared.OfferState.{OfferState}

-- ## Calls of a host on the reader that it keeps

-- a call of the reader, a whole piece into a table, or asking for the verdict
pub data Call : Type 0 where
  steps : (piece : List ℕ) → Call
  reads : (piece table : List ℕ) → Call
  asks : Call

abbrev pub GoodBytes : Call → Type 0
GoodBytes (steps piece) = Bytes piece
GoodBytes (reads piece table) = Bytes piece
GoodBytes asks = Unit {0}

-- a record that a step shows, as the row of a table would show it
abbrev pub row_by : RecordState → List ℕ
row_by r = r.kind ∷ r.at ∷ r.offset ∷ get_or r.hash 0 0 ∷ get_or r.hash 1 0 ∷ get_or r.hash 2 0 ∷ get_or r.hash 3 0 ∷ long r.a r.b ∷ long r.c r.d ∷ []

abbrev pub shown_by : StepState → List ℕ
shown_by a = pick (eqb a.said 1) (row_by a.found) []

-- what a host has after calls: the reader that it keeps, and the rows that it was shown, one after the other
pub record Kept : Type 0 where
  pub reader : ReaderState
  pub rows : List ℕ

abbrev pub after : ReaderState → Call → Kept
after s (steps piece) = record { reader = (step_by s piece).reader; rows = shown_by (step_by s piece).answer }
after s (reads piece table) = record { reader = (read_by s piece table).reader; rows = take (9 * (read_by s piece table).answer.count) (read_by s piece table).table }
after s asks = record { reader = s; rows = [] }

unfoldable pub after_all : ReaderState → List Call → Kept
after_all s [] = record { reader = s; rows = [] }
after_all s (c ∷ cs) = record { reader = (after_all (after s c).reader cs).reader; rows = (after s c).rows ++ (after_all (after s c).reader cs).rows }

-- the pieces that the reader is offered: a read offers what is left of its piece as often as its table has rows
abbrev pub pieces_of : ReaderState → Call → List (List ℕ)
pieces_of s (steps piece) = piece ∷ []
pieces_of s (reads piece table) = rests_of (length table / 9) (reader_in s) piece
pieces_of s asks = []

unfoldable pub pieces_all : ReaderState → List Call → List (List ℕ)
pieces_all s [] = []
pieces_all s (c ∷ cs) = pieces_of s c ++ pieces_all (after s c).reader cs

-- from a fresh reader: what a host has, and the bytes that the calls looked at
abbrev pub held : List ℕ → List Call → Kept
held tag calls = after_all (reader_out (fresh tag)) calls

abbrev pub looked : List ℕ → List Call → List ℕ
looked tag calls = looked_at tag (pieces_all (reader_out (fresh tag)) calls)

-- ## The claims about it

-- HELD: whatever pieces and tables a host lends, in whatever calls, the rows that it was shown are those of the records found in the bytes that the calls looked at, and the reader that it
-- keeps and its verdict are those of these bytes.
pub record HeldClaim (tag : List ℕ) (calls : List Call) : Type 0 where
  pub rows : (held tag calls).rows ≡ rows_in (found_in tag (looked tag calls)).records
  pub reader : (held tag calls).reader ≡ reader_out (reader_of (tag_in tag) (scan tag (looked tag calls)).state)
  pub verdict : verdict_for (held tag calls).reader.stand ≡ verdict_out (found_in tag (looked tag calls)).verdict
  -- it is taken for a reader that beginning and calls give, of which all claims about readers hold, and goes out again as it came
  pub begun : Begun (reader_in (held tag calls).reader)
  pub same : reader_out (reader_in (held tag calls).reader) ≡ (held tag calls).reader

-- the reader holds a refusal, with a number that is not 0
pub record Refusing (s : StandState) (number at : ℕ) : Type 0 where
  pub code : s.place.due.code ≡ 11
  pub number_is : s.place.due.left ≡ number
  pub at_is : s.place.at ≡ at
  pub some : number ≢ 0

-- OF WHAT IS HELD: a reader that a host keeps, after any calls.
pub record OnClaim (s : ReaderState) : Type 0 where
  -- the carry has 200 bytes, and is zero behind those of the record due
  pub long : length s.carry ≡ 200
  pub clean : drop s.stand.place.have s.carry ≡ replicate (200 - s.stand.place.have) 0
  -- with rows enough a piece is used up or refused
  pub room : (piece table : List ℕ) → Bytes piece → (length piece + 200) / 48 + 1 ≤ length table / 9
      → (((read_by s piece table).answer.said ≡ 0) × ((read_by s piece table).answer.taken ≡ length piece)) ⊎ ((read_by s piece table).answer.said ≡ 2)
  -- a call that refuses leaves a reader that holds the refusal
  pub step_refuses : (piece : List ℕ) → Bytes piece → (step_by s piece).answer.said ≡ 2 → Refusing (step_by s piece).reader.stand (step_by s piece).answer.number (step_by s piece).answer.at
  pub read_refuses : (piece table : List ℕ) → Bytes piece → (read_by s piece table).answer.said ≡ 2
      → Refusing (read_by s piece table).reader.stand (read_by s piece table).answer.number (read_by s piece table).answer.at
  -- and one that holds a refusal says it again, whatever it is lent, and nothing changes
  pub step_again : (number at : ℕ) → Refusing s.stand number at → (piece : List ℕ)
      → step_by s piece ≡ record { reader = s; answer = record { found = no_record; taken = 0; at = at; said = 2; number = number } }
  pub read_again : (number at : ℕ) → Refusing s.stand number at → (piece table : List ℕ)
      → read_by s piece table ≡ record { reader = s; answer = record { taken = 0; count = 0; at = at; said = 2; number = number }; table = table }
  pub verdict_again : (number at : ℕ) → Refusing s.stand number at → ((verdict_for s.stand).number ≡ number) × ((verdict_for s.stand).at ≡ at)

-- ## Calls of a host on the writer that it keeps

pub record Offered : Type 0 where
  pub offer : OfferState
  pub buffer : List ℕ

-- what a host has after calls: the writer that it keeps, and the bytes that were written, one record after the other
pub record Written : Type 0 where
  pub writer : WriterState
  pub bytes : List ℕ

unfoldable pub written : WriterState → List Offered → Written
written s [] = record { writer = s; bytes = [] }
written s (o ∷ os) =
    let p = put_by s o.offer o.buffer in
    record { writer = (written p.writer os).writer; bytes = take p.answer.wrote p.buffer ++ (written p.writer os).bytes }

-- the offers of a known kind; the others change nothing
abbrev pub known : List Offered → List writings.Call
known [] = []
known (o ∷ os) = pick (ltb o.offer.kind 9) (record { offer = offer_in o.offer; buffer = o.buffer } ∷ known os) (known os)

abbrev pub InRanges : List Offered → Type 0
InRanges os = Each (λ (o : Offered). InRange (offer_in o.offer)) os

abbrev pub wrote : List ℕ → List Offered → Written
wrote tag os = written (record { stand = writer_out (write.fresh tag) }) os

-- WROTE: the bytes written so far are read back as the records that were offered and taken, and the writer's verdict is theirs.
pub record WroteClaim (tag : List ℕ) (os : List Offered) : Type 0 where
  pub records : (found_in tag (wrote tag os).bytes).records ≡ (writings.written (write.fresh tag) (known os)).records
  pub verdict : verdict_for (wrote tag os).writer.stand ≡ verdict_out (found_in tag (wrote tag os).bytes).verdict
  pub writer : (wrote tag os).writer ≡ record { stand = writer_out (writings.written (write.fresh tag) (known os)).writer }

-- REFUSED: a refusal changes no byte of the buffer, and the writer that a host keeps stays as it was.
abbrev pub StaysClaim : List ℕ → List Offered → Type 0
StaysClaim tag os = (o : Offered) → (put_by (wrote tag os).writer o.offer o.buffer).answer.number ≢ 0
    → ((put_by (wrote tag os).writer o.offer o.buffer).writer ≡ (wrote tag os).writer) × ((put_by (wrote tag os).writer o.offer o.buffer).buffer ≡ o.buffer)

-- these records are offered in their order, each as it was read and with a buffer that is long enough
abbrev pub OffersOf : List Record → List Offered → Type 0
OffersOf [] [] = Unit {0}
OffersOf [] (o ∷ os) = ⊥
OffersOf (r ∷ rs) [] = ⊥
OffersOf (r ∷ rs) (o ∷ os) = (o.offer ≡ offer_for (record_out r)) × (pick (write.is_footer r.kind) 200 48 ≤ length o.buffer) × OffersOf rs os

-- ## All of them

pub record HostClaim : Type 0 where
  pub held_is : (tag : List ℕ) (calls : List Call) → Each GoodBytes calls → HeldClaim tag calls
  pub on : (tag : List ℕ) (calls : List Call) → Each GoodBytes calls → OnClaim (held tag calls).reader
  pub wrote_is : (tag : List ℕ) → Bytes tag → (os : List Offered) → InRanges os → WroteClaim tag os
  pub stays : (tag : List ℕ) → Bytes tag → (os : List Offered) → InRanges os → StaysClaim tag os
  -- an offer made of a record that was read is the record's own, and so the records of an accepted shard, offered in their order, give its bytes again
  pub offer : (r : Record) → offer_in (offer_for (record_out r)) ≡ offer_of r
  pub again : (tag : List ℕ) → Bytes tag → (bytes : List ℕ) → Bytes bytes → IsAccepted (found_in tag bytes).verdict
      → (os : List Offered) → InRanges os → OffersOf (found_in tag bytes).records os → (wrote tag os).bytes ≡ bytes
  -- of any state at all, only one at the end is told as accepted
  pub accepted : (s : StandState) → (verdict_for s).number ≡ 0 → s.place.due.code ≡ 10
