-- WHAT A HOST SEES that reads whole pieces into a table, and the claims about it, proved in proofs/ for every begun reader and all bytes.
use Rattle.std.specs.Prelude.{◌≡◌, List, [], ◌∷◌, ◌++◌, ℕ, zero, suc, ◌+◌, ◌/◌, ◌≤◌, length, drop, Result, Ok, Err}
use Rattle.words.specs.Le.{Bytes, puts}
use Rattle.rules.specs.Verdicts.{refusal_at}
use Rattle.rules.specs.declared.Record.{Record}
use Rattle.words.specs.declared.Refusal.{Refusal}
use Rattle.rules.specs.declared.Due.TheVariants.{Refused}
use Rattle.reader.specs.Stream.{step_of}
use Rattle.reader.specs.Rows.{row_in, answered, Reading, read_for}
use Rattle.reader.specs.Readings.{Seen, called, Begun, Holds}
use Rattle.reader.specs.declared.Reader.{Reader}
use Rattle.reader.specs.declared.Ended.{Ended}
use Rattle.reader.specs.declared.Ended.TheVariants.{PieceUsed, TableFull}

-- the rows of records, one after the other
abbrev pub rows_in : List Record → List ℕ
rows_in [] = []
rows_in (r ∷ rs) = row_in r ++ rows_in rs

-- what n calls for one piece are offered: each what the call before left of it
unfoldable pub rests_of : ℕ → Reader → List ℕ → List (List ℕ)
rests_of zero r piece = []
rests_of (suc n) r piece = piece ∷ rests_of n (step_of r piece).reader (drop (step_of r piece).answer.taken piece)

-- and how many bytes they take
unfoldable pub taken_of : ℕ → Reader → List ℕ → ℕ
taken_of zero r piece = 0
taken_of (suc n) r piece = (step_of r piece).answer.taken + taken_of n (step_of r piece).reader (drop (step_of r piece).answer.taken piece)

-- why no more was read: the piece is used up, or the table is full, or else the reader holds the refusal
abbrev pub SaysWhy : Result Ended Refusal → Reading → List ℕ → ℕ → Type 0
SaysWhy (Ok PieceUsed) x piece rows = x.answer.taken ≡ length piece
SaysWhy (Ok TableFull) x piece rows = x.answer.count ≡ rows
SaysWhy (Err refusal) x piece rows = Holds x.answer.reader refusal

-- SHOWS: a read of a whole piece is as many calls as the table has rows: the reader after them, the bytes that they take, how many records they hand out, and their rows in the table,
-- of which no other number changes.
pub record ShowsClaim (x : Reading) (r : Reader) (piece table : List ℕ) (rows : ℕ) (seen : Seen) : Type 0 where
  pub reader : x.answer.reader ≡ seen.reader
  pub taken : x.answer.taken ≡ taken_of rows r piece
  pub count : x.answer.count ≡ length seen.records
  pub table_is : x.table ≡ puts table 0 (rows_in seen.records)
  pub fits : length seen.records ≤ rows
  pub says : SaysWhy x.answer.ended x piece rows

-- ENOUGH ROWS: a piece of n bytes is used up or refused, if the table has more rows than n bytes and those in the carry can be records.
abbrev pub UsedUp : Result Ended Refusal → Reading → List ℕ → Type 0
UsedUp (Ok PieceUsed) x piece = x.answer.taken ≡ length piece
UsedUp (Ok TableFull) x piece = ⊥
UsedUp (Err refusal) x piece = Holds x.answer.reader refusal

abbrev pub RoomClaim : Reader → List ℕ → List ℕ → Type 0
RoomClaim r piece table = (length piece + 200) / 48 + 1 ≤ length table / 9 → UsedUp (read_for r piece table).answer.ended (read_for r piece table) piece

-- REPEATED: a reader whose place holds a refusal says it again, whatever piece and table it is lent, and neither it nor the table changes.
abbrev pub RepeatedClaim : Reader → Type 0
RepeatedClaim r = (number : ℕ) → r.stand.place.due ≡ Refused number → (piece table : List ℕ)
    → read_for r piece table ≡ record { answer = answered r 0 0 (Err (refusal_at number r.stand.place)); table = table }

-- ALL OF THEM
pub record RowsClaim : Type 0 where
  pub shows : (r : Reader) → Begun r → (piece : List ℕ) → Bytes piece → (table : List ℕ)
      → ShowsClaim (read_for r piece table) r piece table (length table / 9) (called r (rests_of (length table / 9) r piece))
  pub room : (r : Reader) → Begun r → (piece : List ℕ) → Bytes piece → (table : List ℕ) → RoomClaim r piece table
  pub again : (r : Reader) → RepeatedClaim r
  -- the reader after a read is one that calls give
  pub reads : (r : Reader) → Begun r → (piece : List ℕ) → Bytes piece → (table : List ℕ) → Begun (read_for r piece table).answer.reader
