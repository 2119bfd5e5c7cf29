-- THE CLAIM OF THE REFUSALS, proved in proofs/Refusals for every tag of 32 bytes and any bytes: they are whole good records, which are exactly those found,
-- and then one of four endings; and the verdict is that of the ending. So the first faulty record decides, with its own number and position.
-- Any other tag is refused before all bytes.
use Rattle.std.specs.Prelude.{◌≡◌, ◌≢◌, List, [], ◌++◌, ℕ, ◌≤◌, ◌<◌, length, take, Ok, Err}
use Rattle.words.specs.Record.{tag_at}
use Rattle.words.specs.declared.Tag.{Tag}
use Rattle.cut.specs.Fate.{Reads}
use Rattle.rules.specs.Rules.{size_of, fault_in, start}
use Rattle.rules.specs.Verdicts.{refusal_at, summary_of}
use Rattle.rules.specs.declared.Place.{Place}
use Rattle.rules.specs.Verdicts.{Verdict}
use Rattle.rules.specs.declared.Due.TheVariants.{End}
use Rattle.layout.specs.Scan.{format, Found, found_in}

-- what the bytes behind the good records make of the verdict
pub data Ends (four : Tag) (p : Place) (rest : List ℕ) : Verdict → Type 0 where
  -- the input ends inside or before the record due
  early : length rest < size_of p → Ends four p rest (Err (refusal_at 1 p))
  -- the end, and nothing follows
  done : p.due ≡ End → rest ≡ [] → Ends four p rest (Ok (summary_of p))
  -- the end, and a byte follows
  over : p.due ≡ End → rest ≢ [] → Ends four p rest (Err (refusal_at 14 p))
  -- the record due is all there, and faulty
  faulty : 0 < size_of p → size_of p ≤ length rest → fault_in four p (take (size_of p) rest) ≢ 0 → Ends four p rest (Err (refusal_at (fault_in four p (take (size_of p) rest)) p))

pub record FateClaim (tag bytes : List ℕ) : Type 0 where
  -- the bytes of the good records, and those behind them
  pub before : List ℕ
  pub rest : List ℕ
  pub split : bytes ≡ before ++ rest
  -- the place that the good records lead to; they are the records found
  pub place : Place
  pub reads : Reads (format (tag_at tag)) start before (found_in tag bytes).records place
  -- and so the reading ends
  pub ends : Ends (tag_at tag) place rest (found_in tag bytes).verdict

-- what is found under a tag that is not 32 bytes: no record, and 2 at 0
abbrev pub tag_refused : Found
tag_refused = record { records = []; verdict = Err (refusal_at 2 start) }
