-- A FORMAT IS READ RECORD BY RECORD: what is due at a place, what a whole record means, and what a byte after the end is.
-- What bytes mean is said byte by byte, for any format: a record is judged once all its bytes are there.
use Rattle.std.specs.Prelude.{ℕ, List, [], ◌∷◌, ◌++◌, length, ltb, eqb}
use Rattle.words.specs.Checks.{pick}

-- what judging one whole record says
pub data Judged (Place Rec Fault : Type 0) : Type 0 where
  good : Place → Rec → Judged Place Rec Fault
  bad : Fault → Judged Place Rec Fault

-- due: the bytes of the record due, 0 at the end; late: what a byte after the end is
pub record Format (Place Rec Fault : Type 0) : Type 0 where
  pub due : Place → ℕ
  pub late : Place → Fault
  pub judge : Place → List ℕ → Judged Place Rec Fault

-- a reader's state: between bytes of the record due at a place, or refused
pub data State (Place Fault : Type 0) : Type 0 where
  at : Place → List ℕ → State Place Fault
  stopped : Fault → State Place Fault

-- what some bytes gave: the complete records, and the state after them
pub record Run (Place Rec Fault : Type 0) : Type 0 where
  pub recs : List Rec
  pub state : State Place Fault

module _ {Place Rec Fault : Type 0} where
  -- first a, then b
  abbrev pub then_run : List Rec → Run Place Rec Fault → Run Place Rec Fault
  then_run rs b = record { recs = rs ++ b.recs; state = b.state }

  -- what is left of a whole record, judged
  abbrev pub settle : Judged Place Rec Fault → Run Place Rec Fault
  settle (good p r) = record { recs = r ∷ []; state = at p [] }
  settle (bad f) = record { recs = []; state = stopped f }

module _ {Place Rec Fault : Type 0} (F : Format Place Rec Fault) where
  -- the record's bytes so far are h: judged once all are there
  unfoldable pub fill : Place → List ℕ → Run Place Rec Fault
  fill p h = pick (ltb (length h) (F.due p)) (record { recs = []; state = at p h }) (settle (F.judge p h))

  -- one byte
  unfoldable pub push : State Place Fault → ℕ → Run Place Rec Fault
  push (stopped f) b = record { recs = []; state = stopped f }
  push (at p h) b = pick (eqb (F.due p) 0) (record { recs = []; state = stopped (F.late p) }) (fill p (h ++ (b ∷ [])))

  -- what bytes mean, from a state
  unfoldable pub run : State Place Fault → List ℕ → Run Place Rec Fault
  run s [] = record { recs = []; state = s }
  run s (b ∷ bs) = then_run (push s b).recs (run (push s b).state bs)
