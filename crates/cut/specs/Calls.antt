-- CALLS OF A READER, on states: one call, a piece offered until it is used up or refused, pieces one after the other, and any calls at all.
use Rattle.std.specs.Prelude.{ℕ, zero, suc, ◌-◌, ◌<◌, min, ◌≡◌, ◌⊎◌, List, [], ◌∷◌, ◌++◌, length, take, drop, eqb}
use Rattle.words.specs.Checks.{pick}
use Rattle.cut.specs.Format.{Format, State, at, stopped, Run, then_run, fill}

-- what one call gave: the bytes taken, the record if one was completed, and the next state
pub record Step (Place Rec Fault : Type 0) : Type 0 where
  pub taken : ℕ
  pub out : Run Place Rec Fault

-- the bytes of pieces, one after the other
abbrev pub joined : List (List ℕ) → List ℕ
joined [] = []
joined (p ∷ ps) = p ++ joined ps

module _ {Place Rec Fault : Type 0} (F : Format Place Rec Fault) where
  -- a state that a beginning and any calls give: fewer bytes are held than are due, and none where nothing is due
  abbrev pub Fit : State Place Fault → Type 0
  Fit (stopped f) = Unit {0}
  Fit (at p h) = (length h < F.due p) ⊎ ((F.due p ≡ 0) × (h ≡ []))

  -- an end: a byte is refused, no byte changes nothing
  abbrev pub end_step : Place → List ℕ → List ℕ → Step Place Rec Fault
  end_step p h [] = record { taken = 0; out = record { recs = []; state = at p h } }
  end_step p h (b ∷ bs) = record { taken = 0; out = record { recs = []; state = stopped (F.late p) } }

  -- inside: n more bytes of the record due
  abbrev pub in_step : Place → List ℕ → List ℕ → ℕ → Step Place Rec Fault
  in_step p h piece n = record { taken = n; out = fill F p (h ++ take n piece) }

  -- one call of the reader
  unfoldable pub step : State Place Fault → List ℕ → Step Place Rec Fault
  step (stopped f) piece = record { taken = 0; out = record { recs = []; state = stopped f } }
  step (at p h) piece = pick (eqb (F.due p) 0) (end_step p h piece) (in_step p h piece (min (length piece) (F.due p - length h)))

  -- a piece, until it is used up or refused: n calls with what is left of it
  unfoldable pub feed : ℕ → State Place Fault → List ℕ → Run Place Rec Fault
  feed zero s piece = record { recs = []; state = s }
  feed (suc n) s piece = then_run (step s piece).out.recs (feed n (step s piece).out.state (drop (step s piece).taken piece))

  -- pieces, one after the other
  unfoldable pub feeds : State Place Fault → List (List ℕ) → Run Place Rec Fault
  feeds s [] = record { recs = []; state = s }
  feeds s (p ∷ ps) = then_run (feed (suc (length p)) s p).recs (feeds (feed (suc (length p)) s p).state ps)

  -- the bytes that a call looks at: those that it takes, and a byte after the end, which it refuses
  unfoldable pub looked : State Place Fault → List ℕ → List ℕ
  looked (stopped f) piece = []
  looked (at p h) piece = pick (eqb (F.due p) 0) (take 1 piece) (take (min (length piece) (F.due p - length h)) piece)

  unfoldable pub offered : State Place Fault → List (List ℕ) → Run Place Rec Fault
  offered s [] = record { recs = []; state = s }
  offered s (p ∷ ps) = then_run (step s p).out.recs (offered (step s p).out.state ps)

  unfoldable pub looked_all : State Place Fault → List (List ℕ) → List ℕ
  looked_all s [] = []
  looked_all s (p ∷ ps) = looked s p ++ looked_all (step s p).out.state ps
