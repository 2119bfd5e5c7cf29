-- WHAT ANY BYTES COME TO: whole good records, and then one of four ends. So the first faulty record decides, and the records found are those before it.
use Rattle.std.specs.Prelude.{ℕ, ◌≤◌, ◌<◌, ◌≡◌, List, [], ◌∷◌, ◌++◌, length, take}
use Rattle.cut.specs.Format.{Format, good, bad, State, at, stopped, run}

module _ {Place Rec Fault : Type 0} where
  -- whole records, each good, lead from a place to another
  pub data Reads (F : Format Place Rec Fault) : Place → List ℕ → List Rec → Place → Type 0 where
    none : {p : Place} → Reads F p [] [] p
    more : {p q z : Place} {r : Rec} {xs bs : List ℕ} {rs : List Rec} → 0 < F.due p → length xs ≡ F.due p → F.judge p xs ≡ good q r → Reads F q bs rs z → Reads F p (xs ++ bs) (r ∷ rs) z

  -- what the bytes behind them make of the state
  pub data Ending (F : Format Place Rec Fault) (q : Place) (rest : List ℕ) : State Place Fault → Type 0 where
    -- the input ends inside or before the record due
    early : length rest < F.due q → Ending F q rest (at q rest)
    -- nothing is due, and nothing follows
    done : F.due q ≡ 0 → rest ≡ [] → Ending F q rest (at q [])
    -- nothing is due, and a byte follows
    over : (b : ℕ) (bs : List ℕ) → F.due q ≡ 0 → rest ≡ b ∷ bs → Ending F q rest (stopped (F.late q))
    -- the record due is all there, and faulty
    faulty : (f : Fault) → 0 < F.due q → F.due q ≤ length rest → F.judge q (take (F.due q) rest) ≡ bad f → Ending F q rest (stopped f)

  pub record Fate (F : Format Place Rec Fault) (p : Place) (bs : List ℕ) : Type 0 where
    pub before : List ℕ
    pub rest : List ℕ
    pub place : Place
    pub split : bs ≡ before ++ rest
    pub reads : Reads F p before (run F (at p []) bs).recs place
    pub ending : Ending F place rest (run F (at p []) bs).state
