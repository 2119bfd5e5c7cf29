-- The turns of a read: each is one call of `reads_on`, because it judges the bytes that the carry has and those behind them, and nothing is carried after a
-- record; and the bytes taken and the rows filled stay within what is there. Assumes nothing.
use Rattle.std.specs.Prelude.{Option, Some, None, Result, Ok, Err}
use mathlib.Core.Path.{◌≡◌, refl, sym, ap, ◌∙◌}
use mathlib.Core.Logic.{◌⊎◌, inl, inr}
use mathlib.Core.Bool.{true, false}
use mathlib.Core.List.{List, []}
use Prim.Native.Nat.{ℕ, zero, suc, ◌+◌, ◌-◌, ◌*◌, ◌/◌, ◌≤◌, ◌<◌}
use native.Mathlib.Nat.{not-suc-le-zero, sub-zero}
use native.Mathlib.Numerals.{sub-one}
use native.Mathlib.Omega.{arith}
use lib.ListN.{length, take, drop, length-drop, replicate}
use lib.Seq.{paste, take_all}
use borrow.Author.Tests.{ne_eqb}
use Rattle.words.specs.Le.{puts}
use Rattle.words.specs.declared.Words.{Words}
use Rattle.words.specs.declared.Refusal.{Refusal}
use Rattle.rules.specs.Rules.{size_of, next_of, record_of}
use Rattle.rules.specs.Held.{held}
use Rattle.rules.specs.Verdicts.{refusal_at}
use Rattle.rules.specs.declared.Place.{Place}
use Rattle.rules.specs.declared.Record.{Record}
use Rattle.carry.proofs.Carry.{paste_part, words_any, fault_any}
use Rattle.reader.specs.declared.Call.{Call}
use Rattle.reader.specs.Stream.{passed_by, failed_by, settled, said_at, lacking, heard_in, lent, call_of, halt_by, step_of}
use Rattle.reader.specs.Rows.{row_in, goes_on, answered, ended_by, Reading, next_step, reads_on, read_for}
use Rattle.reader.specs.Readings.{record_by, handed_out}
use Rattle.reader.specs.Looks.{Foretells, SameFor, carry_after, ended_with}
use Rattle.reader.specs.declared.Stand.{Stand}
use Rattle.reader.specs.declared.Reader.{Reader}
use Rattle.reader.specs.declared.Step.{Step}
use Rattle.reader.specs.declared.Ended.{Ended}
use Rattle.reader.specs.declared.Ended.TheVariants.{TableFull}
use Rattle.reader.specs.declared.reading.Whole.{Whole}
use Rattle.reader.proofs.Calls.{no_more, step_settled}

-- a piece from a position on, as it is lent
pub rest_all : (piece : List ℕ) (at : ℕ) → take (length piece - at) (drop at piece) ≡ drop at piece
rest_all piece at = take_all (length piece - at) (drop at piece) (simp length-drop (omega arith))

-- ## The turns of the definition

goes_none : {A : Type 0} (x : Result (Option Record) Refusal) (on : Record → A) (over : Result Ended Refusal → A) → record_by x ≡ [] → goes_on x on over ≡ over (ended_with x)
goes_none x on over e = grind arith

full_by : (left : ℕ) (r : Reader) (piece : List ℕ) (taken count : ℕ) (table : List ℕ) → left ≤ 0
    → reads_on left r piece taken count table ≡ record { answer = answered r taken count (said_at TableFull r.stand.place); table = table }
unfolding reads_on
full_by zero r piece taken count table h = refl
full_by (suc left) r piece taken count table h = absurd (not-suc-le-zero h)

over_by : (left : ℕ) (r : Reader) (piece : List ℕ) (taken count : ℕ) (table : List ℕ) → 0 < left → (s : Step) → next_step r piece taken ≡ s → handed_out s ≡ []
    → reads_on left r piece taken count table ≡ record { answer = ended_by s taken count (ended_with s.answer.found); table = table }
unfolding reads_on
over_by zero r piece taken count table h s e t = absurd (not-suc-le-zero h)
over_by (suc left) r piece taken count table h s e t = rw e (goes_none s.answer.found _ _ t)

on_by : (left : ℕ) (r : Reader) (piece : List ℕ) (taken count : ℕ) (table : List ℕ) → 0 < left → (s : Step) → next_step r piece taken ≡ s → (found : Record) → s.answer.found ≡ Ok (Some found)
    → reads_on left r piece taken count table ≡ reads_on (left - 1) s.reader piece (taken + s.answer.taken) (count + 1) (puts table (9 * count) (row_in found))
unfolding reads_on
on_by zero r piece taken count table h s e found t = absurd (not-suc-le-zero h)
on_by (suc left) r piece taken count table h s e found t = rw (e, t, sub-one)

-- ## A call that finds no whole record hands out none

module _ (r : Reader) (rest : List ℕ) where
  -- nothing is due, or the piece is too short
  abbrev Halts : Type 0
  Halts = (size_of r.stand.place ≡ 0) ⊎ (length rest < lacking r.stand)

  halts : halt_by (size_of r.stand.place) (lacking r.stand) (length rest) ≡ true → Halts
  halts e = grind arith

  halt_silent : halt_by (size_of r.stand.place) (lacking r.stand) (length rest) ≡ true → handed_out (step_of r rest) ≡ []
  unfolding step_of
  halt_silent e = grind arith

-- else all of it is there
whole_there : (size lacks left : ℕ) → halt_by size lacks left ≡ false → (0 < size) × (lacks ≤ left)
whole_there size lacks left e = grind arith

-- ## What a look foretells

-- what is seen of a whole record
abbrev pub seen_in : Result Words ℕ → ℕ → Result (Option Whole) ℕ
seen_in (Ok w) lacks = Ok (Some (record { words = w; lacks = lacks }))
seen_in (Err number) lacks = Err number

module _ (s : Stand) (rest : List ℕ) (h : halt_by (size_of s.place) (lacking s) (length rest) ≡ false) where
  there : (0 < size_of s.place) × (lacking s ≤ length rest)
  there = whole_there (size_of s.place) (lacking s) (length rest) h

  -- where nothing of the carry is looked at, the piece alone is judged
  heard_same : s.have ≡ 0 → (c c' : List ℕ) → heard_in s (paste c s.have rest (lacking s)) ≡ heard_in s (paste c' s.have rest (lacking s))
  heard_same z c c' =
      let q : lacking s ≡ size_of s.place = rw (z, sub-zero) in
      let l : size_of s.place ≤ length rest = rw q at there.1 in
      rw (z, sub-zero, words_any s.place there.0 rest l c c', fault_any s.place there.0 rest l s.tag c c')

  -- what is heard of the part of the piece that is missing
  by_part : (carry : List ℕ) {x : Result Words ℕ} {n : ℕ} → n ≡ lacking s → x ≡ heard_in s (paste carry s.have (take n rest) (length (take n rest)))
      → x ≡ heard_in s (paste carry s.have rest (lacking s))
  by_part carry e w = rw (e, paste_part carry rest s.have (lacking s) there.1) at w

  module _ {carry : List ℕ} {x : Result Words ℕ} {n : ℕ} (e : n ≡ lacking s) (w : x ≡ heard_in s (paste carry s.have (take n rest) (length (take n rest)))) where
    settles : (other : List ℕ) → SameFor s.have carry other → step_of (lent s other) rest ≡ settled s x (lacking s)
    settles other (inl z) = step_settled (lent s other) rest there.0 refl there.1 (by_part carry e w ∙ heard_same z carry other)
    settles other (inr q) = step_settled (lent s other) rest there.0 refl there.1 (by_part carry e w ∙ ap (λ (c : List ℕ). heard_in s (paste c s.have rest (lacking s))) q)

    pub whole_foretells : (other : List ℕ) → SameFor s.have carry other → Foretells (lent s other) rest (seen_in x (lacking s))
    whole_foretells other f =
        let q = settles other f in
        let k = there in
        grind arith

  -- the call that a faulty record gets, behind which the carry is zero
  pub step_failed : (carry : List ℕ) (n number : ℕ) (call : Call) → n ≡ lacking s → Err number ≡ heard_in s (paste carry s.have (take n rest) (length (take n rest)))
      → call ≡ call_of (failed_by s number n) → (call ≡ call_of (step_of (lent s carry) rest)) × (replicate 200 0 ≡ (step_of (lent s carry) rest).reader.carry)
  step_failed carry n number call e w same = rw (settles e w carry (inr refl), same, e) (refl, refl)

-- ## The loop

pub within : (r : Reader) (piece : List ℕ) (taken : ℕ) → taken ≤ length piece → taken + (next_step r piece taken).answer.taken ≤ length piece
within r piece taken l = omega (arith, l, rw length-drop at (no_more r (drop taken piece)))

-- a state of the loop: no byte taken that is not there, nothing carried once a row is filled, and what is still read is what all of it reads
pub record Loop (carry piece : List ℕ) (all : Reading) (s : Stand) (table : List ℕ) (taken count rows : ℕ) : Type 0 where
  pub inside : taken ≤ length piece
  pub front : SameFor s.have carry (carry_after count carry)
  pub rest : reads_on (rows - count) (lent s (carry_after count carry)) piece taken count table ≡ all

pub begins : (s : Stand) (carry piece table : List ℕ) → Loop carry piece (read_for (lent s carry) piece table) s table 0 0 (length table / 9)
unfolding read_for
begins s carry piece table = record { inside = omega arith; front = inr refl; rest = rw sub-zero }

module _ {carry piece : List ℕ} {all : Reading} {s : Stand} {table : List ℕ} {taken count rows : ℕ} (l : Loop carry piece all s table taken count rows) where
  abbrev r : Reader
  r = lent s (carry_after count carry)

  pub full : count ≡ rows → all ≡ record { answer = answered (lent s (carry_after rows carry)) taken rows (said_at TableFull s.place); table = table }
  full k = rw (← k) (sym l.rest ∙ full_by (rows - count) r piece taken count table (omega (arith, k)))

  -- a look at what the next call is offered
  pub looked : {now : List ℕ} → now ≡ carry → (x : Result (Option Whole) ℕ) → ((other : List ℕ) → SameFor s.have now other → Foretells (lent s other) (take (length piece - taken) (drop taken piece)) x)
      → Foretells r (drop taken piece) x
  looked e x f = rw (← rest_all piece taken) (f (carry_after count carry) (rw e l.front))

  -- after a call that hands out no record
  module _ (h : count < rows) where
    over : (s : Step) → next_step r piece taken ≡ s → handed_out s ≡ [] → all ≡ record { answer = ended_by s taken count (ended_with s.answer.found); table = table }
    over s e f = sym l.rest ∙ over_by (rows - count) r piece taken count table (omega arith) s e f

    pub over_halted : Foretells r (drop taken piece) (Ok None) → all ≡ record { answer = ended_by (next_step r piece taken) taken count (ended_with (next_step r piece taken).answer.found); table = table }
    over_halted f = over (next_step r piece taken) refl (halt_silent r (drop taken piece) f)

    pub over_failed : (number : ℕ) → Foretells r (drop taken piece) (Err number)
        → all ≡ record { answer = ended_by (failed_by s number (lacking s)) taken count (Err (refusal_at number s.place)); table = table }
    over_failed number f = over (failed_by s number (lacking s)) f refl

  pub on : count < rows → (x : Whole) → Foretells r (drop taken piece) (Ok (Some x))
      → {next : Place} → next ≡ held (next_of s.place x.words) → {table' : List ℕ} → table' ≡ puts table (9 * count) (row_in (record_of s.place x.words))
      → Loop carry piece all (record { have = 0; tag = s.tag; place = next }) table' (taken + x.lacks) (count + 1) rows
  on h x f {next} n {table'} q = record {
    inside = omega (arith, l.inside, rw length-drop at f.0);
    front = inl refl;
    rest =
        let k : rows - (count + 1) ≡ rows - count - 1 = omega arith in
        rw (q, n, k, ne_eqb (count + 1) 0 (λ e. omega arith)) (sym (on_by (rows - count) r piece taken count table (omega arith) (passed_by s x.words x.lacks) f.1 (record_of s.place x.words) refl) ∙ l.rest);
  }
