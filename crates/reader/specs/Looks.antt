-- HOW A READ GOES ABOUT IT: a look at the record due foretells the next call.
use Rattle.std.specs.Prelude.{◌≡◌, ◌⊎◌, true, List, ℕ, ◌≤◌, eqb, length, replicate, Option, Some, None, Result, Ok, Err}
use Rattle.words.specs.Checks.{pick}
use Rattle.words.specs.declared.Refusal.{Refusal}
use Rattle.rules.specs.declared.Record.{Record}
use Rattle.rules.specs.Rules.{size_of}
use Rattle.reader.specs.Stream.{passed_by, failed_by, lacking, halt_by, step_of}
use Rattle.reader.specs.declared.Reader.{Reader}
use Rattle.reader.specs.declared.Ended.{Ended}
use Rattle.reader.specs.declared.Ended.TheVariants.{PieceUsed}
use Rattle.reader.specs.declared.reading.Whole.{Whole}

-- the next call hands out the record that was seen; or it finds no whole one, or refuses one with this number
abbrev pub Foretells : Reader → List ℕ → Result (Option Whole) ℕ → Type 0
Foretells r rest (Ok (Some x)) = (x.lacks ≤ length rest) × (step_of r rest ≡ passed_by r.stand x.words x.lacks)
Foretells r rest (Ok None) = halt_by (size_of r.stand.place) (lacking r.stand) (length rest) ≡ true
Foretells r rest (Err number) = step_of r rest ≡ failed_by r.stand number (lacking r.stand)

-- another carry makes no difference, if nothing of it is looked at
abbrev pub SameFor : ℕ → List ℕ → List ℕ → Type 0
SameFor have carry other = (have ≡ 0) ⊎ (carry ≡ other)

-- the carry, once so many records filled a row: all of it is zero after the first
abbrev pub carry_after : ℕ → List ℕ → List ℕ
carry_after count carry = pick (eqb count 0) carry (replicate 200 0)

-- why no more is read, after a call that handed out no record
abbrev pub ended_with : Result (Option Record) Refusal → Result Ended Refusal
ended_with (Ok found) = Ok PieceUsed
ended_with (Err refusal) = Err refusal
