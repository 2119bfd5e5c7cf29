-- WHAT BYTES MEAN: the records found in them and the verdict, by the rules, byte after byte.
use Rattle.std.specs.Prelude.{ℕ, zero, suc, List, [], eqb, length, Ok, Err}
use Rattle.words.specs.Checks.{pick}
use Rattle.words.specs.Record.{tag_at}
use Rattle.cut.specs.Format.{Format, Judged, good, bad, State, at, stopped, Run, run}
use Rattle.rules.specs.Rules.{size_of, words_in, fault_in, record_of, next_of, start, count_by, plus}
use Rattle.rules.specs.Verdicts.{refused, verdict_at}
use Rattle.rules.specs.declared.Totals.{Totals}
use Rattle.rules.specs.declared.Place.{Place}
use Rattle.rules.specs.declared.Record.{Record}
use Rattle.words.specs.declared.Refusal.{Refusal}
use Rattle.words.specs.declared.Tag.{Tag}
use Rattle.rules.specs.declared.Summary.{Summary}
use Rattle.rules.specs.Verdicts.{Verdict}

-- ## One record

-- a good record is handed out and reading goes on behind it; the first faulty record decides
abbrev pub settled : ℕ → Place → Record → Place → Judged Place Record Place
settled zero p r q = good q r
settled (suc n) p r q = bad (refused (suc n) p)

-- the bytes of the record due
abbrev pub judged : Tag → Place → List ℕ → Judged Place Record Place
judged four p bytes = settled (fault_in four p bytes) p (record_of p (words_in p bytes)) (next_of p (words_in p bytes))

-- ## Any bytes

-- the format, for a tag as four numbers: a record is judged once all its bytes are there, and a byte after the end is refused with 14
abbrev pub format : Tag → Format Place Record Place
format four = record { due = size_of; late = refused 14; judge = judged four }

-- a tag that is not 32 bytes is refused with 2, before all others
abbrev pub begin : List ℕ → State Place Place
begin tag = pick (eqb (length tag) 32) (at start []) (stopped (refused 2 start))

unfoldable pub scan : List ℕ → List ℕ → Run Place Record Place
scan tag bytes = run (format (tag_at tag)) (begin tag) bytes

-- done after the end; the refusal, if there was one; else 1 at the record due
abbrev pub verdict_of : State Place Place → Verdict
verdict_of (at p held) = verdict_at p
verdict_of (stopped p) = verdict_at p

-- what is found in bytes: the complete records before the first fault, and the verdict
pub record Found : Type 0 where
  pub records : List Record
  pub verdict : Verdict

abbrev pub found_of : Run Place Record Place → Found
found_of r = record { records = r.recs; verdict = verdict_of r.state }

unfoldable pub found_in : List ℕ → List ℕ → Found
found_in tag bytes = found_of (scan tag bytes)

-- ## By the verdict

abbrev pub IsAccepted : Verdict → Type 0
IsAccepted (Ok summary) = Unit {0}
IsAccepted (Err refusal) = ⊥

-- a refused shard gives its refusal; what else is answered may depend on what is said of an accepted one
abbrev pub if_accepted : {A : Type 0} → (Refusal → A) → Verdict → (Summary → A) → A
if_accepted refused (Ok summary) answer = answer summary
if_accepted refused (Err refusal) answer = refused refusal

-- ## Totals

-- totals with one more record
abbrev pub with_record : Totals → Record → Totals
with_record t r = plus t (count_by r.kind r.words)
