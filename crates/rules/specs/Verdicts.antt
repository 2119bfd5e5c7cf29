-- What is said at a place: the refusal if there was one, done after the end, else 1 at the record due.
use Rattle.std.specs.Prelude.{ℕ, Result, Ok, Err}
use Rattle.rules.specs.Rules.{moved_to}
use Rattle.rules.specs.declared.Place.{Place}
use Rattle.words.specs.declared.Refusal.{Refusal}
use Rattle.rules.specs.declared.Summary.{Summary}
use Rattle.rules.specs.declared.Due.{Due}
use Rattle.rules.specs.declared.Due.TheVariants.{Header, FileHead, Segment, Verification, Metadata, XorbHead, Chunk, Footer, End, Refused}

-- the place where reading stopped, with the number of the refusal
abbrev pub refused : ℕ → Place → Place
refused number p = moved_to p.at.0 p.totals (Refused number) p

-- a refusal at the record due
abbrev pub refusal_at : ℕ → Place → Refusal
refusal_at number p = record { at = p.at; number = number }

abbrev pub summary_of : Place → Summary
summary_of p = record { length = p.at.0; totals = p.totals; footer = p.footer }

-- an accepted shard, or why and where it is refused
abbrev pub Verdict : Type 0
Verdict = Result Summary Refusal

abbrev pub verdict_by : Due → Place → Verdict
verdict_by Header p = Err (refusal_at 1 p)
verdict_by FileHead p = Err (refusal_at 1 p)
verdict_by (Segment left) p = Err (refusal_at 1 p)
verdict_by (Verification left) p = Err (refusal_at 1 p)
verdict_by Metadata p = Err (refusal_at 1 p)
verdict_by XorbHead p = Err (refusal_at 1 p)
verdict_by (Chunk left sum total) p = Err (refusal_at 1 p)
verdict_by Footer p = Err (refusal_at 1 p)
verdict_by End p = Ok (summary_of p)
verdict_by (Refused number) p = Err (refusal_at number p)

unfoldable pub verdict_at : Place → Verdict
verdict_at p = verdict_by p.due p
