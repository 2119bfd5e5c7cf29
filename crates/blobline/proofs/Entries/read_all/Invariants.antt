-- So far an entry is due, and each turn had one.
use Rattle.std.proofs.Common.{◌≤◌, List, ℕ}
use Rattle.blobline.specs.Counts.{IsShort, Due}
use Rattle.blobline.proofs.Entries.read_all.Given as goal

abbrev pub invariant-loop : goal.invariant-loop
invariant-loop g l =
    (file : List ℕ) → IsShort file → Due file (g.R.Read.remaining l.initial.input) l.initial.self
    → Due file (g.R.Read.remaining l.input) l.self × (l.counter ≤ l.self.end)
