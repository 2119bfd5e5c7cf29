-- What is left is no more than was asked for, and it gets less; the rest is what the input lost.
use Rattle.std.proofs.Common.{◌≡◌, ℕ, ◌+◌, ◌≤◌, List, length}
use Rattle.std.specs.Io.KnownBytes.{Consumes}
use Rattle.blobline.proofs.input.read_past.Given as goal

abbrev pub invariant-loop-left : goal.invariant-loop-left
invariant-loop-left g l =
    (l.left ≤ l.n)
    × (length l.space ≡ 65536)
    × ((bs : List ℕ) × Consumes (g.R.Read.remaining l.initial.input) (g.R.Read.remaining l.input) bs × (length bs + l.left ≡ l.n))

abbrev pub decreases-loop-left : goal.decreases-loop-left
decreases-loop-left g l = l.left
