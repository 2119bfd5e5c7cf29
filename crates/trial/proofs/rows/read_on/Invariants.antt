-- What is left of the bytes gets less.
use Rattle.std.proofs.Common.{length}
use Rattle.trial.proofs.rows.read_on.Given as goal

abbrev pub decreases-loop-left : goal.decreases-loop-left
decreases-loop-left l = length l.rest
