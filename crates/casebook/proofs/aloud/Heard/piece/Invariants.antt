-- What is left of the bytes gets less.
use Rattle.std.proofs.Common.{length}
use Rattle.casebook.proofs.aloud.Heard.piece.Given as goal

abbrev pub decreases-loop-left : goal.decreases-loop-left
decreases-loop-left g l = length l.rest
