-- After each turn, feeding what is left of the piece to the reader so far gives what feeding all of it to the first reader gives.
use Rattle.std.proofs.Common.{length}
use Rattle.shardline.proofs.Feeding.{SoFar}
use Rattle.shardline.proofs.feed.fed.Given as goal

abbrev pub invariant-loop-rest : goal.invariant-loop-rest
invariant-loop-rest l = SoFar l.fn.reader l.piece l.reader l.rest

abbrev pub decreases-loop-rest : goal.decreases-loop-rest
decreases-loop-rest l = length l.rest
