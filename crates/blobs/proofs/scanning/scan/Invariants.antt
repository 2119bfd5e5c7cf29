-- The invariant: the scan has come so far, having counted so much (`SoFar`); from there on it answers what it answers from the start.
use lib.ListN.{length}
use Rattle.blobs.proofs.Counting.{SoFar}
use Rattle.blobs.proofs.scanning.scan.Given as goal

abbrev pub invariant-loop-rest : goal.invariant-loop-rest
invariant-loop-rest l = SoFar l.buf l.rest l.tally

abbrev pub decreases-loop-rest : goal.decreases-loop-rest
decreases-loop-rest l = length l.rest
