-- `compare` meets its contract: at each turn the blocks still to come give the answer (proofs/Comparing). Assumes nothing.
use Prim.Native.Nat.{◌-◌}
use lib.ListN.{length}
use Rattle.audit.proofs.Comparing.{BlocksLeft}
use Rattle.audit.proofs.blocks.compare.Given as goal

abbrev pub invariant-loop-segment : goal.invariant-loop-segment
invariant-loop-segment l = BlocksLeft l.shard l.xorbs l.at l.segment

abbrev pub decreases-loop-segment : goal.decreases-loop-segment
decreases-loop-segment l = length l.shard - l.at
