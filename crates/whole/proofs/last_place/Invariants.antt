-- `last_place` meets its contract: reading from the loop's place ends where reading the whole ends. The measure is what is left of the buffer. Assumes nothing.
use Prim.Native.Nat.{◌-◌}
use lib.ListN.{length}
use Rattle.layout.specs.Reach.{last_place}
use Rattle.whole.proofs.Turns.{Loop}
use Rattle.whole.proofs.last_place.Given as goal

abbrev pub invariant-loop-next : goal.invariant-loop-next
invariant-loop-next l = Loop l.four l.shard (last_place l.tag l.shard) l.place

abbrev pub decreases-loop-next : goal.decreases-loop-next
decreases-loop-next l = length l.shard - l.place.at.0
