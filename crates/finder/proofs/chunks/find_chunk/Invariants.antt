-- `find_chunk` meets its contract: at each turn what is still to come gives the answer for the whole (proofs/ChunkWalk). Assumes nothing.
use Prim.Native.Nat.{◌-◌, ◌≤◌}
use lib.ListN.{length}
use Rattle.finder.specs.Find.{chunk_found}
use Rattle.finder.proofs.ChunkWalk.{BlocksLeft, ChunksLeft}
use Rattle.finder.proofs.chunks.find_chunk.Given as goal

abbrev pub invariant-loop-hash : goal.invariant-loop-hash
invariant-loop-hash l = BlocksLeft l.shard l.hash (chunk_found l.tag l.shard l.hash) l.at l.block

abbrev pub decreases-loop-hash : goal.decreases-loop-hash
decreases-loop-hash l = length l.shard - l.at

abbrev pub invariant-loop-index : goal.invariant-loop-index
invariant-loop-index l = (l.initial.at ≤ l.at) × ChunksLeft l.shard l.hash (chunk_found l.tag l.shard l.hash) l.at l.block l.index (l.index-end - l.index)
