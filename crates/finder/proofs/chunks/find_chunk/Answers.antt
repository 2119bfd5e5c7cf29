-- `find_chunk` meets its contract: at each turn what is still to come gives the answer for the whole (proofs/ChunkWalk). Assumes nothing.
use mathlib.Core.Path.{sym, ◌∙◌}
use Rattle.finder.proofs.ChunkWalk.{none_left, hit}
use Rattle.finder.proofs.chunks.find_chunk.Goals as goal

pub returns-then-is_ones : goal.returns-then-is_ones
returns-then-is_ones c =
    none_left _ _ _ _ _ c.loop-hash.invariant _ c.read-head.ensures (sym c.is_ones.ensures ∙ c.if-is_ones.true)

pub returns-then-same_hash : goal.returns-then-same_hash
returns-then-same_hash c =
    hit _ _ _ _ _ _ _ _ c.loop-index-test.true c.loop-index.invariant.1 c.read.ensures (sym c.same_hash.ensures ∙ c.if-same_hash.true)
