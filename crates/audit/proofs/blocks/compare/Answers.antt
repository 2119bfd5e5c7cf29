-- `compare` meets its contract: at each turn the blocks still to come give the answer (proofs/Comparing). Assumes nothing.
use mathlib.Core.Path.{refl, sym, ◌∙◌}
use native.Mathlib.Omega.{arith}
use Rattle.std.proofs.Common.{rules}
use Rattle.audit.proofs.Comparing.{left_begins, left_room, not_listed, chunks_room, decided, next_block}
use Rattle.audit.proofs.blocks.compare.Goals as goal

pub loop-segment-init : goal.loop-segment-init
loop-segment-init c = left_begins _ _ _ c.requires.blocks c.requires.there

pub read-head-requires : goal.read-head-requires
read-head-requires c = left_room _ _ _ _ c.loop-segment.invariant

pub returns-then-is_ones : goal.returns-then-is_ones
returns-then-is_ones c = not_listed _ _ _ _ c.loop-segment.invariant _ c.read-head.ensures (sym c.if-is_ones.ensures)

pub overflow_add-start : goal.overflow_add-start
overflow_add-start c = omega (arith, left_room _ _ _ _ c.loop-segment.invariant, c.requires.short)

pub overflow_add-end : goal.overflow_add-end
overflow_add-end c = omega (arith, chunks_room _ _ _ _ c.loop-segment.invariant _ c.read-head.ensures (sym c.if-is_ones.ensures), c.requires.short)

pub slice_bounds-chunks-end : goal.slice_bounds-chunks-end
slice_bounds-chunks-end c = let room = chunks_room _ _ _ _ c.loop-segment.invariant _ c.read-head.ensures (sym c.if-is_ones.ensures) in search rules

pub returns-then-same_hash : goal.returns-then-same_hash
returns-then-same_hash c = λ ys s.
    search rules
    ∙ decided _ _ _ _ c.loop-segment.invariant _ c.read-head.ensures (sym c.if-is_ones.ensures) (sym c.if-same_hash.ensures) c.requires.start_end _ refl _ c.is_true.ensures ys s

pub loop-segment-smaller : goal.loop-segment-smaller
loop-segment-smaller c = omega (arith, left_room _ _ _ _ c.loop-segment.invariant)

pub loop-segment-preserved : goal.loop-segment-preserved
loop-segment-preserved c = next_block _ _ _ _ c.loop-segment.invariant _ c.read-head.ensures (sym c.if-is_ones.ensures) (sym c.if-same_hash.ensures)
