-- `seek` meets its contract: at each turn what is still to come has the file that is sought (proofs/Seeking). Assumes nothing.
use mathlib.Core.Path.{refl, sym}
use native.Mathlib.Omega.{arith}
use Rattle.std.proofs.Common.{◌≡◌, rules, Err}
use Rattle.plan.proofs.Seeking.{heads_room, no_head, segments_room, head_hit, next_head, seek_refused, seek_begins}
use Rattle.plan.proofs.segments.seek.Goals as goal

pub returns-in_err-verdict : goal.returns-in_err-verdict
returns-in_err-verdict c =
    let e : c.from_residual.result ≡ Err c.in_err-verdict.field-0.0 = search rules in
    seek_refused _ _ _ _ c.last_place.ensures c.verdict.ensures _ c.in_err-verdict.was _ _ e

pub loop-init : goal.loop-init
loop-init c = seek_begins _ _ _ _ c.last_place.ensures c.verdict.ensures _ (λ i. omega (arith, c.type_inv.tag i)) (λ i. omega (arith, c.type_inv.shard i)) _ c.in_ok-verdict.was

pub read-head-requires : goal.read-head-requires
read-head-requires c = heads_room _ _ _ _ _ c.loop.invariant

pub returns-then-is_ones : goal.returns-then-is_ones
returns-then-is_ones c = no_head _ _ _ _ _ c.loop.invariant _ c.read-head.ensures (sym c.if-is_ones.ensures)

pub overflow_add-at-in-loop : goal.overflow_add-at-in-loop
overflow_add-at-in-loop c = omega (arith, heads_room _ _ _ _ _ c.loop.invariant, c.loop.invariant.short, c.further_records.ensures.1)

pub loop-preserved : goal.loop-preserved
loop-preserved c =
    next_head _ _ _ _ _ c.loop.invariant _ c.read-head.ensures (sym c.if-is_ones.ensures) _ _ (omega arith) c.further_records.ensures.0 (omega arith)

pub read-head-requires-2 : goal.read-head-requires-2
read-head-requires-2 c = heads_room _ _ _ _ _ c.loop.invariant

pub returns-then-is_ones-2 : goal.returns-then-is_ones-2
returns-then-is_ones-2 c = no_head _ _ _ _ _ c.loop.invariant _ c.read-head-2.ensures (sym c.if-is_ones-2.ensures)

pub overflow_add-start : goal.overflow_add-start
overflow_add-start c = omega (arith, heads_room _ _ _ _ _ c.loop.invariant, c.loop.invariant.short)

pub overflow_add-end : goal.overflow_add-end
overflow_add-end c = omega (arith, segments_room _ _ _ _ _ c.loop.invariant _ c.read-head-2.ensures (sym c.if-is_ones-2.ensures), c.loop.invariant.short)

pub slice_bounds-result-end : goal.slice_bounds-result-end
slice_bounds-result-end c = let room = segments_room _ _ _ _ _ c.loop.invariant _ c.read-head-2.ensures (sym c.if-is_ones-2.ensures) in search rules

pub returns : goal.returns
returns c = head_hit _ _ _ _ _ c.loop.invariant _ c.read-head-2.ensures (sym c.if-is_ones-2.ensures) (omega arith) _ refl
