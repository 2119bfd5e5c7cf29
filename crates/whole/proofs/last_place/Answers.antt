-- `last_place` meets its contract: reading from the loop's place ends where reading the whole ends. The measure is what is left of the buffer. Assumes nothing.
use Rattle.std.proofs.Common.{arith}
use Rattle.whole.proofs.Turns.{is_tag, is_none, turn_over, turn_on, loop_start, last_refused}
use Rattle.whole.proofs.last_place.Goals as goal

pub returns-in_default : goal.returns-in_default
returns-in_default c = rw (c.refuse.ensures, last_refused _ _ (is_none c.args.tag.now c.try_from.ensures c.in_default.is))

pub loop-next-init : goal.loop-next-init
loop-next-init c =
    let t = is_tag c.args.tag.now c.try_from.ensures c.in-Ok.is in
    rw t.1 (loop_start c.args.tag.now c.args.shard.now t.0)

pub loop-next-smaller : goal.loop-next-smaller
loop-next-smaller c =
    let w = turn_on _ _ (λ k. omega (arith, c.type_inv.shard k)) _ _ c.loop-next.invariant c.turn_at.ensures c.in-Continue.is in
    omega (arith, w.1, w.0.inside)

pub loop-next-preserved : goal.loop-next-preserved
loop-next-preserved c =
    (turn_on _ _ (λ k. omega (arith, c.type_inv.shard k)) _ _ c.loop-next.invariant c.turn_at.ensures c.in-Continue.is).0

pub returns-in-Break : goal.returns-in-Break
returns-in-Break c = turn_over _ _ (λ k. omega (arith, c.type_inv.shard k)) _ _ c.loop-next.invariant c.turn_at.ensures c.in-Break.is
