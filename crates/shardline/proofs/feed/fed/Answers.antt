-- A call that takes nothing has refused, and one that takes something leaves the rest to be fed.
use Rattle.std.proofs.Common.{arith, rules, length-drop}
use Rattle.std.proofs.lemmas.List.{take_rest}
use Rattle.shardline.proofs.Feeding.{so_done, within, so_refused, so_on}
use Rattle.shardline.proofs.feed.fed.Goals as goal

pub returns-then-step-eq0-clause-all : goal.returns-then-step-eq0-clause-all
returns-then-step-eq0-clause-all c =
    so_refused _ _ _ _ c.loop-rest.invariant _ c.step-step.ensures (search rules) (omega (arith, c.if-step-eq0.true))

pub slice_bounds-rest-count : goal.slice_bounds-rest-count
slice_bounds-rest-count c = within _ _ _ _ c.loop-rest.invariant _ c.step-step.ensures

pub slice_bounds-rest-start : goal.slice_bounds-rest-start
slice_bounds-rest-start c = within _ _ _ _ c.loop-rest.invariant _ c.step-step.ensures

pub loop-rest-smaller : goal.loop-rest-smaller
loop-rest-smaller c =
    let k = within _ _ _ _ c.loop-rest.invariant _ c.step-step.ensures in
    simp (take_rest, length-drop) (grind (arith, k, c.if-step-eq0.false))

pub loop-rest-preserved : goal.loop-rest-preserved
loop-rest-preserved c =
    so_on _ _ _ _ c.loop-rest.invariant _ c.step-step.ensures (λ e. omega (arith, c.if-step-eq0.false, e))

pub returns-clause-all : goal.returns-clause-all
returns-clause-all c = so_done _ _ _ _ c.loop-rest.invariant (search rules)
