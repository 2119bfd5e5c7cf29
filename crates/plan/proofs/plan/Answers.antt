-- `plan` goes on as its draft says, because the row that comes is the first of those that were left (proofs/Table). Assumes nothing.
use mathlib.Core.Path.{ap, ◌∙◌}
use Prim.Native.Nat.{◌<◌}
use native.Mathlib.Omega.{arith}
use lib.ListN.{length}
use Rattle.std.proofs.Common.{rules}
use Rattle.plan.proofs.Table.{filling_goes}
use Rattle.plan.proofs.plan.Goals as goal

pub loop-i-preserved : goal.loop-i-preserved
loop-i-preserved c =
    let (gives, at, next, fits) = c.in-Some.ensures.steps in
    let one = ap length gives.0 in
    let here : c.loop-i.i-iterator.count < length c.loop-i.table = omega (arith, c.in_ok-draft.ensures.2) in
    record {
      sum = omega arith;
      len = search rules;
      fin = filling_goes _ _ _ _ _ _ _ gives.0 at next here ∙ c.loop-i.invariant.fin;
    }
