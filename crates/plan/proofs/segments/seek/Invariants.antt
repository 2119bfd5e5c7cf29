-- `seek` meets its contract: at each turn what is still to come has the file that is sought (proofs/Seeking). Assumes nothing.
use Prim.Native.Nat.{◌-◌}
use Rattle.plan.proofs.Seeking.{HeadsLeft}
use Rattle.plan.proofs.segments.seek.Given as goal

abbrev pub invariant-loop : goal.invariant-loop
invariant-loop l = HeadsLeft l.tag l.shard l.fn.file.0 l.at (l.end - l.counter)
