-- `plan` goes on as its draft says: the rows that are left, behind those so far, fill the table that is to be. Assumes nothing.
use Rattle.std.proofs.Common.{◌≡◌, ◌+◌, length}
use Rattle.plan.specs.Plan.{plan_of, table_to}
use Rattle.plan.specs.Walk.{rows_left}
use Rattle.plan.proofs.Table.{filling}
use Rattle.plan.proofs.plan.Given as goal

abbrev pub invariant-loop-i : goal.invariant-loop-i
invariant-loop-i l = record {
  sum : l.i-iterator.count + length (rows_left l.i-iterator.iter) ≡ l.draft.count;
  len : length l.table ≡ length l.initial.table;
  fin : filling l.i-iterator.count (rows_left l.i-iterator.iter) (length (rows_left l.i-iterator.iter)) l.table ≡ table_to (plan_of l.tag l.shard l.fn.file.0 l.a l.b (length l.initial.table)) l.initial.table;
}
