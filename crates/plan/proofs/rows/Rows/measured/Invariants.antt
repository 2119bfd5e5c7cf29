-- `measured` counts the rows that were left and are not any more; what lies past the last segment stays the same. Assumes nothing.
use Rattle.std.proofs.Common.{◌≡◌, ◌+◌, length}
use Rattle.plan.specs.Walk.{rows_left, past_of}
use Rattle.plan.proofs.rows.Rows.measured.Given as goal

abbrev pub invariant-loop-rows : goal.invariant-loop-rows
invariant-loop-rows l = record {
  counted : l.rows + length (rows_left l.self) ≡ length (rows_left l.fn.self);
  past : past_of l.self ≡ past_of l.fn.self;
}
