-- `next` passes over segments that have no row, so the rows that are left stay the same, and what lies past the last segment. Assumes nothing.
use Rattle.std.proofs.Common.{◌≡◌, length}
use Rattle.plan.specs.Walk.{words_left, rows_left, past_of}
use Rattle.plan.proofs.rows.RowsIterator.next.Given as goal

abbrev pub invariant-loop-self : goal.invariant-loop-self
invariant-loop-self l = (rows_left l.initial.self ≡ rows_left l.self) × (past_of l.self ≡ past_of l.initial.self)

abbrev pub decreases-loop-self : goal.decreases-loop-self
decreases-loop-self l = length (words_left l.self.segments)
