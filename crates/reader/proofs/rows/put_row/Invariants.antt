-- `put_row` meets its contract: what is still stored, behind what has been, is all of the row. Assumes nothing.
use mathlib.Core.Path.{◌≡◌}
use Prim.Native.Nat.{◌+◌}
use lib.ListN.{drop}
use Rattle.words.specs.Le.{puts}
use Rattle.reader.proofs.rows.put_row.Given as goal

abbrev pub invariant-loop-i : goal.invariant-loop-i
invariant-loop-i l = puts l.table (l.at + l.i) (drop l.i l.row) ≡ puts l.initial.table l.at l.row
