-- `read` meets its contract: each turn is a call, and the carry is left as the last one leaves it. Assumes nothing.
use mathlib.Core.Path.{◌≡◌}
use Rattle.reader.specs.Stream.{lent}
use Rattle.reader.specs.Rows.{read_for}
use Rattle.reader.proofs.Looks.{Loop}
use Rattle.reader.proofs.Stand.read.Given as goal

abbrev pub invariant-loop-count : goal.invariant-loop-count
invariant-loop-count l = (l.carry ≡ l.initial.carry) × Loop l.initial.carry l.piece (read_for (lent l.initial.self l.initial.carry) l.piece l.initial.table) l.self l.table l.taken l.count l.rows
