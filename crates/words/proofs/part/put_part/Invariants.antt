-- `put_part` meets its contract: what is still stored, behind what has been, is all of the part. Assumes nothing.
use Rattle.std.proofs.Common.{◌≡◌, ◌+◌, drop}
use Rattle.words.specs.Le.{puts}
use Rattle.words.proofs.part.put_part.Given as goal

abbrev pub invariant-loop-i : goal.invariant-loop-i
invariant-loop-i l = puts l.buf (l.at + l.i) (drop l.i l.part) ≡ puts l.initial.buf l.at l.part
