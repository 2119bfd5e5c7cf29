-- So far all bytes were 0, or not all of those before this one are. Assumes nothing.
use Rattle.std.proofs.Common.{◌≡◌, take, eqb}
use Rattle.std.specs.List.{list_all}
use Rattle.words.proofs.number.zeros_at.Given as goal

abbrev pub invariant-loop-byte : goal.invariant-loop-byte
invariant-loop-byte l = l.zeros ≡ list_all (λ b. eqb b 0) (take l.byte-index l.byte-items)
