-- `zeros_at` meets its contract: at the end all bytes of the part were looked at. Assumes nothing.
use Rattle.std.proofs.Common.{◌≡◌, ◌+◌, ◌-◌, arith}
use Rattle.std.proofs.lemmas.List.{take_all}
use Rattle.words.proofs.Zeros.{zeros_all}
use Rattle.words.proofs.number.zeros_at.Goals as goal

pub returns : goal.returns
returns c =
    let a = c.args in
    let e : a.at + a.n - a.at ≡ a.n = omega arith in
    rw (c.loop-byte.invariant, take_all _ _ c.loop-byte-test.false, e) (zeros_all a.n a.s.now a.at c.requires)
