-- `put_part` meets its contract: at the end nothing of the part is still to be stored. Assumes nothing.
use Rattle.std.proofs.Common.{◌≡◌, ◌+◌, ◌≤◌, length, arith, drop_of_length-le}
use native.Mathlib.Numerals.{add-one}
use lib.Seq.{drop-cons}
use Rattle.words.specs.Le.{puts}
use Rattle.words.proofs.part.put_part.Goals as goal

pub loop-i-preserved : goal.loop-i-preserved
unfolding puts
loop-i-preserved c =
    let l = c.loop-i in
    let e : c.args.at + (l.i + 1) ≡ c.args.at + l.i + 1 = omega arith in
    rw (e, add-one l.i) (rw (drop-cons c.args.part.now l.i 0 c.loop-i-test.true) at l.invariant)

pub returns : goal.returns
unfolding puts
returns c =
    let l = c.loop-i in
    let k : length c.args.part.now ≤ l.i = omega (arith, l.auto.i-end, c.loop-i-test.false) in
    rw (drop_of_length-le c.args.part.now k) at l.invariant
