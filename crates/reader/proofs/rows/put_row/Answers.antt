-- `put_row` meets its contract: what is still stored, behind what has been, is all of the row. Assumes nothing.
use mathlib.Core.Path.{◌≡◌}
use Prim.Native.Nat.{◌+◌, ◌*◌, ◌<◌}
use native.Mathlib.Nat.{add-zero}
use native.Mathlib.Numerals.{add-one}
use native.Mathlib.Omega.{arith}
use lib.ListN.{length}
use lib.Seq.{drop-cons}
use Rattle.words.specs.Le.{puts}
use Rattle.reader.proofs.rows.put_row.Goals as goal

pub loop-i-init : goal.loop-i-init
loop-i-init c = rw add-zero

pub loop-i-preserved : goal.loop-i-preserved
unfolding puts
loop-i-preserved c =
    let l = c.loop-i in
    let k : l.i < length c.row_of-row.result = rw c.row_of-row.ensures c.loop-i-test.true in
    let e : 9 * c.args.count + (l.i + 1) ≡ 9 * c.args.count + l.i + 1 = omega arith in
    rw (e, add-one l.i) (rw (drop-cons c.row_of-row.result l.i 0 k) at l.invariant)

pub returns : goal.returns
unfolding puts
returns c =
    let l = c.loop-i in
    let e : l.i ≡ 9 = omega (arith, l.auto.i-end, c.loop-i-test.false) in
    rw (e, c.row_of-row.ensures) at l.invariant
