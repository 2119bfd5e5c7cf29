-- `read` meets its contract: each turn is a call, and the carry is left as the last one leaves it. Assumes nothing.
use mathlib.Core.Path.{refl}
use native.Mathlib.Omega.{arith}
use lib.ListN.{length-drop}
use Rattle.reader.specs.Stream.{lent}
use Rattle.reader.proofs.Looks.{rest_all, within, begins, looked, full, over_halted, over_failed, on}
use Rattle.reader.proofs.Stand.read.Goals as goal

pub loop-count-init : goal.loop-count-init
loop-count-init c =
    (refl, begins c.args.self c.args.carry.now c.args.piece.now c.args.table.now)

pub halt-requires : goal.halt-requires
halt-requires c =
    let l = c.loop-count in
    let f = rw (c.in-Ok-None.is, c.in-Ok-None.field-0-is) at (looked l.invariant.1 l.invariant.0 c.look.result c.look.ensures) in
    rw (rest_all c.args.piece.now l.taken) f

pub ended-requires : goal.ended-requires
ended-requires c =
    let l = c.loop-count in
    rw (c.halt.ensures.0, rest_all c.args.piece.now l.taken) (omega (arith, within (lent l.self c.clear.new.carry) c.args.piece.now l.taken l.invariant.1.inside, c.well_formed))

pub returns-in-Ok-None : goal.returns-in-Ok-None
returns-in-Ok-None c =
    let l = c.loop-count in
    let f = rw (c.in-Ok-None.is, c.in-Ok-None.field-0-is) at (looked l.invariant.1 l.invariant.0 c.look.result c.look.ensures) in
    let h = rw (c.clear.ensures, l.invariant.0, rest_all c.args.piece.now l.taken) at c.halt.ensures in
    rw (over_halted l.invariant.1 c.loop-count-test.true f) (rw (c.ended.ensures, h.0), h.1, refl)

pub returns-in-Err : goal.returns-in-Err
returns-in-Err c =
    let l = c.loop-count in
    let f = rw c.in-Err.is at (looked l.invariant.1 l.invariant.0 c.look.result c.look.ensures) in
    rw (over_failed l.invariant.1 c.loop-count-test.true c.in-Err.number f) (rw (c.ended-in-Err.ensures, c.failed.ensures, c.lacks.ensures), refl, refl)

pub overflow_add-taken : goal.overflow_add-taken
overflow_add-taken c =
    let l = c.loop-count in
    let f = rw (c.in-Ok-Some.is, c.in-Ok-Some.field-0-is) at (looked l.invariant.1 l.invariant.0 c.look.result c.look.ensures) in
    omega (arith, l.invariant.1.inside, rw length-drop at f.0, c.well_formed)

pub loop-count-preserved : goal.loop-count-preserved
loop-count-preserved c =
    let l = c.loop-count in
    let f = rw (c.in-Ok-Some.is, c.in-Ok-Some.field-0-is) at (looked l.invariant.1 l.invariant.0 c.look.result c.look.ensures) in
    (l.invariant.0, on l.invariant.1 c.loop-count-test.true c.in-Ok-Some.whole f c.next-self.ensures (rw c.record.ensures at c.put_row.ensures))

pub returns : goal.returns
returns c =
    let l = c.loop-count in
    rw (full l.invariant.1 (omega (arith, c.loop-count-test.false, l.auto.count-end))) (rw c.table_full.ensures, rw l.invariant.0 at c.clear-2.ensures, refl)
