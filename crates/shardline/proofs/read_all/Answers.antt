-- Each turn feeds what the input lost, and the loop ends at the end, or where a read fails.
use Rattle.std.proofs.Common.{arith, rules}
use Rattle.shardline.proofs.Ended.{got_none, got_on, got_all, got_failed, got_over}
use Rattle.shardline.proofs.read_all.Goals as goal

pub loop-init : goal.loop-init
loop-init g c = (search rules, got_none _ _)

pub returns-in-Ok-eq0 : goal.returns-in-Ok-eq0
returns-in-Ok-eq0 g c =
    let read = c.in-Ok-eq0.ensures.bytes in
    let k = c.in-Ok-eq0.field-0-test in
    got_all (g.R.Read.remaining c.read.new.self) _ _ c.loop.invariant.1 k read.0 (read.1 k (omega (arith, c.read.auto.buf, c.loop.invariant.0)))

pub returns-in-Err : goal.returns-in-Err
returns-in-Err g c =
    got_failed
    (record {
      after = c.loop.length;
      error = c.in-Err.error;
    })
    c.loop.invariant.1

pub loop-preserved : goal.loop-preserved
loop-preserved g c =
    let read = c.in-Ok.ensures in
    (omega (arith, c.read.auto.buf, c.loop.invariant.0), got_on _ c.in-Ok.n c.loop.invariant.1 c.fed-reader.ensures.bytes read.bytes.0 read.bound.1 c.in-Ok.n-test.1 c.fed-reader.ensures.all)

pub returns : goal.returns
returns g c = got_over c.loop.invariant.1 (omega (arith, c.loop-test.false))
