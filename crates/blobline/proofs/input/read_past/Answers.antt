-- What was lost before, and what the last read took.
use Rattle.std.proofs.Common.{arith, rules, length-append, length-drop, length-take}
use Rattle.blobline.proofs.Ended.{passed_on}
use Rattle.blobline.proofs.input.read_past.Goals as goal

pub loop-left-preserved : goal.loop-left-preserved
loop-left-preserved g c =
    let lost = passed_on _ _ _ c.args.n c.loop-left.left c.in_ok-size.size _ c.loop-left.invariant.2 c.in_ok-size.ensures.bytes (search rules) (search rules) in
    (search rules, rw (length-append, length-drop, c.read_full.auto.buf, length-take) (omega (arith, c.loop-left.invariant.1)), lost)
