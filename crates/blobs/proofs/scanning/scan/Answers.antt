-- `scan` meets its contract: an entry more is counted, or refused. Assumes nothing.
use Rattle.std.proofs.Common.{arith, ◌≡◌, ◌<◌, length}
use Rattle.std.proofs.lemmas.Grind.{common_steps}
use Rattle.blobs.specs.Blobs.{none}
use Rattle.blobs.proofs.Counting.{so_begins, so_ends, so_refused, so_on}
use Rattle.blobs.proofs.scanning.scan.Goals as goal

pub loop-rest-init : goal.loop-rest-init
loop-rest-init c =
    let begins : c.default-tally.result ≡ none = grind (arith, common_steps) in
    rw begins (so_begins _)

pub returns-in_err-length : goal.returns-in_err-length
returns-in_err-length c =
    let some : 0 < length c.loop-rest.rest.now = grind (arith, common_steps) in
    grind (arith, common_steps, so_refused c.loop-rest.invariant some)

pub loop-rest-preserved : goal.loop-rest-preserved
loop-rest-preserved c = so_on c.loop-rest.invariant (grind (arith, common_steps)) (grind (arith, common_steps))

pub returns : goal.returns
returns c = so_ends c.loop-rest.invariant (grind (arith, common_steps))
