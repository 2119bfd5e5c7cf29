-- Each turn passes the entry that is due, and the loop ends at the end, or where an entry is refused or a read fails.
use Rattle.std.proofs.Common.{◌≡◌, arith, rules, Err}
use Rattle.blobline.proofs.Ended.{due_on, all_here, stopped}
use Rattle.blobline.proofs.Entries.read_all.Goals as goal

pub returns-in_err-next : goal.returns-in_err-next
returns-in_err-next g c = λ file l d.
    let e : c.from_residual.result ≡ Err c.in_err-next.field-0.0 = search rules in
    rw e (stopped (c.loop.invariant file l d).0 c.in_err-next.field-0.0 (g.R.Read.remaining c.next.new.input) c.in_err-next.ensures)

pub loop-preserved : goal.loop-preserved
loop-preserved g c = λ file l d.
    let k = c.loop.invariant file l d in
    let n = due_on k.0 (g.R.Read.remaining c.next.new.input) l c.in-Some.is c.in_ok-next.ensures c.add.ensures.end c.add.ensures.tally in
    (n.0, omega (arith, k.1, n.1))

pub returns-in-None : goal.returns-in-None
returns-in-None g c = λ file l d.
    all_here (c.loop.invariant file l d).0 (g.R.Read.remaining c.next.new.input) c.in-None.is c.in_ok-next.ensures
