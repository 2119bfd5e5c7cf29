-- The 110 bytes of the entry, or what is left of the file where these are fewer.
use Rattle.std.proofs.Common.{◌≡◌, arith, rules, length, take, length-take-le, Ok, Err}
use Rattle.blobs.specs.Blobs.{head_of}
use Rattle.blobline.proofs.Ended.{refused_here, short_here, whole_here}
use Rattle.blobline.proofs.next.Goals as goal

pub returns-in_err-length : goal.returns-in_err-length
returns-in_err-length g c = λ rest e.
    let r : c.from_residual-in_err-length.result ≡ Err c.in_err-length.field-0.0 = search rules in
    let k : length (take c.in_ok-size.size c.read_full.new.buf) ≡ c.in_ok-size.size = length-take-le _ _ (search rules) in
    rw r (
    refused_here _ _ e c.in_ok-size.ensures.bytes c.head_of.result c.in_err-length.field-0.0 c.head_of.ensures c.in_err-length.ensures.cases
    (λ l. c.in_ok-size.ensures.end (omega (arith, k, l))) (omega (arith, k, c.if-size-eq0.false)))

pub returns-then-branch-length : goal.returns-then-branch-length
returns-then-branch-length g c = λ rest e.
    let bs = c.in_ok-read_past.ensures.bytes in
    let h : head_of (take c.in_ok-size.size c.read_full.new.buf) ≡ Ok c.in_ok-length.length = search rules in
    short_here _ _ e c.in_ok-size.ensures.bytes h (search rules) _ bs.0 bs.1
    (omega (arith, bs.2, c.if-branch-length.true)) (c.in_ok-read_past.ensures.end (omega (arith, c.if-branch-length.true)))

pub returns : goal.returns
returns g c = λ rest e.
    let bs = c.in_ok-read_past.ensures.bytes in
    let h : head_of (take c.in_ok-size.size c.read_full.new.buf) ≡ Ok c.in_ok-length.length = search rules in
    whole_here _ _ e c.in_ok-size.ensures.bytes h (search rules) _ bs.0 bs.1
    (omega (arith, bs.2, c.if-branch-length.false, c.in_ok-read_past.ensures.within))
