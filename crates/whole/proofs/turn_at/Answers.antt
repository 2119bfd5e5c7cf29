-- `turn_at` meets its contract: what is due and the bytes left decide, in the order of the definition. Assumes nothing.
use Rattle.std.proofs.Common.{◌≤◌, ◌<◌, ◌∙◌, sym, ap, arith}
use Rattle.rules.specs.Rules.{size_of}
use Rattle.whole.specs.Turns.{left_at}
use Rattle.whole.proofs.Turns.{left_length, turn_end, turn_short, turn_heard, heard}
use Rattle.whole.proofs.turn_at.Goals as goal

pub returns-then-size-eq0 : goal.returns-then-size-eq0
returns-then-size-eq0 c =
    let a = c.args in
    rw (c.end_at.ensures, left_length a.shard.now a.place) (sym (turn_end a.four a.shard.now a.place (sym c.size-size.ensures ∙ c.if-size-eq0.true)))

pub returns-then-left-size : goal.returns-then-left-size
returns-then-left-size c =
    let a = c.args in
    let l : left_at a.shard.now a.place < size_of a.place = omega (arith, c.size-size.ensures, left_length a.shard.now a.place, c.if-left-size.true) in
    sym (turn_short a.four a.shard.now a.place l)

pub returns-in-Ok : goal.returns-in-Ok
returns-in-Ok c =
    let a = c.args in
    let k : 0 < size_of a.place = omega (arith, c.size-size.ensures) in
    let l : size_of a.place ≤ left_at a.shard.now a.place = omega (arith, c.size-size.ensures, left_length a.shard.now a.place, c.if-left-size.false) in
    rw c.next.ensures (ap (heard a.place) (sym c.in-Ok.is) ∙ turn_heard a.four a.shard.now a.place k l c.size-size.ensures c.hear.ensures)

pub returns-in-Err : goal.returns-in-Err
returns-in-Err c =
    let a = c.args in
    let k : 0 < size_of a.place = omega (arith, c.size-size.ensures) in
    let l : size_of a.place ≤ left_at a.shard.now a.place = omega (arith, c.size-size.ensures, left_length a.shard.now a.place, c.if-left-size.false) in
    rw c.refuse.ensures (ap (heard a.place) (sym c.in-Err.is) ∙ turn_heard a.four a.shard.now a.place k l c.size-size.ensures c.hear.ensures)
