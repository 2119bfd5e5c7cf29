-- `next` meets its contract: position, totals, what is due and what is remembered are each what the rules say, as 64 bits hold them. Assumes nothing.
use Rattle.rules.specs.Rules.{kind_of}
use Rattle.rules.proofs.Holds.{next_held}
use Rattle.rules.proofs.Place.next.Goals as goal

pub returns : goal.returns
unfolding kind_of
returns c =
    let small = rw (c.known.ensures, c.plus64-after.ensures, c.size.ensures) at c.moved_to.ensures.1 in
    rw (c.moved_to.ensures.0, c.known.ensures, c.due_after-then.ensures, c.with-counted.ensures, c.count_of.ensures, c.kind.ensures, c.plus64-after.ensures, c.size.ensures) (next_held c.args.self c.args.w small)
