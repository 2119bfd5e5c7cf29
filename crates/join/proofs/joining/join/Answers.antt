-- `join` meets its contract: by the verdicts at the two last places, and by what the two come to (proofs/Answers). Assumes nothing.
use native.Mathlib.Omega.{arith}
use Rattle.std.proofs.lemmas.Result.{err_from_is_err_and}
use Rattle.join.proofs.Answers.{room_there, first_refused, second_refused, both_refused, both_joined}
use Rattle.join.proofs.joining.join.Goals as goal

pub returns-in_err-one : goal.returns-in_err-one
returns-in_err-one c =
    let p = err_from_is_err_and c.from_residual.result c.from_residual.ensures.1 in
    rw (p.1, p.2) (first_refused _ _ _ _ _ c.in_err-one.ensures.refused)

pub returns-in_err-two : goal.returns-in_err-two
returns-in_err-two c =
    let p = err_from_is_err_and c.from_residual-in_err-two.result c.from_residual-in_err-two.ensures.1 in
    rw (p.1, p.2) (second_refused _ _ _ _ _ _ c.in_ok-one.ensures.accepted _ c.in_err-two.ensures.refused)

pub returns-in_err-size : goal.returns-in_err-size
returns-in_err-size c =
    let p = err_from_is_err_and c.from_residual-in_err-size.result c.from_residual-in_err-size.ensures.1 in
    rw (p.1, p.2) (both_refused _ _ _ _ _ _ c.in_ok-one.ensures.accepted _ _ c.in_ok-two.ensures.accepted _ c.in_err-size.ensures)

pub put_joined-requires : goal.put_joined-requires
put_joined-requires c = omega (arith, room_there _ _ _ _ 0 0 _ _ c.in_ok-size.ensures)

pub returns : goal.returns
returns c =
    both_joined _ _ _ _ _ _ c.in_ok-one.ensures.accepted _ _ c.in_ok-two.ensures.accepted c.in_ok-one.one.parted c.in_ok-two.two.parted _ _ c.in_ok-size.ensures c.put_joined.ensures
