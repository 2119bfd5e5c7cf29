-- `read` meets its contract: the verdict is that at the last place, and an accepted shard is parted at its xorb offset (proofs/Answers). Assumes nothing.
use mathlib.Core.Path.{refl, sym, ◌∙◌}
use native.Mathlib.Omega.{arith}
use Rattle.std.proofs.lemmas.Result.{err_from_is_err_and}
use Rattle.whole.proofs.Turns.{verdict_said}
use Rattle.join.proofs.Answers.{found_is, parted_from}
use Rattle.join.proofs.accepted.Accepted.read.Goals as goal

pub returns-in_err-verdict-clause-refused : goal.returns-in_err-verdict-clause-refused
returns-in_err-verdict-clause-refused c =
    let p = err_from_is_err_and c.from_residual.result c.from_residual.ensures.1 in
    rw (p.1, p.2) (sym (verdict_said _ _ _ _ c.last_place-last.ensures c.verdict.ensures) ∙ c.in_err-verdict.was)

pub invariant_of-result : goal.invariant_of-result
invariant_of-result c = record {
  parted = parted_from _ _ _ _ c.last_place-last.ensures c.verdict.ensures _ c.in_ok-verdict.was (λ i. omega (arith, c.type_inv.tag i)) (λ i. omega (arith, c.type_inv.bytes i));
}

pub returns-clause-accepted : goal.returns-clause-accepted
returns-clause-accepted c =
    (found_is _ _ _ _ c.last_place-last.ensures c.verdict.ensures _ c.in_ok-verdict.was, c.last_place-last.ensures, refl)
