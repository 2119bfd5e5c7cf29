-- `step` meets its contract for a faulty record: the call is the one that refuses it. Assumes nothing.
use Rattle.std.proofs.Common.{rules, sym, ◌∙◌}
use Rattle.reader.proofs.Looks.{step_failed}
use Rattle.reader.proofs.Stand.step.Goals as goal

pub returns-in-Err : goal.returns-in-Err
returns-in-Err c =
    step_failed c.args.self c.args.piece.now (sym c.halts.ensures ∙ c.if-halts.false) c.args.carry.now _ _ _ c.lacks-lacks.ensures (sym c.in-Err.is ∙ c.hear-heard.ensures) (search rules)
