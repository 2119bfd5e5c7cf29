-- `look` meets its contract: a call that finds no whole record, or one that judges it. Assumes nothing.
use mathlib.Core.Path.{sym, ◌∙◌}
use Rattle.std.proofs.lemmas.Result.{err_from_is_err_and}
use Rattle.reader.proofs.Looks.{whole_foretells}
use Rattle.reader.proofs.Stand.look.Goals as goal

pub returns-in_err-words : goal.returns-in_err-words
returns-in_err-words c =
    let p = err_from_is_err_and c.from_residual.result c.from_residual.ensures.1 in
    rw (p.1, p.2) (whole_foretells c.args.self c.args.rest.now (sym c.halts.ensures ∙ c.if-halts.false) c.lacks.ensures (sym c.in_err-words.was ∙ c.hear.ensures))

pub returns : goal.returns
returns c =
    rw c.lacks-2.ensures (whole_foretells c.args.self c.args.rest.now (sym c.halts.ensures ∙ c.if-halts.false) c.lacks.ensures (sym c.in_ok-words.was ∙ c.hear.ensures))
