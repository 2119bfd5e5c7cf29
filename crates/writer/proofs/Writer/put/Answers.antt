-- `put` meets its contract: what is answered decides whether the record's bytes are stored and the writer moves on. Assumes nothing.
use mathlib.Core.Path.{sym, ◌∙◌}
use Rattle.writer.specs.Write.{written_of}
use Rattle.writer.proofs.Calls.{room_for, put_start, put_kept}
use Rattle.writer.proofs.Writer.put.Goals as goal

pub spell-requires : goal.spell-requires
spell-requires c =
    (c.words-words.ensures, (room_for _ _ _ _ (sym c.judge-answer.ensures ∙ c.in-Ok.is)).0)

pub returns-in-Ok : goal.returns-in-Ok
unfolding written_of
returns-in-Ok c =
    let e = sym c.judge-answer.ensures ∙ c.in-Ok.is in (rw (c.next.ensures, c.words-words.ensures, c.judge-answer.ensures, e), c.spell.ensures ∙ put_start _ _ _ _ e)

pub returns-in-Err : goal.returns-in-Err
unfolding written_of
returns-in-Err c = let e = sym c.judge-answer.ensures ∙ c.in-Err.is in (rw (c.judge-answer.ensures, e), put_kept _ _ _ _ e)
