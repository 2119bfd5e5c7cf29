-- `put_zeros` meets its contract: what a part of the buffer is filled with is a run of stores. Assumes nothing.
use Rattle.std.proofs.Common.{◌+◌, ◌∙◌, ℕ, replicate, refl, ap, arith}
use lib.ListN.{length-take, length-drop, length-replicate}
use Rattle.words.proofs.Stores.{mid_puts}
use Rattle.words.proofs.number.put_zeros.Goals as goal

pub returns : goal.returns
returns c =
    let a = c.args in
    mid_puts a.buf.now a.at (a.at + a.n) _ (replicate a.n 0)
    (c.fill.ensures.after (λ y e. e) ∙ ap (λ (k : ℕ). replicate k 0) (simp (length-take, length-drop) (omega arith)))
    (simp length-replicate refl) c.requires
