-- `find_file` meets its contract: at each turn what is still to come gives the answer for the whole (proofs/FileWalk). Assumes nothing.
use mathlib.Core.Path.{sym, ◌∙◌}
use Rattle.finder.proofs.FileWalk.{no_file_left, file_hit_lem}
use Rattle.finder.proofs.files.find_file.Goals as goal

pub returns-then-is_ones : goal.returns-then-is_ones
returns-then-is_ones c =
    no_file_left _ _ _ _ _ c.loop-hash.invariant _ c.read-head.ensures (sym c.is_ones.ensures ∙ c.if-is_ones.true)

pub returns-then-same_hash : goal.returns-then-same_hash
returns-then-same_hash c =
    file_hit_lem _ _ _ _ _ c.loop-hash.invariant _ c.read-head.ensures (sym c.is_ones.ensures ∙ c.if-is_ones.false) (sym c.same_hash.ensures ∙ c.if-same_hash.true)
