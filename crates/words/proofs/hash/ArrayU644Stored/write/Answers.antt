-- `write` meets its contract: four runs of eight stores, one after the other, are one run of 32. Assumes nothing.
use mathlib.Core.Path.{refl}
use Rattle.words.specs.Record.{spell_hash}
use Rattle.words.specs.Le.{spell}
use Rattle.words.proofs.Stores.{puts_then}
use Rattle.words.proofs.hash.ArrayU644Stored.write.Goals as goal

pub returns : goal.returns
unfolding spell_hash spell
returns c =
    puts_then 24 _ _ _ _ refl (puts_then 16 _ _ _ _ refl (puts_then 8 _ _ _ _ refl c.write.ensures c.write-2.ensures) c.write-3.ensures) c.write-4.ensures
