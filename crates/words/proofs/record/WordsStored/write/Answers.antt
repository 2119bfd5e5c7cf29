-- `Words::write` meets its contract: a hash and four numbers, stored one after the other, are one run of 48 bytes. Assumes nothing.
use mathlib.Core.Path.{refl}
use Rattle.words.specs.Le.{spell}
use Rattle.words.specs.Record.{spell_hash, spell_words}
use Rattle.words.proofs.Stores.{puts_then}
use Rattle.words.proofs.record.WordsStored.write.Goals as goal

pub returns : goal.returns
unfolding spell_words spell_hash spell
returns c =
    puts_then 44 _ _ _ _ refl (puts_then 40 _ _ _ _ refl (puts_then 36 _ _ _ _ refl (puts_then 32 _ _ _ _ refl
    c.write.ensures c.write-2.ensures) c.write-3.ensures) c.write-4.ensures) c.write-5.ensures
