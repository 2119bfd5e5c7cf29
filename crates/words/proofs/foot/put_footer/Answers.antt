-- `put_footer` meets its contract: the parts of a footer, stored one after the other, are one run of 200 bytes. Assumes nothing.
use mathlib.Core.Path.{refl}
use Rattle.words.specs.Le.{spell}
use Rattle.words.specs.Record.{spell_hash, spell_words, spell_footer}
use Rattle.words.proofs.Stores.{puts_then}
use Rattle.words.proofs.foot.put_footer.Goals as goal

pub returns : goal.returns
unfolding spell_footer spell_words spell_hash spell
returns c =
    puts_then 192 _ 0 _ _ refl (puts_then 120 _ 0 _ _ refl (puts_then 72 _ 0 _ _ refl (puts_then 24 _ 0 _ _ refl (puts_then 16 _ 0 _ _ refl (puts_then 8 _ 0 _ _ refl
    c.write.ensures c.write-2.ensures) c.write-3.ensures) c.put_zeros.ensures) c.write-4.ensures) c.put_zeros-2.ensures) c.write-5.ensures
