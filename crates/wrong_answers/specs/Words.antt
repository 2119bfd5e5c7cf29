-- Wrong answers of the inner crates `words` and `carry`: numbers and records in bytes, and the bytes of the record due.
use Rattle.std.specs.Prelude.{refl, true, List, [], ◌∷◌, ◌++◌, ℕ, ◌-◌, take, drop}
use Rattle.std.proofs.Math.Seq.{paste}
use Rattle.words.specs.Le.{le_at, puts, spell, zeros_at}
use Rattle.words.specs.Record.{spell_hash, spell_words, footer_at, same_hash, is_ones}
use Rattle.rules.specs.Rules.{words_in}
use Rattle.layout.specs.Quay.{hash}
use Rattle.wrong_answers.specs.Wrong.{Wrong, ◌not◌by◌, Refuted, refuted}
use Rattle.wrong_answers.specs.Told.{number, numbers, truth}
use Rattle.wrong_answers.specs.Inputs.{words, zeros, at_segment, good_segment}

abbrev ones64 : ℕ
ones64 = 18446744073709551615

abbrev wrongs : List Wrong
wrongs =
    -- `u32::read`: a byte of a number is read twice
    (le_at 4 (1 ∷ 2 ∷ 3 ∷ 4 ∷ []) 0 not le_at 4 (1 ∷ 2 ∷ 2 ∷ 4 ∷ []) 0 by number)
    -- `u32::write`: half of a byte goes to the next one
    ∷ (spell 4 65536 not 0 ∷ 0 ∷ 2 ∷ 0 ∷ [] by numbers)
    -- `u16::read`: read from the other end
    ∷ (le_at 2 (1 ∷ 2 ∷ []) 0 not 258 by number)
    -- `u16::write`: the high byte lost
    ∷ (spell 2 258 not 2 ∷ 0 ∷ [] by numbers)
    -- `put_part`: the part begins a byte late; a byte more is put
    ∷ (puts (zeros 4) 1 (take 2 (drop 1 (5 ∷ 6 ∷ 7 ∷ 8 ∷ []))) not 0 ∷ 7 ∷ 8 ∷ 0 ∷ [] by numbers)
    ∷ (puts (zeros 4) 1 (take 2 (drop 1 (5 ∷ 6 ∷ 7 ∷ 8 ∷ []))) not 0 ∷ 6 ∷ 7 ∷ 8 ∷ [] by numbers)
    -- `Words::write`: two numbers of a record are exchanged
    ∷ (spell_words (words 1 2 3 4) not spell_words (words 1 3 2 4) by numbers)
    -- `Footer::read`: the second reserved area is not looked at
    ∷ ((footer_at (zeros 120 ++ (1 ∷ zeros 79)) 0).clean not true by truth)
    -- `same_hash`: the last number not compared
    ∷ (same_hash hash (1 ∷ 2 ∷ 3 ∷ 5 ∷ []) not true by truth)
    -- `same_hash`: one number that is the same is enough
    ∷ (same_hash hash (1 ∷ 6 ∷ 7 ∷ 8 ∷ []) not true by truth)
    -- `is_ones`: the last number not compared
    ∷ (is_ones (ones64 ∷ ones64 ∷ ones64 ∷ 0 ∷ []) not true by truth)
    -- `is_ones`: a bit short of all ones
    ∷ (is_ones ((ones64 - 1) ∷ ones64 ∷ ones64 ∷ ones64 ∷ []) not true by truth)
    -- `hear`: a byte in the carry is passed over
    ∷ ((words_in at_segment (paste (take 1 good_segment ++ zeros 199) 1 (drop 1 good_segment) 47)).hash not (words_in at_segment (drop 1 good_segment ++ zeros 1)).hash by numbers)
    ∷ []

pub words_refuted : Refuted wrongs
unfolding le_at puts spell zeros_at spell_hash spell_words
words_refuted = refuted wrongs refl
