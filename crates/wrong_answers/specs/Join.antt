-- Wrong answers of `join`: one shard of two in a buffer, by what is answered and by what is written.
use Rattle.std.specs.Prelude.{refl, true, false, List, [], ◌∷◌, ◌++◌, ℕ, ◌+◌, length, take, replicate, Ok, Err}
use Rattle.cut.specs.Format.{run, push, fill}
use Rattle.words.specs.Le.{le_at, zeros_at, spell}
use Rattle.words.specs.Record.{spell_hash, spell_words}
use Rattle.rules.specs.Rules.{limit, fault_of, kind_of, record_of, next_of, counts, moved_to, start}
use Rattle.rules.specs.Verdicts.{refusal_at, verdict_at, summary_of}
use Rattle.rules.specs.declared.Summary.{Summary}
use Rattle.rules.specs.declared.Due.TheVariants as due
use Rattle.layout.specs.Quay.{tag, hash, row, header, bookend}
use Rattle.layout.specs.Scan.{found_in, scan}
use Rattle.layout.specs.Reach.{last_place}
use Rattle.join.specs.Join.{joined_at, joined_bytes, join_fault, fault_for, answer_for, join_of, buffer_of}
use Rattle.join.specs.Claims.{of_file, of_xorb, records_in}
use Rattle.wrong_answers.specs.Wrong.{Wrong, ◌not◌by◌, Refuted, refuted}
use Rattle.wrong_answers.specs.Told.{number, numbers, joined_told}
use Rattle.wrong_answers.specs.Inputs.{other, flag31, here, at_end, zeros, empty, late, file_with, footed, empty_file, empty_xorb, one_of_each}

-- two shards of 240 bytes; joined they are 336
abbrev former : List ℕ
former = one_of_each hash

abbrev latter : List ℕ
latter = one_of_each other

-- what is said of a shard with nothing in it, and of one with a file
abbrev no_file : Summary
no_file = summary_of at_end

abbrev one_file : Summary
one_file = summary_of (moved_to 192 (counts 1 0 0 0 0) due.End start)

abbrev wrongs : List Wrong
wrongs =
    -- ## `join`
    -- the length with a bookend too many
    (join_of tag former latter 480 not Ok 384 by joined_told)
    -- the length with nothing saved
    ∷ (join_of tag former latter 480 not Ok 480 by joined_told)
    -- a buffer as long as the result refused
    ∷ (join_of tag empty empty 144 not Err (refusal_at 15 start) by joined_told)
    -- 9 where the first has no files
    ∷ (join_of tag empty (file_with flag31) 192 not Err (refusal_at 9 start) by joined_told)
    -- 9 where the second has none
    ∷ (join_of tag (file_with flag31) empty 192 not Err (refusal_at 9 start) by joined_told)
    -- files that differ about bit 31 joined
    ∷ (join_of tag (file_with flag31) (file_with 0) 240 not Ok 240 by joined_told)
    -- 15 before 9
    ∷ (join_of tag (file_with flag31) (file_with 0) 239 not Err (refusal_at 15 start) by joined_told)
    -- 9 before 30
    ∷ (join_of tag footed (file_with 0) 440 not Err (refusal_at 9 start) by joined_told)
    -- a footer in the first passed over
    ∷ (join_of tag footed empty 392 not Ok 392 by joined_told)
    -- one in the second passed over
    ∷ (join_of tag empty footed 392 not Ok 392 by joined_told)
    -- 30 at the footer
    ∷ (join_of tag footed empty 392 not Err (refusal_at 30 (here 192 due.Footer)) by joined_told)
    -- 30 before the second shard's refusal
    ∷ (join_of tag footed late 393 not Err (refusal_at 30 start) by joined_told)
    -- the second shard's refusal before the first's
    ∷ (join_of tag late (header 0) 144 not Err (refusal_at 1 (here 48 due.FileHead)) by joined_told)
    -- the second shard's refusal at a position behind the first
    ∷ (join_of tag empty late 145 not Err (refusal_at 14 (here 288 due.End)) by joined_told)
    -- xorbs before files
    ∷ (buffer_of tag former latter (zeros 336) not header 0 ++ empty_xorb hash ++ empty_xorb other ++ bookend ++ empty_file hash ++ empty_file other ++ bookend by numbers)
    -- the second one's files first
    ∷ (buffer_of tag former latter (zeros 336) not header 0 ++ empty_file other ++ empty_file hash ++ bookend ++ empty_xorb hash ++ empty_xorb other ++ bookend by numbers)
    -- the second one's header copied
    ∷ (buffer_of tag former latter (zeros 384) not header 0 ++ empty_file hash ++ header 0 ++ empty_file other ++ bookend ++ empty_xorb hash ++ empty_xorb other ++ bookend by numbers)
    -- duplicates dropped
    ∷ (buffer_of tag former former (zeros 336) not former ++ zeros 96 by numbers)
    -- a byte past the result changed
    ∷ (buffer_of tag empty empty (replicate 145 7) not late by numbers)
    -- written before 15
    ∷ (buffer_of tag empty empty (zeros 143) not take 143 empty by numbers)
    -- written before 9
    ∷ (buffer_of tag (file_with flag31) (file_with 0) (zeros 240) not header 0 ++ row hash flag31 0 0 0 ++ row hash 0 0 0 0 ++ bookend ++ bookend by numbers)
    -- ## `fault`, of which the answer is made
    -- a result past the limit
    ∷ (fault_for no_file no_file true (limit + 1) (limit + 1) not 0 by number)
    -- 15 before 6
    ∷ (fault_for no_file no_file true (limit + 1) limit not 15 by number)
    -- 6 before 9
    ∷ (fault_for one_file one_file false (limit + 1) limit not 6 by number)
    -- ## `records_in`, of which the claims speak
    -- no record is a file's
    ∷ (length (records_in of_file tag former) not 0 by number)
    -- a xorb's is one too
    ∷ (length (records_in of_file tag former) not 2 by number)
    -- no record is a xorb's
    ∷ (length (records_in of_xorb tag former) not 0 by number)
    ∷ []

pub join_refuted : Refuted wrongs
unfolding joined_at joined_bytes join_fault answer_for join_of buffer_of last_place found_in scan run push fill verdict_at fault_of kind_of record_of next_of le_at zeros_at spell spell_hash spell_words
join_refuted = refuted wrongs refl
