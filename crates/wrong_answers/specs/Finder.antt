-- Wrong answers of `finder`: a chunk or a file by its hash, and the 48 bytes at a position.
use Rattle.std.specs.Prelude.{refl, List, [], ◌∷◌, ℕ, take, None, Ok}
use Rattle.cut.specs.Format.{run, push, fill}
use Rattle.words.specs.Le.{le_at, zeros_at, spell}
use Rattle.words.specs.Record.{spell_hash, spell_words}
use Rattle.rules.specs.Rules.{fault_of, kind_of, record_of, next_of}
use Rattle.rules.specs.Verdicts.{verdict_at}
use Rattle.layout.specs.Quay.{tag, hash}
use Rattle.layout.specs.Scan.{found_in, scan}
use Rattle.finder.specs.Find.{ChunkAnswer, the_chunk, chunk_behind, chunk_in, chunk_found, FileAnswer, the_file, file_in, file_found, part_at}
use Rattle.wrong_answers.specs.Wrong.{Wrong, ◌not◌by◌, Refuted, refuted}
use Rattle.wrong_answers.specs.Told.{numbers, chunk_told, file_told}
use Rattle.wrong_answers.specs.Inputs.{other, chunks, files, good_segment}

abbrev chunk_at : ℕ → ℕ → ℕ → ChunkAnswer
chunk_at block index at = the_chunk (record { 0 = block }) (record { 0 = index }) (record { 0 = at })

abbrev file_at : ℕ → ℕ → FileAnswer
file_at number at = the_file (record { 0 = number }) (record { 0 = at })

abbrev wrongs : List Wrong
wrongs =
    -- ## `find_chunk`
    -- the block number one off
    (chunk_found tag chunks hash not chunk_at 1 0 144 by chunk_told)
    -- the first chunk passed over
    ∷ (chunk_found tag chunks hash not Ok None by chunk_told)
    -- another index
    ∷ (chunk_found tag chunks other not chunk_at 0 0 192 by chunk_told)
    -- ## `find_file`
    -- the file number one off
    ∷ (file_found tag files hash not file_at 1 48 by file_told)
    -- other flags, so that the verification is taken for a head
    ∷ (file_found tag files other not file_at 2 192 by file_told)
    -- ## `record_at`
    -- 47 bytes
    ∷ (part_at good_segment 0 not take 47 good_segment by numbers)
    -- the last 48 bytes passed over
    ∷ (part_at good_segment 0 not [] by numbers)
    ∷ []

pub finder_refuted : Refuted wrongs
unfolding chunk_found chunk_in chunk_behind file_found file_in part_at found_in scan run push fill verdict_at fault_of kind_of record_of next_of le_at zeros_at spell spell_hash spell_words
finder_refuted = refuted wrongs refl
