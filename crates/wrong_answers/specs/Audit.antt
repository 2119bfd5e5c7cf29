-- Wrong answers of `audit`: segments against the xorbs that the shard lists, by what is answered and by the definitions that its claims speak of.
use Rattle.std.specs.Prelude.{refl, true, false, List, [], ◌∷◌, ◌++◌, ℕ, Result, Ok, Err}
use Rattle.words.specs.declared.Refusal.{Refusal}
use Rattle.std.proofs.Math.Option.{none, some}
use Rattle.cut.specs.Format.{run, push, fill}
use Rattle.words.specs.Le.{le_at, zeros_at, spell}
use Rattle.words.specs.Record.{spell_hash, spell_words}
use Rattle.rules.specs.Rules.{fault_of, kind_of, record_of, next_of, start}
use Rattle.rules.specs.Verdicts.{refusal_at, verdict_at}
use Rattle.rules.specs.declared.Due.TheVariants as due
use Rattle.layout.specs.Layout.{Segment, FileBlock, Chunk, XorbBlock, file_rows}
use Rattle.layout.specs.Blocks.{leading}
use Rattle.layout.specs.Quay.{tag, hash, row, header, bookend}
use Rattle.layout.specs.Scan.{found_in, scan}
use Rattle.audit.specs.Audit.{first_block, is_listed, bytes_between, is_true_of, is_false, PlacedSegment, first_false, false_at, audit_in, placed_from, placed_in, blocks_in, audit_of}
use Rattle.audit.specs.declared.Counts.{Counts}
use Rattle.wrong_answers.specs.Wrong.{Wrong, ◌not◌by◌, Refuted, refuted}
use Rattle.wrong_answers.specs.Told.{number, truth, verdict_told, audited_told, placed_told, blocks_told, block_told}
use Rattle.wrong_answers.specs.Inputs.{other, third, flag31, here, late, claims, xorbs, with_xorbs}

-- ## Answers

-- so many name a listed xorb, so many another
abbrev counts : ℕ → ℕ → Result Counts Refusal
counts listed unlisted = Ok (record { listed = listed; unlisted = unlisted })

-- to a file of one segment, and to one of three
abbrev one : List ℕ → Result Counts Refusal
one segment = audit_of tag (with_xorbs 1 segment)

abbrev three : List ℕ → Result Counts Refusal
three segments = audit_of tag (with_xorbs 3 segments)

-- hashes that differ from the first xorb's in one number only, the last or the first
abbrev last_off : List ℕ
last_off = 1 ∷ 2 ∷ 3 ∷ 0 ∷ []

abbrev first_off : List ℕ
first_off = 0 ∷ 2 ∷ 3 ∷ 4 ∷ []

-- ## Shards

-- two files of one segment and its verification each, at 96 and 240; the second one is false
abbrev verified : List ℕ
verified = header 0 ++ row third flag31 1 0 0 ++ claims hash 0 3 60 ++ row third 0 0 0 0 ++ row third flag31 1 0 0 ++ claims hash 0 3 59 ++ row third 0 0 0 0 ++ bookend ++ xorbs ++ bookend

-- a false segment, and a byte after the end
abbrev too_long : List ℕ
too_long = with_xorbs 1 (claims hash 0 3 61) ++ (0 ∷ [])

-- ## The tree

abbrev chunk : ℕ → Chunk
chunk bytes = record { hash = third; bytes = bytes }

abbrev first : XorbBlock
first = record { hash = hash; disk = 0; chunks = chunk 10 ∷ chunk 20 ∷ chunk 30 ∷ [] }

abbrev second : XorbBlock
second = record { hash = hash; disk = 0; chunks = chunk 1 ∷ [] }

abbrev without : XorbBlock
without = record { hash = other; disk = 0; chunks = [] }

abbrev blocks : List XorbBlock
blocks = first ∷ second ∷ without ∷ []

abbrev segment : List ℕ → ℕ → ℕ → ℕ → Segment
segment xorb start end bytes = record { xorb = xorb; bytes = bytes; start = start; end = end }

abbrev at : ℕ → Segment → PlacedSegment
at position s = record { at = position; segment = s }

-- two files, the first with a verification and a metadata record
abbrev file_blocks : List FileBlock
file_blocks = record { hash = third; segments = segment hash 0 3 60 ∷ []; verifications = some (third ∷ []); metadata = some third }
    ∷ record { hash = third; segments = segment hash 0 3 59 ∷ []; verifications = some (third ∷ []); metadata = none } ∷ []

abbrev wrongs : List Wrong
wrongs =
    -- ## `audit`: which block
    -- the last block of that hash
    (one (claims hash 0 1 10) not Err (false_at 96) by audited_told)
    ∷ (one (claims hash 0 1 1) not counts 1 0 by audited_told)
    -- any block of that hash
    ∷ (three (claims hash 0 1 10 ++ claims hash 0 1 1 ++ claims hash 0 3 60) not counts 3 0 by audited_told)
    -- the chunks of both together
    ∷ (one (claims hash 0 4 61) not counts 1 0 by audited_told)
    -- a block without chunks passed over
    ∷ (one (claims other 0 1 0) not counts 0 1 by audited_told)
    -- the first block, whatever its hash
    ∷ (one (claims third 0 1 10) not counts 1 0 by audited_told)
    -- a hash compared in part
    ∷ (one (claims last_off 0 1 1) not Err (false_at 96) by audited_told)
    ∷ (one (claims first_off 0 1 1) not Err (false_at 96) by audited_told)
    -- ## `audit`: the chunk end
    -- the end equal to the count refused
    ∷ (one (claims hash 0 3 60) not Err (false_at 96) by audited_told)
    -- the end one past it taken for the last
    ∷ (one (claims hash 0 4 60) not counts 1 0 by audited_told)
    -- the start held against the count, not the end
    ∷ (one (claims hash 2 4 30) not counts 1 0 by audited_told)
    -- the end of an unlisted one held against some count
    ∷ (one (claims third 0 9 7) not Err (false_at 96) by audited_told)
    -- ## `audit`: the bytes
    -- the sum without the last chunk
    ∷ (one (claims hash 0 3 30) not counts 1 0 by audited_told)
    -- without the first
    ∷ (one (claims hash 0 2 20) not counts 1 0 by audited_told)
    -- the chunks before the start too
    ∷ (one (claims hash 1 2 30) not counts 1 0 by audited_told)
    -- up to the xorb's end
    ∷ (one (claims hash 1 2 50) not counts 1 0 by audited_told)
    -- the chunk at the end too
    ∷ (one (claims hash 0 1 30) not counts 1 0 by audited_told)
    -- one byte more, one less
    ∷ (one (claims hash 0 3 61) not counts 1 0 by audited_told)
    ∷ (one (claims hash 0 3 59) not counts 1 0 by audited_told)
    -- fewer bytes than the chunks have taken
    ∷ (one (claims hash 0 3 0) not counts 1 0 by audited_told)
    -- more
    ∷ (one (claims hash 0 3 4294967295) not counts 1 0 by audited_told)
    -- ## `audit`: the counts
    -- a false segment counted as unlisted
    ∷ (one (claims hash 0 3 61) not counts 0 1 by audited_told)
    -- an unlisted one refused
    ∷ (one (claims third 0 1 1) not Err (false_at 96) by audited_told)
    -- counted as listed
    ∷ (one (claims third 0 1 1) not counts 1 0 by audited_told)
    -- not counted
    ∷ (one (claims third 0 1 1) not counts 0 0 by audited_told)
    -- the two exchanged
    ∷ (three (claims hash 0 3 60 ++ claims third 0 1 1 ++ claims hash 1 3 50) not counts 1 2 by audited_told)
    -- the last segment not counted
    ∷ (three (claims hash 0 3 60 ++ claims third 0 1 1 ++ claims hash 1 3 50) not counts 1 1 by audited_told)
    -- xorbs counted, not segments
    ∷ (three (claims hash 0 3 60 ++ claims hash 0 3 60 ++ claims hash 1 3 50) not counts 1 0 by audited_told)
    -- files counted
    ∷ (three (claims third 0 3 60 ++ claims third 0 3 60 ++ claims third 1 3 50) not counts 0 1 by audited_told)
    -- ## `audit`: the position
    -- the file head's
    ∷ (one (claims hash 0 3 61) not Err (false_at 48) by audited_told)
    -- the xorb head's
    ∷ (one (claims hash 0 3 61) not Err (false_at 192) by audited_told)
    -- 0
    ∷ (one (claims hash 0 3 61) not Err (false_at 0) by audited_told)
    -- the first segment's
    ∷ (three (claims hash 0 3 60 ++ claims hash 0 3 61 ++ claims hash 0 3 60) not Err (false_at 96) by audited_told)
    -- the last false one's
    ∷ (three (claims hash 0 3 61 ++ claims hash 0 3 60 ++ claims hash 0 3 61) not Err (false_at 192) by audited_told)
    -- verifications taken for segments, or passed over in the position
    ∷ (audit_of tag verified not Err (false_at 144) by audited_told)
    ∷ (audit_of tag verified not Err (false_at 192) by audited_told)
    -- the first file only
    ∷ (audit_of tag verified not counts 1 0 by audited_told)
    -- ## `audit`: the number
    -- that of a segment, that of a sum
    ∷ (one (claims hash 0 3 61) not Err (refusal_at 10 (here 96 (due.Segment 1))) by audited_told)
    ∷ (one (claims hash 0 3 61) not Err (refusal_at 11 (here 96 (due.Segment 1))) by audited_told)
    -- ## `audit`: a refused shard
    -- no segments counted
    ∷ (audit_of tag late not counts 0 0 by audited_told)
    -- 22 before its refusal
    ∷ (audit_of tag too_long not Err (false_at 96) by audited_told)
    -- its refusal at 0
    ∷ (audit_of tag too_long not Err (refusal_at 14 start) by audited_told)
    -- ## the verdict, which is apart
    -- a false segment refuses the shard
    ∷ ((found_in tag (with_xorbs 1 (claims hash 0 3 61))).verdict not Err (false_at 96) by verdict_told)
    -- ## `first_block`
    -- the last
    ∷ (first_block hash blocks not some second by block_told)
    -- one without chunks passed over
    ∷ (first_block other blocks not none by block_told)
    -- ## `is_listed`
    -- only a block with chunks lists
    ∷ (is_listed blocks (segment other 0 1 0) not false by truth)
    -- a chunk's hash lists
    ∷ (is_listed blocks (segment third 0 1 1) not true by truth)
    -- ## `bytes_between`
    -- the last chunk left out, the one behind it taken too, as many chunks as the end says
    ∷ (bytes_between 0 2 first.chunks not 10 by number)
    ∷ (bytes_between 0 2 first.chunks not 60 by number)
    ∷ (bytes_between 1 2 first.chunks not 50 by number)
    -- ## `is_true_of`
    -- the end below the count
    ∷ (is_true_of first (segment hash 0 3 60) not false by truth)
    -- the end not looked at
    ∷ (is_true_of first (segment hash 0 4 60) not true by truth)
    -- the bytes not looked at
    ∷ (is_true_of first (segment hash 0 3 59) not true by truth)
    -- at most so many bytes
    ∷ (is_true_of first (segment hash 0 1 9) not true by truth)
    -- ## `is_false`
    -- an unlisted one
    ∷ (is_false blocks (segment third 0 1 1) not true by truth)
    -- one that some block bears out
    ∷ (is_false blocks (segment hash 0 1 1) not false by truth)
    -- ## `placed_from`
    -- the next file behind the segments
    ∷ (placed_from 48 file_blocks not at 96 (segment hash 0 3 60) ∷ at 192 (segment hash 0 3 59) ∷ [] by placed_told)
    -- the position of the head
    ∷ (placed_from 48 file_blocks not at 48 (segment hash 0 3 60) ∷ at 240 (segment hash 0 3 59) ∷ [] by placed_told)
    -- ## `placed_in`
    -- the first file only
    ∷ (placed_in (found_in tag verified).records not at 96 (segment hash 0 3 60) ∷ [] by placed_told)
    -- verifications too
    ∷ (placed_in (found_in tag verified).records not at 96 (segment hash 0 3 60) ∷ at 144 (segment third 0 0 0) ∷ at 240 (segment hash 0 3 59) ∷ at 288 (segment third 0 0 0) ∷ [] by placed_told)
    -- ## `blocks_in`
    -- each chunk to the block before, too
    ∷ (blocks_in (found_in tag verified).records not record { hash = hash; disk = 0; chunks = chunk 10 ∷ chunk 20 ∷ chunk 30 ∷ chunk 1 ∷ [] } ∷ second ∷ without ∷ [] by blocks_told)
    -- one block of each hash
    ∷ (blocks_in (found_in tag verified).records not first ∷ without ∷ [] by blocks_told)
    -- file heads too
    ∷ (blocks_in (found_in tag verified).records not record { hash = third; disk = 0; chunks = [] } ∷ first ∷ second ∷ without ∷ [] by blocks_told)
    ∷ []

pub audit_refuted : Refuted wrongs
unfolding first_false audit_in placed_in blocks_in leading audit_of file_rows found_in scan run push fill verdict_at fault_of kind_of record_of next_of le_at zeros_at spell spell_hash spell_words
audit_refuted = refuted wrongs refl
