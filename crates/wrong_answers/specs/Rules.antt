-- Wrong answers of `rules`: checks, kinds, records, the next place, refusals and verdicts.
use Rattle.std.specs.Prelude.{refl, Bool, true, false, List, [], ◌∷◌, ℕ, ◌+◌, Err}
use Rattle.words.specs.declared.Footer.{Footer}
use Rattle.rules.specs.Rules.{fault_of, footer_fault, kind_of, record_of, next_of, size_by, same31, further_records, with_offset, counts, moved_to, start}
use Rattle.rules.specs.Held.{held}
use Rattle.rules.specs.Kinds.{row_of, same_kind, is_due, not_due}
use Rattle.rules.specs.Verdicts.{refused, refusal_at, verdict_at}
use Rattle.rules.specs.declared.Place.{Place}
use Rattle.rules.specs.declared.Kind.TheVariants as kind
use Rattle.rules.specs.declared.Due.TheVariants as due
use Rattle.wrong_answers.specs.Wrong.{Wrong, ◌not◌by◌, Refuted, refuted}
use Rattle.wrong_answers.specs.Told.{number, truth, due_told, verdict_told}
use Rattle.wrong_answers.specs.Inputs.{words, ones_words, flag31, flag30, four, here, at_segment, at_footer}

-- where a second file head is due, the first file having had no flags
abbrev at_second_file : Place
at_second_file = moved_to 96 (counts 1 0 0 0 0) due.FileHead start

-- where the last chunk of a xorb is due, 4,294,967,295 bytes being before it and declared
abbrev at_last_chunk : Place
at_last_chunk = here 192 (due.Chunk 1 4294967295 4294967295)

-- a footer of the shard with nothing else, with this version and xorb offset, and its reserved bytes 0 or not
abbrev foot : ℕ → ℕ → Bool → Footer
foot version xorbs clean = record { version = version; files = 48; xorbs = xorbs; itself = 144; words = words 0 0 0 0; clean = clean }

abbrev wrongs : List Wrong
wrongs =
    -- ## `Place::fault`
    -- a head need not leave room for what must follow
    (fault_of four (here 48 due.FileHead) (words 0 349523 0 0) not 0 by number)
    -- entries times 48 in 32 bits
    ∷ (fault_of four (here 48 due.FileHead) (words 0 89478486 0 0) not 0 by number)
    -- chunk lengths added in 32 bits
    ∷ (fault_of four at_last_chunk (words 4294967295 1 0 0) not 0 by number)
    -- bit 30 compared instead of bit 31
    ∷ (fault_of four at_second_file (words flag31 0 0 0) not 0 by number)
    ∷ (fault_of four at_second_file (words flag30 0 0 0) not 9 by number)
    -- a bookend by its hash only
    ∷ (fault_of four (here 48 due.FileHead) (ones_words 1) not 0 by number)
    -- a chunk that starts anywhere
    ∷ (fault_of four (here 144 (due.Chunk 1 0 10)) (words 5 10 0 0) not 0 by number)
    -- all ones in a chunk taken for a bookend
    ∷ (fault_of four (here 144 (due.Chunk 1 0 0)) (ones_words 1) not 8 by number)
    -- ## `Place::footer_fault`
    -- the xorb offset trusted
    ∷ (footer_fault at_footer (foot 1 48 true) not 0 by number)
    -- another version
    ∷ (footer_fault at_footer (foot 2 96 true) not 0 by number)
    -- the reserved bytes not looked at
    ∷ (footer_fault at_footer (foot 1 96 false) not 0 by number)
    -- ## `Place::kind`
    -- a segment called a chunk
    ∷ (row_of (kind_of at_segment (words 0 7 5 6)) not row_of kind.Chunk by number)
    -- a xorb head called a file head
    ∷ (row_of (kind_of (here 96 due.XorbHead) (words 0 0 0 0)) not row_of kind.FileHead by number)
    -- ## `Place::record`
    -- an offset in every record
    ∷ ((record_of at_segment (words 0 7 5 6)).offset.0 not 48 by number)
    -- the xorb offset in a record of 48 bytes, and none in a footer
    ∷ ((record_of (with_offset 96 (here 96 due.XorbHead)) (words 0 0 0 0)).offset.0 not 96 by number)
    ∷ ((record_of at_footer (words 0 0 0 0)).offset.0 not 0 by number)
    -- ## `Place::next`
    -- chunk lengths summed in 32 bits
    ∷ ((held (next_of (here 144 (due.Chunk 2 4294967295 0)) (words 0 1 0 0))).due not due.Chunk 1 0 0 by due_told)
    -- a file counted twice
    ∷ ((held (next_of (here 48 due.FileHead) (words 0 0 0 0))).totals.files not 2 by number)
    -- ## `Place::refuse`
    -- another number
    ∷ ((refused 7 at_segment).due not due.Refused 1 by due_told)
    -- the end instead
    ∷ ((refused 7 at_segment).due not due.End by due_told)
    -- ## `Place::refusal`
    -- another number
    ∷ ((refusal_at 7 at_segment).number not 1 by number)
    -- another position
    ∷ ((refusal_at 7 at_segment).at.0 not 0 by number)
    -- ## `Place::verdict`
    -- 2 where a footer is due
    ∷ (verdict_at at_footer not Err (refusal_at 2 at_footer) by verdict_told)
    -- a stored refusal forgotten
    ∷ (verdict_at (refused 7 at_segment) not Err (refusal_at 1 at_segment) by verdict_told)
    -- ## `Due::size`
    -- a footer of 48 bytes
    ∷ (size_by due.Footer not 48 by number)
    -- a record after the end
    ∷ (size_by due.End not 48 by number)
    -- ## `Due::takes`
    -- a section ended while a block is unfinished
    ∷ (is_due (due.Segment 1) kind.Bookend not true by truth)
    -- a record after the end
    ∷ (is_due due.End kind.Header not true by truth)
    -- ## `Due::not_due`
    -- 15 after the end
    ∷ (not_due due.End not 15 by number)
    -- 16 for a bad tag
    ∷ (not_due (due.Refused 2) not 16 by number)
    -- ## `Kind::row`
    -- a bookend in the footer's row
    ∷ (row_of kind.Bookend not 8 by number)
    -- a header in the file head's
    ∷ (row_of kind.Header not 1 by number)
    -- ## `Kind::is`
    -- every kind the same
    ∷ (same_kind kind.Footer kind.Header not true by truth)
    -- an earlier row the same
    ∷ (same_kind kind.Header kind.Footer not true by truth)
    -- ## `further_records`
    -- metadata not counted
    ∷ (further_records flag30 5 not 5 by number)
    -- bits 30 and 31 exchanged
    ∷ (further_records flag31 5 not 6 by number)
    -- ## `same_31`
    -- bit 30 compared instead of bit 31
    ∷ (same31 flag31 0 not true by truth)
    -- the whole flags compared
    ∷ (same31 (flag31 + flag30) flag31 not false by truth)
    -- bit 31 asked of both
    ∷ (same31 0 0 not false by truth)
    ∷ []

pub rules_refuted : Refuted wrongs
unfolding fault_of kind_of record_of next_of held verdict_at
rules_refuted = refuted wrongs refl
