-- ONE CALL OF THE WRITER: the answer, the next writer, and each byte of the lent buffer; for every writer, every offer and every buffer.
use Rattle.std.specs.Prelude.{ℕ, List, ◌++◌, Bool, ◌&&◌, ◌||◌, not, eqb, leb, length, drop, Result, Ok, Err}
use Rattle.words.specs.Checks.{pick, ◌unless◌then◌}
use Rattle.words.specs.Record.{is_ones, tag_at, no_tag, spell_words, spell_footer}
use Rattle.words.specs.declared.Words.{Words}
use Rattle.words.specs.declared.Refusal.{Refusal}
use Rattle.rules.specs.Rules.{size_of, fault_of, next_of, start}
use Rattle.rules.specs.Held.{held}
use Rattle.rules.specs.Verdicts.{refused, refusal_at, verdict_at}
use Rattle.rules.specs.Kinds.{same_kind, is_due, not_due}
use Rattle.rules.specs.Verdicts.{Verdict}
use Rattle.rules.specs.declared.Kind.{Kind}
use Rattle.rules.specs.declared.Kind.TheVariants as kind
use Rattle.writer.specs.Offers.{kind_offered, words_of}
use Rattle.writer.specs.declared.Offer.{Offer}
use Rattle.writer.specs.declared.Writer.{Writer}
use Rattle.writer.specs.declared.Written.{Written}

-- ## The record's bytes

abbrev pub is_head : Kind → Bool
is_head k = same_kind k kind.FileHead || same_kind k kind.XorbHead

abbrev pub is_footer : Kind → Bool
is_footer k = same_kind k kind.Footer

-- a footer's offsets are those of the place
unfoldable pub bytes_of : Writer → Offer → List ℕ
bytes_of w o = pick (is_footer (kind_offered o)) (spell_footer w.place.offset.0 w.place.at.0 (words_of w.tag o)) (spell_words (words_of w.tag o))

-- ## The answer

-- a refusal has the position where the writer stands, which is where the record would start
abbrev pub refuses : Writer → ℕ → Result ℕ Refusal
refuses w number = Err (refusal_at number w.place)

-- the reader's checks for that record: the number of the first that fails, 0 for none
abbrev pub checked : Writer → Offer → ℕ
checked w o = fault_of w.tag w.place (words_of w.tag o)

unfoldable pub answer_of : Writer → Offer → ℕ → Result ℕ Refusal
answer_of w o room =
    -- this kind of record is due now
    refuses w (not_due w.place.due) unless is_due w.place.due (kind_offered o) then
    -- no head has the hash of all ones
    refuses w 8 unless not (is_head (kind_offered o) && is_ones o.hash) then
    -- the reader's checks
    refuses w (checked w o) unless eqb (checked w o) 0 then
    -- the buffer is not shorter than the record
    refuses w 15 unless leb (size_of w.place) room then Ok (size_of w.place)

-- ## What a call changes

-- a record that was written moves the writer on; a refusal changes nothing
abbrev pub next_by : Result ℕ Refusal → Writer → Words → Writer
next_by (Ok size) w words = record { tag = w.tag; place = held (next_of w.place words) }
next_by (Err refusal) w words = w

-- the record stands at the start of the buffer, and no other byte changes; a refusal changes none
abbrev pub buffer_by : Result ℕ Refusal → Writer → Offer → List ℕ → List ℕ
buffer_by (Ok size) w o buffer = bytes_of w o ++ drop size buffer
buffer_by (Err refusal) w o buffer = buffer

abbrev pub written_by : Result ℕ Refusal → Writer → Words → Written
written_by a w words = record { writer = next_by a w words; answer = a }

-- what a call answers, from the length of the buffer
unfoldable pub written_of : Writer → Offer → ℕ → Written
written_of w o room = written_by (answer_of w o room) w (words_of w.tag o)

-- the buffer after the call
unfoldable pub buffer_of : Writer → Offer → List ℕ → List ℕ
buffer_of w o buffer = buffer_by (answer_of w o (length buffer)) w o buffer

-- ## Beginning, and the verdict

-- a tag that is not 32 bytes is refused with 2
unfoldable pub fresh : List ℕ → Writer
fresh tag = pick (eqb (length tag) 32) (record { tag = tag_at tag; place = start }) (record { tag = no_tag; place = refused 2 start })

-- the reader's verdict where the writer stands: done, or 1 at the record due; 2 if the tag was bad
unfoldable pub verdict_of : Writer → Verdict
verdict_of w = verdict_at w.place
