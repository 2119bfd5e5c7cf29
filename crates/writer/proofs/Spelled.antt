-- One record, its words and its bytes: where it is due, good words are read from the bytes that they spell, and bytes that are read as good spell
-- the words again, because each part of a record is a number. Assumes nothing.
use mathlib.Core.Path.{◌≡◌, sym, ap, ◌∙◌}
use mathlib.Core.Bool.{true}
use mathlib.Core.List.{List, [], ◌∷◌, ◌++◌}
use Prim.Native.Nat.{ℕ, ◌<◌}
use native.Mathlib.Omega.{arith}
use lib.ListN.{length}
use Rattle.words.specs.Checks.{pick}
use Rattle.words.specs.Le.{Bytes}
use Rattle.words.specs.Record.{Whole, words_at, footer_at, spell_words, spell_footer}
use Rattle.words.specs.declared.Words.{Words}
use Rattle.words.specs.declared.Tag.{Tag}
use Rattle.words.proofs.Records.{words_spell, spell_words_lem, words_whole, length_words}
use Rattle.cut.specs.Format.{good, at, run, settle, then_run}
use Rattle.cut.proofs.Runs.{run_append, run_full}
use Rattle.rules.specs.Rules.{size_by, size_of, footer_due, fault_by, fault_of, footer_fault, next_of, record_of}
use Rattle.rules.specs.Kinds.{is_due}
use Rattle.rules.specs.declared.Place.{Place}
use Rattle.rules.specs.declared.Record.{Record}
use Rattle.rules.specs.declared.Due.{Due}
use Rattle.rules.specs.declared.Due.TheVariants as due
use Rattle.writer.specs.Offers.{kind_offered, words_of}
use Rattle.writer.specs.declared.Offer.{Offer}
use Rattle.layout.specs.Scan.{judged, format}
use Rattle.layout.specs.Reach.{Reached}
use Rattle.layout.proofs.Judged.{Class, a_row, a_foot, no_record, class, row_due, judge_row, judge_foot, settled_good}
use Rattle.layout.proofs.Foot.{foot_run, foot_back}
use Rattle.layout.proofs.Reach.{at_limit}
use Rattle.writer.specs.Write.{bytes_of}
use Rattle.writer.specs.declared.Writer.{Writer}
use Rattle.writer.proofs.Made.{due_footer}

-- the bytes of the record due: a footer's offsets are those of the place
abbrev pub bytes_at : Place → Words → List ℕ
bytes_at p w = pick (footer_due p.due) (spell_footer p.offset.0 p.at.0 w) (spell_words w)

-- they are those of any offer that is due
pub bytes_due : (w : Writer) (o : Offer) → is_due w.place.due (kind_offered o) ≡ true → bytes_of w o ≡ bytes_at w.place (words_of w.tag o)
unfolding bytes_of
bytes_due w o e = rw (due_footer w.place.due (kind_offered o) e)

-- words that pass the checks where a record is due
pub record GoodWords (tag : Tag) (p : Place) (w : Words) : Type 0 where
  pub due : 0 < size_of p
  pub whole : Whole w
  pub fault : fault_of tag p w ≡ 0

-- ## Rows and footers

row_bytes : (p : Place) (w : Words) → size_of p ≡ 48 → bytes_at p w ≡ spell_words w
row_bytes p w s = rw (row_due p.due s)

foot_bytes : (p : Place) (w : Words) → p.due ≡ due.Footer → bytes_at p w ≡ spell_footer p.offset.0 p.at.0 w
foot_bytes p w d = rw d

foot_fault : (tag : Tag) (p : Place) (w : Words) → p.due ≡ due.Footer → fault_of tag p w ≡ 0
unfolding fault_of
foot_fault tag p w d = ap (λ (x : Due). fault_by x tag p w) d

-- ## Forth

run_good : (tag : Tag) (p : Place) (w : Words) → Reached p → GoodWords tag p w → run (format tag) (at p []) (bytes_at p w) ≡ record { recs = record_of p w ∷ []; state = at (next_of p w) [] }
run_good tag p w r g = go (class p.due)
  where
    go : Class p.due → run (format tag) (at p []) (bytes_at p w) ≡ record { recs = record_of p w ∷ []; state = at (next_of p w) [] }
    go (a_row s) =
        ap (run (format tag) (at p [])) (row_bytes p w s)
        ∙ run_full (format tag) p [] (spell_words w) (omega arith) (omega (arith, length_words w))
        ∙ ap settle (judge_row tag p (spell_words w) s) ∙ rw (words_spell w g.whole, g.fault)
    go (a_foot d) =
        let l = at_limit p r in
        ap (run (format tag) (at p [])) (foot_bytes p w d) ∙ foot_run tag p w d (omega (arith, r.counts.behind)) (omega arith) g.whole
    go (no_record s) = absurd (omega arith)

-- good words are read from their bytes, and lead to the next place
pub reads_good : (tag : Tag) (p : Place) (w : Words) (rest : List ℕ) → Reached p → GoodWords tag p w
    → run (format tag) (at p []) (bytes_at p w ++ rest) ≡ then_run (record_of p w ∷ []) (run (format tag) (at (next_of p w) []) rest)
reads_good tag p w rest r g = run_append (format tag) (at p []) (bytes_at p w) rest ∙ rw (run_good tag p w r g)

-- ## Back

-- bytes that were judged good
pub record Spelled (tag : Tag) (p q : Place) (r : Record) (bs : List ℕ) : Type 0 where
  pub words : Words
  pub good : GoodWords tag p words
  pub bytes : bytes_at p words ≡ bs
  pub next : next_of p words ≡ q
  pub same : record_of p words ≡ r

pub spelled : (tag : Tag) (p q : Place) (r : Record) (bs : List ℕ) → 0 < size_of p → length bs ≡ size_of p → Bytes bs → judged tag p bs ≡ good q r → Spelled tag p q r bs
spelled tag p q r bs l n b j = go (class p.due)
  where
    go : Class p.due → Spelled tag p q r bs
    go (a_row s) =
        let w : Words = words_at bs 0 in
        let (z, x, y) = settled_good (fault_of tag p w) p (next_of p w) q (record_of p w) r (sym (judge_row tag p bs s) ∙ j) in
        record { words = w; good = record { due = l; whole = words_whole bs 0 b; fault = z }; bytes = row_bytes p w s ∙ spell_words_lem bs (n ∙ s) b; next = x; same = y }
    go (a_foot d) =
        let w : Words = words_at bs 72 in
        let (z, x, y) = settled_good (footer_fault p (footer_at bs 0)) p (next_of p w) q (record_of p w) r (sym (judge_foot tag p bs d) ∙ j) in
        record {
          words = w;
          good = record { due = l; whole = words_whole bs 72 b; fault = foot_fault tag p w d };
          bytes = foot_bytes p w d ∙ foot_back p bs (n ∙ ap size_by d) b z;
          next = x;
          same = y;
        }
    go (no_record s) = absurd (omega arith)
