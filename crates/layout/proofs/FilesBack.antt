-- From the rules to the tree, file blocks: good rows from a file head to the end are those of sound files that agree, and a bookend,
-- because each head says how many rows are its own. Assumes nothing.
use mathlib.Core.Path.{◌≡◌, refl, sym, ap, ap₂, ◌∙◌, subst}
use mathlib.Core.Bool.{Bool, true, false, ◌&&◌}
use mathlib.Core.List.{List, [], ◌∷◌, ◌++◌, map, append_assoc}
use Prim.Native.Nat.{ℕ, zero, suc, ◌+◌, ◌*◌, ◌≤◌, ◌<◌}
use native.Mathlib.Omega.{arith}
use lib.ListN.{length, length-append}
use lib.Dec.{eqb, lit<}
use borrow.Author.Tests.{leb-true, eqb-true}
use Rattle.words.specs.Checks.{pick}
use Rattle.words.specs.Record.{is_ones, Whole, tail_zero}
use Rattle.words.specs.declared.Words.{Words}
use Rattle.words.specs.declared.Tag.{Tag}
use Rattle.words.proofs.Zeros.{and_left, and_right}
use Rattle.words.proofs.Records.{false_ones, true_ones}
use Rattle.words.proofs.Checks.{passed}
use Rattle.rules.specs.Rules.{limit, bit31, bit30, no_other_bit, further_records, agrees, fits, fault_of, kind_of, counts, nothing, plus, with_file, next_of}
use Rattle.rules.specs.declared.Totals.{Totals}
use Rattle.rules.specs.declared.Place.{Place}
use Rattle.rules.specs.declared.Due.TheVariants.{FileHead}
use Rattle.rules.specs.Rules as rules
use Rattle.rules.specs.declared.Kind.TheVariants as kind
use Rattle.layout.specs.Layout.{joined, Hash, FileBlock, if_any, members, sum_of, Each, Row, row, flags_of, file_head_row, segment_row, verification_row, metadata_row, file_rows, bookend, Matched, SoundFile, verified}
use Rattle.layout.specs.Layout as tree
use Rattle.layout.proofs.FileEntries.{segments, VerificationsBack, verifications_back, MetadataBack, metadata_back}
use Rattle.layout.proofs.FilesForth.{length_file, further}
use Rattle.layout.proofs.Checks.{tail_zero_lem}
use Rattle.layout.proofs.Flags.{flags_by, flags_are, AgreeFrom, none_agree, agree_more}
use Rattle.layout.proofs.Entries.{Ended, not_yet, EntriesBack, entries_back}
use Rattle.layout.proofs.Places.{due_at, onward, onward_then, onward_none, past_files, into_file, after_file_head}
use Rattle.layout.proofs.Rows.{Good, row_same, Goes, stepped, goes_from}

-- what a good file head says
record FileHeadSays (p : Place) (r : Row) : Type 0 where
  is : r ≡ row kind.FileHead r.words.hash (flags_by (bit31 r.words.a) (bit30 r.words.a)) r.words.b 0 0
  agree : agrees p r.words.a ≡ true
  room : p.at.0 + 48 + 48 * further_records r.words.a r.words.b + (96 + rules.footer_size p.footer) ≤ limit

file_says : (tag : Tag) (p : Place) (r : Row) → is_ones r.words.hash ≡ false → Good tag (due_at FileHead p) r → FileHeadSays p r
unfolding fault_of kind_of
file_says tag p r n g =
    let w : Words = r.words in
    let f : rules.file_head_fault (due_at FileHead p) w ≡ 0 = ap (λ (t : Bool). pick t (rules.bookend_fault w) (rules.file_head_fault (due_at FileHead p) w)) (sym n) ∙ g.fault in
    let k : kind.FileHead ≡ r.kind = ap (λ (t : Bool). pick t kind.Bookend kind.FileHead) (sym n) ∙ g.kind in
    let (e1, z1) = passed (no_other_bit w.a && eqb w.c 0 && eqb w.d 0) 7 _ (lit< tt) f in
    let (e2, z2) = passed (agrees p w.a) 9 _ (lit< tt) z1 in
    let (e3, z3) = passed (fits p.at.0 (further_records w.a w.b) (96 + rules.footer_size p.footer)) 6 0 (lit< tt) z2 in
    record {
      is = row_same w.hash (sym k) (flags_are w.a g.whole.a (and_left _ _ (and_left _ _ e1))) refl
          (eqb-true _ _ (and_right (no_other_bit w.a) _ (and_left _ _ e1))) (eqb-true _ _ (and_right (no_other_bit w.a && eqb w.c 0) _ e1));
      agree = e2;
      room = leb-true _ _ e3;
    }

-- the two ways on from a file head
file_past : (tag : Tag) (t : Bool) (p q : Place) (r : Row) (rs : List Row) → is_ones r.words.hash ≡ t → Goes tag (next_of (due_at FileHead p) r.words) rs q
    → Goes tag (pick t (past_files p) (into_file r.words.a r.words.b p)) rs q
unfolding next_of
file_past tag t p q r rs n g = goes_from tag _ _ q rs (ap (λ (b : Bool). pick b (past_files p) (into_file r.words.a r.words.b p)) (sym n) ∙ sym (after_file_head (due_at FileHead p) r.words)) g

-- ## One file

record FileBack (tag : Tag) (p q : Place) (r : Row) (rs : List Row) : Type 0 where
  file : FileBlock
  sound : SoundFile file
  bit : verified file ≡ bit31 r.words.a
  totals : Totals
  one : totals.files ≡ 1
  rest : List Row
  rows_are : r ∷ rs ≡ file_rows file ++ rest
  agree : agrees p r.words.a ≡ true
  room : p.at.0 + 48 * length (file_rows file) + 96 + rules.footer_size p.footer ≤ limit
  goes : Goes tag (onward (48 * length (file_rows file)) totals FileHead (with_file r.words.a r.words.b p)) rest q

file_back : (tag : Tag) (p q : Place) (r : Row) (rs : List Row) → Ended q → is_ones r.words.hash ≡ false → Goes tag (due_at FileHead p) (r ∷ rs) q → FileBack tag p q r rs
unfolding file_rows
file_back tag p q r rs z n t =
    let (g, t0) = stepped tag (due_at FileHead p) q r rs t in
    let says : FileHeadSays p r = file_says tag p r n g in
    let a : ℕ = r.words.a in
    let b : ℕ = r.words.b in
    let w : Place = with_file a b p in
    let c : Totals = counts 1 0 0 0 0 in
    let p1 : Place = onward 48 c FileHead w in
    let os : EntriesBack (segments tag) b p1 q rs = entries_back (segments tag) b p1 q rs z (file_past tag false p q r rs n t0) in
    let ss : List tree.Segment = os.entries in
    let d : Totals = counts 0 (length ss) 0 0 (sum_of (λ (s : tree.Segment). s.bytes) ss) in
    let p2 : Place = onward (48 * b) d FileHead p1 in
    let ov : VerificationsBack tag p2 q os.rest = verifications_back tag p2 q os.rest z os.goes in
    let v : ℕ = length (members ov.hashes) in
    let p3 : Place = onward (48 * v) nothing FileHead p2 in
    let om : MetadataBack tag p3 q ov.rest = metadata_back tag p3 q ov.rest z ov.goes in
    let m : ℕ = length (if_any om.hash) in
    let f : FileBlock = record { hash = r.words.hash; segments = ss; verifications = ov.hashes; metadata = om.hash } in
    let u : Totals = plus c d in
    let s : ℕ = 48 + 48 * b + 48 * v in
    let e2 : p2 ≡ onward (48 + 48 * b) u FileHead w = onward_then 48 (48 * b) (48 + 48 * b) c d u FileHead FileHead w refl (refl, refl, refl, refl, refl) in
    let e3 : p3 ≡ onward s u FileHead w = ap (onward (48 * v) nothing FileHead) e2 ∙ onward_then (48 + 48 * b) (48 * v) s u nothing u FileHead FileHead w refl (omega arith) in
    let k : length (file_rows f) ≡ suc (length ss + (v + m)) = length_file f in
    let kb : length ss ≡ b = os.count in
    let e4 : onward (48 * m) nothing FileHead p3 ≡ onward (48 * length (file_rows f)) u FileHead w = ap (onward (48 * m) nothing FileHead) e3
    ∙ onward_then s (48 * m) (48 * length (file_rows f)) u nothing u FileHead FileHead w (omega arith) (omega arith) in
    let fl : flags_by (bit31 a) (bit30 a) ≡ flags_of f = ap₂ flags_by (sym ov.bit) (sym om.bit) in
    let fa : a ≡ flags_of f = ap (λ (x : Row). x.words.a) says.is ∙ fl in
    let head : r ≡ file_head_row f = says.is ∙ row_same r.words.hash refl fl (sym kb) refl refl in
    let mt : Matched ov.hashes (length ss) = subst (Matched ov.hashes) (sym kb) ov.matched in
    let fr : further_records a b ≡ length ss + (v + m) = ap₂ further_records fa (sym kb) ∙ further f mt in
    record {
      file = f;
      sound = record { hash = g.whole.hash; not_ones = false_ones r.words.hash n; segments = os.sound; verifications = ov.sound; matched = mt; metadata = om.sound };
      bit = ov.bit;
      totals = u;
      one = refl;
      rest = om.rest;
      rows_are = ap₂ (λ (x : Row) (y : List Row). x ∷ y) head
          (os.rows_are ∙ ap (λ (y : List Row). map segment_row ss ++ y) (ov.rows_are ∙ ap (λ (y : List Row). map verification_row (members ov.hashes) ++ y) om.rows_are
          ∙ sym (append_assoc (map verification_row (members ov.hashes)) (map metadata_row (if_any om.hash)) om.rest))
          ∙ sym (append_assoc (map segment_row ss) (map verification_row (members ov.hashes) ++ map metadata_row (if_any om.hash)) om.rest));
      agree = says.agree;
      room = omega arith;
      goes = goes_from tag _ _ q om.rest (sym e4) om.goes;
    }

-- ## The section's bookend

pub bookend_is : (r : Row) → Whole r.words → is_ones r.words.hash ≡ true → rules.bookend_fault r.words ≡ 0 → kind.Bookend ≡ r.kind → r ≡ bookend
bookend_is r h o f k =
    let (e1, z1) = passed (tail_zero r.words) 8 0 (lit< tt) f in
    let (a, b, c, d) = tail_zero_lem r.words e1 in
    row_same r.words.hash (sym k) a b c d ∙ ap (λ (x : Hash). row kind.Bookend x 0 0 0 0) (true_ones r.words.hash h.hash o)

first_bookend_of : (tag : Tag) (p : Place) (r : Row) → is_ones r.words.hash ≡ true → Good tag (due_at FileHead p) r → r ≡ bookend
unfolding fault_of kind_of
first_bookend_of tag p r o g = bookend_is r g.whole o
    (ap (λ (t : Bool). pick t (rules.bookend_fault r.words) (rules.file_head_fault (due_at FileHead p) r.words)) (sym o) ∙ g.fault)
    (ap (λ (t : Bool). pick t kind.Bookend kind.FileHead) (sym o) ∙ g.kind)

-- ## All files

pub record FilesBack (tag : Tag) (p q : Place) (rows : List Row) : Type 0 where
  pub files : List FileBlock
  pub sound : Each SoundFile files
  pub agree : AgreeFrom p.totals.files p.flags files
  pub flags : ℕ
  pub entries : ℕ
  pub totals : Totals
  pub rest : List Row
  pub rows_are : rows ≡ joined file_rows files ++ (bookend ∷ rest)
  pub room : p.at.0 + 48 * length (joined file_rows files) + 96 + rules.footer_size p.footer ≤ limit
  pub goes : Goes tag (past_files (onward (48 * length (joined file_rows files)) totals FileHead (with_file flags entries p))) rest q

files_more : (tag : Tag) (p q : Place) (r : Row) (rs : List Row) (o : FileBack tag p q r rs)
    → FilesBack tag (onward (48 * length (file_rows o.file)) o.totals FileHead (with_file r.words.a r.words.b p)) q o.rest → FilesBack tag p q (r ∷ rs)
files_more tag p q r rs o m =
    let f : FileBlock = o.file in
    let fs : List FileBlock = m.files in
    let k : length (file_rows f ++ joined file_rows fs) ≡ length (file_rows f) + length (joined file_rows fs) = length-append (file_rows f) (joined file_rows fs) in
    let w : Place = with_file m.flags m.entries p in
    let e : onward (48 * length (joined file_rows fs)) m.totals FileHead (onward (48 * length (file_rows f)) o.totals FileHead w)
    ≡ onward (48 * length (file_rows f ++ joined file_rows fs)) (plus o.totals m.totals) FileHead w
    = onward_then (48 * length (file_rows f)) (48 * length (joined file_rows fs)) (48 * length (file_rows f ++ joined file_rows fs)) o.totals m.totals (plus o.totals m.totals) FileHead FileHead
    w (omega arith) (refl, refl, refl, refl, refl) in
    let a : AgreeFrom (p.totals.files + 1) r.words.a fs = subst (λ (n : ℕ). AgreeFrom (p.totals.files + n) r.words.a fs) o.one m.agree in
    record {
      files = f ∷ fs;
      sound = (o.sound, m.sound);
      agree = agree_more p.totals.files p.flags r.words.a f fs o.bit o.agree a;
      flags = m.flags;
      entries = m.entries;
      totals = plus o.totals m.totals;
      rest = m.rest;
      rows_are = o.rows_are ∙ ap (λ (y : List Row). file_rows f ++ y) m.rows_are ∙ sym (append_assoc (file_rows f) (joined file_rows fs) (bookend ∷ m.rest));
      room = omega arith;
      goes = goes_from tag _ _ q m.rest (ap past_files (sym e)) m.goes;
    }

file_shorter : (f : FileBlock) (r : Row) (rs rest : List Row) → r ∷ rs ≡ file_rows f ++ rest → length rest < length (r ∷ rs)
file_shorter f r rs rest e =
    let x : length (r ∷ rs) ≡ length (file_rows f) + length rest = ap length e ∙ length-append (file_rows f) rest in
    omega (arith, length_file f)

-- k is above the number of rows
pub files_back : (tag : Tag) (k : ℕ) (p q : Place) (rows : List Row) → length rows < k → Ended q → p.at.0 + 96 + rules.footer_size p.footer ≤ limit
    → Goes tag (due_at FileHead p) rows q → FilesBack tag p q rows
files_back tag zero p q rows l z room t = absurd (omega arith)
files_back tag (suc k) p q [] l z room t = absurd (not_yet tag FileHead p q refl t z)
files_back tag (suc k) p q (r ∷ rs) l z room t = go (is_ones r.words.hash) refl (files_back tag k)
  where
    go : (b : Bool) → is_ones r.words.hash ≡ b
        → ((p q : Place) (rows : List Row) → length rows < k → Ended q → p.at.0 + 96 + rules.footer_size p.footer ≤ limit → Goes tag (due_at FileHead p) rows q → FilesBack tag p q rows)
        → FilesBack tag p q (r ∷ rs)
    go true n ih =
        let (g, t1) = stepped tag (due_at FileHead p) q r rs t in
        record {
          files = [];
          sound = tt;
          agree = none_agree p.totals.files p.flags;
          flags = p.flags;
          entries = p.entries;
          totals = nothing;
          rest = rs;
          rows_are = ap (λ (x : Row). x ∷ rs) (first_bookend_of tag p r n g);
          room = omega arith;
          goes = goes_from tag _ _ q rs (ap past_files (sym (onward_none FileHead p))) (file_past tag true p q r rs n t1);
        }
    go false n ih =
        let o : FileBack tag p q r rs = file_back tag p q r rs z n t in
        let s : length o.rest < length (r ∷ rs) = file_shorter o.file r rs o.rest o.rows_are in
        files_more tag p q r rs o (ih (onward (48 * length (file_rows o.file)) o.totals FileHead (with_file r.words.a r.words.b p)) q o.rest (omega arith) z (omega (arith, o.room)) o.goes)
