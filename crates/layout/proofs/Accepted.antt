-- From bytes to rows: accepted bytes are those of good rows, and after them nothing, or a good footer where one is due,
-- because the words of 48 bytes spell them again. Assumes nothing.
use mathlib.Core.Path.{◌≡◌, refl, sym, ap, ap₂, ◌∙◌, subst}
use mathlib.Core.List.{List, [], ◌∷◌, ◌++◌, append_assoc, append-nil}
use Prim.Native.Nat.{ℕ}
use native.Mathlib.Omega.{arith}
use lib.ListN.{length}
use Rattle.words.specs.Record.{tag_at, words_at, spell_words, footer_at}
use Rattle.words.specs.Le.{Bytes}
use Rattle.words.specs.declared.Words.{Words}
use Rattle.words.specs.declared.Tag.{Tag}
use Rattle.words.proofs.Records.{spell_words_lem, words_whole}
use Rattle.cut.specs.Fate.{none, Reads, more}
use Rattle.cut.specs.Format.{good}
use Rattle.rules.specs.Rules.{size_by, size_of, footer_fault, fault_of, kind_of, record_of, due_by, next_of, start}
use Rattle.rules.specs.declared.Place.{Place}
use Rattle.rules.specs.declared.Record.{Record}
use Rattle.rules.specs.declared.Due.{Due}
use Rattle.rules.specs.Verdicts.{Verdict}
use Rattle.rules.specs.declared.Due.TheVariants.{Footer, End}
use Rattle.layout.specs.Layout.{Row, spell_rows}
use Rattle.layout.specs.Refusal.{Ends, FateClaim, early, done, over, faulty}
use Rattle.layout.specs.Scan.{judged, format, found_in, IsAccepted}
use Rattle.layout.proofs.Judged.{a_row, a_foot, no_record, Class, class, judge_row, judge_foot, settled_good, bytes_left, bytes_right}
use Rattle.layout.proofs.Rows.{Goes, stay, goes_cons}

-- what may stand behind the last row: nothing at the end, or a good footer where one is due
pub data Tail (p : Place) (bs : List ℕ) : Type 0 where
  no_footer : p.due ≡ End → bs ≡ [] → Tail p bs
  a_footer : p.due ≡ Footer → length bs ≡ 200 → Bytes bs → footer_fault p (footer_at bs 0) ≡ 0 → Tail p bs

pub record Out (four : Tag) (p : Place) (bs : List ℕ) : Type 0 where
  pub rows : List Row
  pub last : Place
  pub rest : List ℕ
  pub goes : Goes four p rows last
  pub bytes : bs ≡ spell_rows rows ++ rest
  pub tail : Tail last rest

-- no row before the rest
out_none : (four : Tag) (p : Place) (bs : List ℕ) → Tail p bs → Out four p bs
out_none four p bs x = record { rows = []; last = p; rest = bs; goes = stay four refl; bytes = refl; tail = x }

-- one row more
out_more : (four : Tag) (p q : Place) (r : Record) (xs bs : List ℕ) → size_of p ≡ 48 → length xs ≡ 48 → Bytes xs → judged four p xs ≡ good q r → Out four q bs → Out four p (xs ++ bs)
out_more four p q r xs bs s l b j o =
    let w : Words = words_at xs 0 in
    let (z, x, y) = settled_good (fault_of four p w) p (next_of p w) q (record_of p w) r (sym (judge_row four p xs s) ∙ j) in
    let row : Row = record { kind = kind_of p w; words = w } in
    record {
      rows = row ∷ o.rows;
      last = o.last;
      rest = o.rest;
      goes = goes_cons four p q o.last row o.rows (record { size = s; whole = words_whole xs 0 b; fault = z; kind = refl }) x o.goes;
      bytes = ap₂ (λ (u v : List ℕ). u ++ v) (sym (spell_words_lem xs l b)) o.bytes ∙ sym (append_assoc (spell_words w) (spell_rows o.rows) o.rest);
      tail = o.tail;
    }

-- where nothing is due, no more is read
no_more : (four : Tag) {p q : Place} {bs : List ℕ} {rs : List Record} → Reads (format four) p bs rs q → size_of p ≡ 0 → bs ≡ []
no_more four none e = refl
no_more four (more l n j t) e = absurd (omega arith)

out_foot : (four : Tag) (p q : Place) (r : Record) (xs bs : List ℕ) → p.due ≡ Footer → length xs ≡ size_of p → Bytes xs → judged four p xs ≡ good q r → (size_of q ≡ 0 → bs ≡ []) → Out four p (xs ++ bs)
unfolding next_of
out_foot four p q r xs bs d l b j f =
    let w : Words = words_at xs 72 in
    let (z, x, y) = settled_good (footer_fault p (footer_at xs 0)) p (next_of p w) q (record_of p w) r (sym (judge_foot four p xs d) ∙ j) in
    let n : q.due ≡ End = ap (λ (m : Place). m.due) (sym x) ∙ ap (λ (e : Due). due_by e p w) d in
    let e : xs ++ bs ≡ xs = ap (λ (y : List ℕ). xs ++ y) (f (ap size_by n)) ∙ append-nil xs in
    subst (Out four p) (sym e) (out_none four p xs (a_footer d (l ∙ ap size_by d) b z))

-- good records that lead to the end
out_reads : (four : Tag) {p q : Place} {bs : List ℕ} {rs : List Record} → Reads (format four) p bs rs q → q.due ≡ End → Bytes bs → Out four p bs
out_reads four (none {p = p}) e b = out_none four p [] (no_footer e refl)
out_reads four (more {p = p} {q = q} {r = r} {xs = xs} {bs = bs} l n j t) e b = go (class p.due) (out_reads four t e (bytes_right xs bs b))
  where
    go : Class p.due → Out four q bs → Out four p (xs ++ bs)
    go (a_row s) o = out_more four p q r xs bs s (n ∙ s) (bytes_left xs bs b) j o
    go (a_foot d) o = out_foot four p q r xs bs d n (bytes_left xs bs b) j (no_more four t)
    go (no_record s) o = absurd (omega arith)

ends_accepted : (four : Tag) (p : Place) (rest : List ℕ) {v : Verdict} → Ends four p rest v → IsAccepted v → (p.due ≡ End) × (rest ≡ [])
ends_accepted four p rest (early l) a = absurd a
ends_accepted four p rest (done d e) a = (d, e)
ends_accepted four p rest (over d n) a = absurd a
ends_accepted four p rest (faulty s l n) a = absurd a

pub out : (tag bytes : List ℕ) → FateClaim tag bytes → Bytes bytes → IsAccepted (found_in tag bytes).verdict → Out (tag_at tag) start bytes
out tag bytes f b a =
    let (d, e) = ends_accepted (tag_at tag) f.place f.rest f.ends a in
    let s : bytes ≡ f.before = f.split ∙ ap (λ (y : List ℕ). f.before ++ y) e ∙ append-nil f.before in
    subst (Out (tag_at tag) start) (sym s) (out_reads (tag_at tag) f.reads d (subst Bytes s b))
