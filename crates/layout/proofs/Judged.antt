-- One record, judged: it is good exactly if the rules' number for it is 0, and then the next place and its counts are the rules' own,
-- because what is due tells rows from footers. Assumes nothing.
use mathlib.Core.Path.{◌≡◌, refl, sym, ap, ◌∙◌, subst}
use mathlib.Core.Logic.{◌≢◌}
use mathlib.Core.Bool.{false}
use mathlib.Core.List.{List, ◌++◌}
use Prim.Native.Nat.{ℕ, zero, suc, ◌+◌, ◌<◌}
use native.Mathlib.Omega.{arith}
use lib.ListN.{length}
use lib.Seq.{take_at, drop_at, get_or-drop}
use Rattle.words.specs.Record.{Whole, words_at, footer_at}
use Rattle.words.specs.Le.{Bytes}
use Rattle.words.specs.declared.Words.{Words}
use Rattle.words.specs.declared.Tag.{Tag}
use Rattle.words.proofs.Numbers.{take_bytes}
use Rattle.words.proofs.Records.{words_whole}
use Rattle.cut.specs.Format.{good, bad}
use Rattle.rules.specs.Rules.{size_by, footer_due, size_of, words_in, fault_in, footer_fault, fault_by, fault_of, kind_of, record_of, next_of}
use Rattle.rules.specs.Verdicts.{refused}
use Rattle.rules.specs.declared.Place.{Place}
use Rattle.rules.specs.declared.Record.{Record}
use Rattle.rules.specs.declared.Due.{Due}
use Rattle.rules.specs.declared.Due.TheVariants.{Header, FileHead, Segment, Verification, Metadata, XorbHead, Chunk, Footer, End, Refused}
use Rattle.layout.specs.Scan.{settled, judged, with_record}

-- ## What is due

pub data Class (d : Due) : Type 0 where
  a_row : size_by d ≡ 48 → Class d
  a_foot : d ≡ Footer → Class d
  no_record : size_by d ≡ 0 → Class d

pub class : (d : Due) → Class d
class Header = a_row refl
class FileHead = a_row refl
class (Segment left) = a_row refl
class (Verification left) = a_row refl
class Metadata = a_row refl
class XorbHead = a_row refl
class (Chunk left sum total) = a_row refl
class Footer = a_foot refl
class End = no_record refl
class (Refused n) = no_record refl

-- a row is no footer
pub row_due : (d : Due) → size_by d ≡ 48 → footer_due d ≡ false
row_due Header e = refl
row_due FileHead e = refl
row_due (Segment left) e = refl
row_due (Verification left) e = refl
row_due Metadata e = refl
row_due XorbHead e = refl
row_due (Chunk left sum total) e = refl
row_due Footer e = absurd (omega arith)
row_due End e = refl
row_due (Refused n) e = refl

-- what a whole record says, and how it is handed out, where a row is due and where the footer is
pub judge_row : (tag : Tag) (p : Place) (bs : List ℕ) → size_of p ≡ 48 → judged tag p bs ≡ settled (fault_of tag p (words_at bs 0)) p (record_of p (words_at bs 0)) (next_of p (words_at bs 0))
judge_row tag p bs e = rw (row_due p.due e)

pub judge_foot : (tag : Tag) (p : Place) (bs : List ℕ) → p.due ≡ Footer → judged tag p bs ≡ settled (footer_fault p (footer_at bs 0)) p (record_of p (words_at bs 72)) (next_of p (words_at bs 72))
judge_foot tag p bs d = rw d

pub row_record : (p : Place) (w : Words) → size_of p ≡ 48 → record_of p w ≡ record { at = p.at; offset = record { 0 = 0 }; words = w; kind = kind_of p w }
unfolding record_of
row_record p w e = rw (row_due p.due e)

pub foot_record_lem : (p : Place) (w : Words) → p.due ≡ Footer → record_of p w ≡ record { at = p.at; offset = p.offset; words = w; kind = kind_of p w }
unfolding record_of
foot_record_lem p w d = rw d

-- ## Good or bad

pub settled_good : (n : ℕ) (p x q : Place) (s r : Record) → settled n p s x ≡ good q r → (n ≡ 0) × (x ≡ q) × (s ≡ r)
settled_good zero p x q s r e = (refl, cc, cc)
settled_good (suc n) p x q s r e = let z : ◌≡◌ {A = ℕ} 0 1 = cc in absurd (omega arith)

settled_bad : (n : ℕ) (p x f : Place) (s : Record) → settled n p s x ≡ bad f → (n ≢ 0) × (f ≡ refused n p)
settled_bad zero p x f s e = let z : ◌≡◌ {A = ℕ} 0 1 = cc in absurd (omega arith)
settled_bad (suc n) p x f s e = ((λ z. omega arith), cc)

-- a bad record stops with its number
pub bad_is : (tag : Tag) (p f : Place) (bs : List ℕ) → judged tag p bs ≡ bad f → (fault_in tag p bs ≢ 0) × (f ≡ refused (fault_in tag p bs) p)
bad_is tag p f bs e = settled_bad (fault_in tag p bs) p (next_of p (words_in p bs)) f (record_of p (words_in p bs)) e

-- a good record is counted, and leads to the next place
pub record GoodIs (tag : Tag) (p q : Place) (r : Record) (bs : List ℕ) : Type 0 where
  pub words : Words
  pub whole : Bytes bs → Whole words
  pub fault : fault_of tag p words ≡ 0
  pub next : next_of p words ≡ q
  pub counted : q.totals ≡ with_record p.totals r

pub good_is : (tag : Tag) (p q : Place) (r : Record) (bs : List ℕ) → 0 < size_of p → judged tag p bs ≡ good q r → GoodIs tag p q r bs
unfolding next_of kind_of fault_of record_of
good_is tag p q r bs l e = go (class p.due)
  where
    go : Class p.due → GoodIs tag p q r bs
    go (a_row s) =
        let w : Words = words_at bs 0 in
        let (z, x, y) = settled_good (fault_of tag p w) p (next_of p w) q (record_of p w) r (sym (judge_row tag p bs s) ∙ e) in
        record { words = w; whole = words_whole bs 0; fault = z; next = x; counted = ap (λ (m : Place). m.totals) (sym x) ∙ ap (with_record p.totals) y }
    go (a_foot d) =
        let w : Words = words_at bs 72 in
        let (z, x, y) = settled_good (footer_fault p (footer_at bs 0)) p (next_of p w) q (record_of p w) r (sym (judge_foot tag p bs d) ∙ e) in
        record { words = w; whole = words_whole bs 72; fault = ap (λ (x : Due). fault_by x tag p w) d; next = x; counted = ap (λ (m : Place). m.totals) (sym x) ∙ ap (with_record p.totals) y }
    go (no_record s) = absurd (omega arith)

-- ## Bytes of parts

pub bytes_left : (xs ys : List ℕ) → Bytes (xs ++ ys) → Bytes xs
bytes_left xs ys b = subst Bytes (take_at xs ys (length xs) refl) (take_bytes (length xs) (xs ++ ys) b)

pub bytes_right : (xs ys : List ℕ) → Bytes (xs ++ ys) → Bytes ys
bytes_right xs ys b = subst Bytes (drop_at xs ys (length xs) refl) (λ i. rw get_or-drop (b (length xs + i)))
