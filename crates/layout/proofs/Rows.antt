-- Good rows, one after the other: a reading of their bytes gives them again, each at its position, because a row's words and its bytes
-- determine each other. Assumes nothing.
use mathlib.Core.Path.{◌≡◌, sym, ap, ◌∙◌, subst}
use mathlib.Core.List.{List, [], ◌∷◌, ◌++◌, append_assoc}
use Prim.Native.Nat.{ℕ, ◌+◌}
use native.Mathlib.Omega.{arith}
use Rattle.words.specs.Record.{Whole, spell_words}
use Rattle.words.specs.declared.Words.{Words}
use Rattle.words.specs.declared.Tag.{Tag}
use Rattle.words.proofs.Records.{words_spell, length_words}
use Rattle.cut.specs.Format.{then_run, run, good, at}
use Rattle.cut.proofs.Runs.{run_append, run_full}
use Rattle.rules.specs.Rules.{size_of, fault_of, kind_of, next_of}
use Rattle.rules.specs.declared.Place.{Place}
use Rattle.rules.specs.declared.Record.{Record}
use Rattle.rules.specs.declared.Kind.{Kind}
use Rattle.layout.specs.Layout.{Hash, Row, row, spell_rows, placed}
use Rattle.layout.specs.Scan.{judged, format}
use Rattle.layout.proofs.Judged.{judge_row, row_record}

-- a row that is due at a place and passes its checks
pub record Good (tag : Tag) (p : Place) (r : Row) : Type 0 where
  pub size : size_of p ≡ 48
  pub whole : Whole r.words
  pub fault : fault_of tag p r.words ≡ 0
  pub kind : kind_of p r.words ≡ r.kind

-- a row is its kind, its hash and four numbers
pub row_same : {k k' : Kind} (h : Hash) {a b c d a' b' c' d' : ℕ} → k ≡ k' → a ≡ a' → b ≡ b' → c ≡ c' → d ≡ d' → row k h a b c d ≡ row k' h a' b' c' d'
row_same h p q r s t = rw (p, q, r, s, t)

-- good rows lead from a place to another
unfoldable pub Goes : Tag → Place → List Row → Place → Type 0
Goes tag p [] q = p ≡ q
Goes tag p (r ∷ rs) q = Good tag p r × Goes tag (next_of p r.words) rs q

-- no row, forth and back; one row more
pub stay : (tag : Tag) {p q : Place} → p ≡ q → Goes tag p [] q
unfolding Goes
stay tag e = e

pub stayed : (tag : Tag) (p q : Place) → Goes tag p [] q → p ≡ q
unfolding Goes
stayed tag p q e = e

pub stepped : (tag : Tag) (p q : Place) (r : Row) (rs : List Row) → Goes tag p (r ∷ rs) q → Good tag p r × Goes tag (next_of p r.words) rs q
unfolding Goes
stepped tag p q r rs g = g

-- one walk after the other; from and to places that are equal to others
pub goes_append : (tag : Tag) (p q r : Place) (xs ys : List Row) → Goes tag p xs q → Goes tag q ys r → Goes tag p (xs ++ ys) r
unfolding Goes
goes_append tag p q r [] ys e g = subst (λ x. Goes tag x ys r) (sym e) g
goes_append tag p q r (x ∷ xs) ys (h, t) g = (h, goes_append tag (next_of p x.words) q r xs ys t g)

pub goes_from : (tag : Tag) (p m q : Place) (rs : List Row) → p ≡ m → Goes tag m rs q → Goes tag p rs q
goes_from tag p m q rs e t = subst (λ x. Goes tag x rs q) (sym e) t

pub goes_to : (tag : Tag) (p m q : Place) (rs : List Row) → Goes tag p rs m → m ≡ q → Goes tag p rs q
goes_to tag p m q rs t e = subst (λ x. Goes tag p rs x) e t

pub goes_cons : (tag : Tag) (p m q : Place) (r : Row) (rs : List Row) → Good tag p r → next_of p r.words ≡ m → Goes tag m rs q → Goes tag p (r ∷ rs) q
unfolding Goes
goes_cons tag p m q r rs g e t = (g, goes_from tag _ m q rs e t)

-- ## Their bytes

-- a row moves 48 bytes on
next_at : (p : Place) (w : Words) → size_of p ≡ 48 → (next_of p w).at.0 ≡ p.at.0 + 48
unfolding next_of
next_at p w e = ap (λ (n : ℕ). p.at.0 + n) e

abbrev row_at : Place → Row → Record
row_at p r = record { at = p.at; offset = record { 0 = 0 }; words = r.words; kind = r.kind }

judged_good : (tag : Tag) (p : Place) (r : Row) → Good tag p r → judged tag p (spell_words r.words) ≡ good (next_of p r.words) (row_at p r)
judged_good tag p r g = judge_row tag p (spell_words r.words) g.size ∙ rw (words_spell r.words g.whole, g.fault, row_record p r.words g.size, g.kind)

run_row : (tag : Tag) (p : Place) (r : Row) (rest : List ℕ) → Good tag p r
    → run (format tag) (at p []) (spell_words r.words ++ rest) ≡ then_run (row_at p r ∷ []) (run (format tag) (at (next_of p r.words) []) rest)
run_row tag p r rest g =
    let f = run_full (format tag) p [] (spell_words r.words) (omega arith) (omega (arith, length_words r.words)) in
    run_append (format tag) (at p []) (spell_words r.words) rest ∙ rw (f, judged_good tag p r g)

-- the bytes of good rows give the rows, placed one after the other
pub run_rows : (tag : Tag) (p q : Place) (rs : List Row) (rest : List ℕ) → Goes tag p rs q
    → run (format tag) (at p []) (spell_rows rs ++ rest) ≡ then_run (placed p.at.0 rs) (run (format tag) (at q []) rest)
unfolding Goes
run_rows tag p q [] rest e = rw e
run_rows tag p q (r ∷ rs) rest (g, t) =
    let ih = run_rows tag (next_of p r.words) q rs rest t in
    rw append_assoc (run_row tag p r (spell_rows rs ++ rest) g ∙ rw (ih, next_at p r.words g.size))
