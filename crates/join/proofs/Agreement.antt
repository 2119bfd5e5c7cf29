-- Files agree about bit 31 in two lists joined exactly if they do in each and their first ones do, because all agree with the first. Assumes nothing.
use mathlib.Core.Path.{◌≡◌, refl, sym, ap, ◌∙◌, subst}
use mathlib.Core.Bool.{Bool, true}
use mathlib.Core.Option.{none}
use mathlib.Core.List.{List, [], ◌∷◌, ◌++◌, append_assoc}
use Prim.Native.Nat.{ℕ}
use native.Mathlib.Omega.{arith}
use lib.Dec.{eqb-suc-zero}
use lib.ListN.{length, take, drop}
use lib.Seq.{take_at, drop_at}
use Rattle.words.specs.Le.{Bytes}
use Rattle.words.specs.Record.{Whole, tag_at, words_at, spell_words}
use Rattle.words.specs.declared.Words.{Words}
use Rattle.words.specs.declared.Tag.{Tag}
use Rattle.words.proofs.Parts.{words_there}
use Rattle.words.proofs.Records.{words_spell, length_words}
use Rattle.rules.specs.Rules.{same31, start, next_of}
use Rattle.rules.specs.declared.Place.{Place}
use Rattle.layout.specs.Layout.{FileBlock, Shard, Row, Each, has, verified, flags_of, Agree, joined, file_rows, file_head_row, header_row, bookend, file_section, xorb_section, rows_of, spell_rows}
use Rattle.layout.proofs.Flags.{flags_31, bit_same, same_bit}
use Rattle.layout.proofs.Lists.{each_append, each_first, each_second}
use Rattle.layout.proofs.Rows.{Goes, stepped}
use Rattle.layout.proofs.ShardForth.{shard_go}
use Rattle.layout.proofs.Last.{Spelling}
use Rattle.join.specs.Join.{first_flags, agree_by}
use Rattle.join.specs.Claims.{firsts_agree}
use Rattle.join.proofs.Spelled.{head_bytes, file_bytes, end_bytes, xorb_bytes, in_order, bytes_are}

-- ## Joined

abbrev All : Bool → List FileBlock → Type 0
All v fs = Each (λ f. verified f ≡ v) fs

-- the first ones agree, where both lists have one
abbrev pub SameFirst : List FileBlock → List FileBlock → Type 0
SameFirst [] gs = Unit {0}
SameFirst (f ∷ fs) [] = Unit {0}
SameFirst (f ∷ fs) (g ∷ gs) = verified g ≡ verified f

pub agree_both : (fs gs : List FileBlock) → Agree fs → Agree gs → SameFirst fs gs → Agree (fs ++ gs)
agree_both [] gs a b e = b
agree_both (f ∷ fs) [] a b e = each_append (λ h. verified h ≡ verified f) fs [] a tt
agree_both (f ∷ fs) (g ∷ gs) a b e = each_append (λ h. verified h ≡ verified f) fs (g ∷ gs) a (e, subst (λ (v : Bool). All v gs) e b)

pub agree_first : (fs gs : List FileBlock) → Agree (fs ++ gs) → Agree fs
agree_first [] gs a = tt
agree_first (f ∷ fs) gs a = each_first (λ h. verified h ≡ verified f) fs gs a

pub agree_second : (fs gs : List FileBlock) → Agree (fs ++ gs) → Agree gs
agree_second [] gs a = a
agree_second (f ∷ fs) [] a = tt
agree_second (f ∷ fs) (g ∷ gs) a = let (e, b) = each_second (λ h. verified h ≡ verified f) fs (g ∷ gs) a in subst (λ (v : Bool). All v gs) (sym e) b

pub agree_firsts : (fs gs : List FileBlock) → Agree (fs ++ gs) → SameFirst fs gs
agree_firsts [] gs a = tt
agree_firsts (f ∷ fs) [] a = tt
agree_firsts (f ∷ fs) (g ∷ gs) a = (each_second (λ h. verified h ≡ verified f) fs (g ∷ gs) a).0

-- ## The test, by the flags

same_flags : (f g : FileBlock) → verified g ≡ verified f → same31 (flags_of f) (flags_of g) ≡ true
same_flags f g e = bit_same (flags_of f) (flags_of g) (flags_31 (verified f) (has f.metadata) ∙ sym e ∙ sym (flags_31 (verified g) (has g.metadata)))

flags_same : (f g : FileBlock) → same31 (flags_of f) (flags_of g) ≡ true → verified g ≡ verified f
flags_same f g e = sym (flags_31 (verified g) (has g.metadata)) ∙ sym (same_bit (flags_of f) (flags_of g) e) ∙ flags_31 (verified f) (has f.metadata)

-- ## The flags of the first file

-- its numbers fit in their fields, because its row is a good one
whole_first : (four : Tag) (q : Place) (h : Row) (l : List FileBlock) (rs more : List Row) (f : FileBlock) (fs : List FileBlock) → l ≡ f ∷ fs
    → Goes four start (h ∷ (joined file_rows l ++ rs ++ more)) q → Whole (file_head_row f).words
unfolding file_rows
whole_first four q h l rs more f fs e g =
    let g₁ : Goes four start (h ∷ (joined file_rows (f ∷ fs) ++ rs ++ more)) q = rw e at g in
    let (a, g₂) = stepped four start q h (joined file_rows (f ∷ fs) ++ rs ++ more) g₁ in
    let (b, g₃) = stepped four (next_of start h.words) q (file_head_row f) _ g₂ in
    b.whole

first_bytes : (l : List FileBlock) (f : FileBlock) (fs : List FileBlock) → l ≡ f ∷ fs → (rest : List ℕ) → take 48 (spell_rows (joined file_rows l) ++ rest) ≡ spell_words (file_head_row f).words
unfolding file_rows
first_bytes l f fs e rest = rw e (take_48 (spell_words (file_head_row f).words) _ rest (length_words (file_head_row f).words))
  where
    take_48 : (w more rest : List ℕ) → length w ≡ 48 → take 48 (w ++ more ++ rest) ≡ w
    take_48 w more rest n = rw append_assoc (take_at w (more ++ rest) 48 n)

first_flags_lem : (tag bytes : List ℕ) (s : Shard) (f : FileBlock) (fs : List FileBlock) → Bytes tag → Spelling tag bytes s → s.footer ≡ none → s.files ≡ f ∷ fs → first_flags bytes ≡ flags_of f
unfolding rows_of file_section
first_flags_lem tag bytes s f fs b o e h =
    let go = shard_go tag s b o.spells.sound in
    let w : Words = (file_head_row f).words in
    let k : Whole w = whole_first (tag_at tag) go.last (header_row tag s) s.files (bookend ∷ []) (xorb_section s) f fs h go.goes in
    let a : bytes ≡ in_order (head_bytes tag) end_bytes (file_bytes s) (xorb_bytes s) = sym o.spells.spelled ∙ bytes_are tag s e in
    let d : drop 48 bytes ≡ file_bytes s ++ (end_bytes ++ (xorb_bytes s ++ end_bytes)) = ap (drop 48) a ∙ drop_at (head_bytes tag) _ 48 (length_words _) in
    let r : words_at bytes 48 ≡ w = sym (words_there 48 bytes 48 0 48 (omega arith) (omega arith)) ∙ ap (λ (x : List ℕ). words_at (take 48 x) 0) d
    ∙ ap (λ (x : List ℕ). words_at x 0) (first_bytes s.files f fs h (end_bytes ++ (xorb_bytes s ++ end_bytes))) ∙ words_spell w k in
    ap (λ (x : Words). x.a) r

-- ## The test is whether the first files agree

abbrev FlagsAre : ℕ → List FileBlock → Type 0
FlagsAre a [] = Unit {0}
FlagsAre a (f ∷ fs) = a ≡ flags_of f

test_is : (fs gs : List FileBlock) (a b : ℕ) → FlagsAre a fs → FlagsAre b gs → agree_by (length fs) (length gs) (same31 a b) ≡ firsts_agree fs gs
test_is [] gs a b ea eb = refl
test_is (f ∷ fs) [] a b ea eb = rw (eqb-suc-zero (length fs))
test_is (f ∷ fs) (g ∷ gs) a b ea eb = rw (eqb-suc-zero (length fs), eqb-suc-zero (length gs), ea, eb)

pub test_firsts : (fs gs : List FileBlock) → firsts_agree fs gs ≡ true → SameFirst fs gs
test_firsts [] gs h = tt
test_firsts (f ∷ fs) [] h = tt
test_firsts (f ∷ fs) (g ∷ gs) h = flags_same f g h

pub firsts_test : (fs gs : List FileBlock) → SameFirst fs gs → firsts_agree fs gs ≡ true
firsts_test [] gs h = refl
firsts_test (f ∷ fs) [] h = refl
firsts_test (f ∷ fs) (g ∷ gs) h = same_flags f g h

flags_are : (tag bytes : List ℕ) (s : Shard) → Bytes tag → Spelling tag bytes s → s.footer ≡ none → FlagsAre (first_flags bytes) s.files
flags_are tag bytes s b o e = go s.files refl
  where
    go : (l : List FileBlock) → s.files ≡ l → FlagsAre (first_flags bytes) l
    go [] h = tt
    go (f ∷ fs) h = first_flags_lem tag bytes s f fs b o e h

pub test_agrees : (tag first second : List ℕ) (s t : Shard) → Bytes tag → Spelling tag first s → Spelling tag second t → s.footer ≡ none → t.footer ≡ none
    → agree_by (length s.files) (length t.files) (same31 (first_flags first) (first_flags second)) ≡ firsts_agree s.files t.files
test_agrees tag first second s t b o p es et = test_is s.files t.files _ _ (flags_are tag first s b o es) (flags_are tag second t b p et)
