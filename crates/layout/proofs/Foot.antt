-- The footer, forth and back: its 200 bytes and what they say determine each other, because its parts lie side by side, each a number, a hash
-- or zeros. Assumes nothing.
use mathlib.Core.Path.{◌≡◌, refl, sym, ap, ◌∙◌}
use mathlib.Core.Bool.{Bool, true, ◌&&◌}
use mathlib.Core.List.{List, [], ◌∷◌}
use Prim.Native.Nat.{ℕ, ◌^◌, ◌<◌}
use native.Mathlib.Omega.{arith}
use lib.ListN.{length}
use lib.Seq.{take_all}
use lib.Dec.{eqb, lit<}
use borrow.Author.Tests.{eqb-true, eq-eqb}
use Rattle.words.specs.Checks.{◌unless◌then◌, fine}
use Rattle.words.specs.Record.{Whole, words_at, footer_at, spell_hash, spell_words, spell_footer}
use Rattle.words.specs.Le.{Bytes, le_at, le_num, spell, zeros_at, long}
use Rattle.words.specs.declared.Words.{Words}
use Rattle.words.specs.declared.Tag.{Tag}
use Rattle.words.proofs.Numbers.{num_spell, spell_at, part_then}
use Rattle.words.proofs.Zeros.{and_left, and_right, zeros_part}
use Rattle.words.proofs.Records.{words_same, spell_words_at, length_footer, footer_words}
use Rattle.words.proofs.Checks.{passed}
use Rattle.cut.specs.Format.{settle, run, at}
use Rattle.cut.proofs.Runs.{run_full}
use Rattle.rules.specs.Rules.{size_by, size_of, footer_fault, record_of, next_of}
use Rattle.rules.specs.declared.Place.{Place}
use Rattle.rules.specs.declared.Due.TheVariants.{Footer}
use Rattle.layout.specs.Layout.{Foot, foot_words, SoundFoot}
use Rattle.layout.specs.Scan.{judged, format}
use Rattle.layout.proofs.Judged.{judge_foot}

-- ## The words at 72

abbrev pub foot_of : Words → Foot
foot_of w = record { key = w.hash; created = long w.a w.b; expiry = long w.c w.d }

pub sound_foot : (w : Words) → Whole w → SoundFoot (foot_of w)
sound_foot w h = record { key = h.hash; created = omega arith; expiry = omega arith }

pub foot_of_lem : (w : Words) → Whole w → foot_words (foot_of w) ≡ w
foot_of_lem w h = words_same refl (omega arith) (omega arith) (omega arith) (omega arith)

pub whole_foot : (f : Foot) → SoundFoot f → Whole (foot_words f)
whole_foot f h = record { hash = h.key; a = omega arith; b = omega arith; c = omega arith; d = omega arith }

-- ## Forth

pass5 : (a b c d e : Bool) (v w x y z : ℕ) → a ≡ true → b ≡ true → c ≡ true → d ≡ true → e ≡ true
    → (v unless a then w unless b then x unless c then y unless d then z unless e then fine) ≡ 0
pass5 a b c d e v w x y z p q r s t = rw (p, q, r, s, t)

foot_fine : (p : Place) (w : Words) → p.offset.0 < 2 ^ 64 → p.at.0 < 2 ^ 64 → footer_fault p (footer_at (spell_footer p.offset.0 p.at.0 w) 0) ≡ 0
unfolding spell_footer spell_words spell spell_hash le_at le_num zeros_at
foot_fine p w lx lh =
    let s : List ℕ = spell_footer p.offset.0 p.at.0 w in
    pass5 (eqb (le_at 8 s 0) 1) (eqb (le_at 8 s 8) 48) (eqb (le_at 8 s 16) p.offset.0) (eqb (le_at 8 s 192) p.at.0) (zeros_at 48 s 24 && zeros_at 72 s 120) 12 13 13 13 7
    refl refl (eq-eqb _ _ (num_spell 8 p.offset.0 lx)) (eq-eqb _ _ (num_spell 8 p.at.0 lh)) refl

-- where a footer is due, its bytes give its record and the end
pub foot_run : (tag : Tag) (p : Place) (w : Words) → p.due ≡ Footer → p.offset.0 < 2 ^ 64 → p.at.0 < 2 ^ 64 → Whole w
    → run (format tag) (at p []) (spell_footer p.offset.0 p.at.0 w) ≡ record { recs = record_of p w ∷ []; state = at (next_of p w) [] }
foot_run tag p w d lx lh ok =
    let s : List ℕ = spell_footer p.offset.0 p.at.0 w in
    let n : size_of p ≡ 200 = ap size_by d in
    let r : run (format tag) (at p []) s ≡ settle (judged tag p s) = run_full (format tag) p [] s (omega arith) (omega (arith, length_footer p.offset.0 p.at.0 w)) in
    r ∙ ap settle (judge_foot tag p s d) ∙ rw (foot_fine p w lx lh, footer_words p.offset.0 p.at.0 w ok)

-- ## Back

-- bytes that pass the footer's checks are those that its words spell
pub foot_back : (p : Place) (bs : List ℕ) → length bs ≡ 200 → Bytes bs → footer_fault p (footer_at bs 0) ≡ 0 → spell_footer p.offset.0 p.at.0 (words_at bs 72) ≡ bs
unfolding spell_footer
foot_back p bs l b z =
    let (e1, z1) = passed (eqb (le_at 8 bs 0) 1) 12 _ (lit< tt) z in
    let (e2, z2) = passed (eqb (le_at 8 bs 8) 48) 13 _ (lit< tt) z1 in
    let (e3, z3) = passed (eqb (le_at 8 bs 16) p.offset.0) 13 _ (lit< tt) z2 in
    let (e4, z4) = passed (eqb (le_at 8 bs 192) p.at.0) 13 _ (lit< tt) z3 in
    let (e5, z5) = passed (zeros_at 48 bs 24 && zeros_at 72 bs 120) 7 0 (lit< tt) z4 in
    part_then 192 8 bs (part_then 120 72 bs (part_then 72 48 bs (part_then 24 48 bs (part_then 16 8 bs (part_then 8 8 bs
    (ap (spell 8) (sym (eqb-true _ _ e1)) ∙ spell_at 8 bs 0 (omega arith) b)
    (ap (spell 8) (sym (eqb-true _ _ e2)) ∙ spell_at 8 bs 8 (omega arith) b))
    (ap (spell 8) (sym (eqb-true _ _ e3)) ∙ spell_at 8 bs 16 (omega arith) b))
    (sym (zeros_part 48 bs 24 (omega arith) (and_left _ _ e5))))
    (spell_words_at bs 72 (omega arith) b))
    (sym (zeros_part 72 bs 120 (omega arith) (and_right (zeros_at 48 bs 24) _ e5))))
    (ap (spell 8) (sym (eqb-true _ _ e4)) ∙ spell_at 8 bs 192 (omega arith) b)
    ∙ take_all 200 bs (omega arith)
