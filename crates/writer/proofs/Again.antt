-- A good record that is offered again is taken again, with the same words, because what the reader's checks leave open is just what is offered:
-- the tag, the version and the reserved bytes are forced. Assumes nothing.
use Rattle.std.specs.Prelude.{Ok}
use mathlib.Core.Path.{◌≡◌, refl, sym, ap, ◌∙◌}
use mathlib.Core.Bool.{Bool, true, false, ◌&&◌, not}
use mathlib.Core.List.{List}
use Prim.Native.Nat.{ℕ, ◌<◌, ◌≤◌}
use native.Mathlib.Omega.{arith}
use lib.Dec.{eqb, lit<}
use borrow.Author.Tests.{eqb-true}
use Rattle.words.specs.Checks.{pick}
use Rattle.words.specs.Le.{long}
use Rattle.words.specs.Record.{IsHash, same_hash, ones, is_ones, Whole, tail_zero}
use Rattle.words.specs.declared.Words.{Words}
use Rattle.words.specs.declared.Tag.{Tag}
use Rattle.words.proofs.Zeros.{and_left, and_right}
use Rattle.words.proofs.Records.{hash_same, true_ones, words_same}
use Rattle.words.proofs.Checks.{passed}
use Rattle.rules.specs.Rules.{size_by, size_of, fault_by, fault_of, file_head_fault, xorb_head_fault, bookend_fault, no_other_bit, kind_of, record_of}
use Rattle.rules.specs.Rules as rules
use Rattle.rules.specs.Kinds.{is_due}
use Rattle.rules.specs.declared.Place.{Place}
use Rattle.rules.specs.declared.Kind.{Kind}
use Rattle.rules.specs.declared.Kind.TheVariants as kind
use Rattle.rules.specs.declared.Due.{Due}
use Rattle.rules.specs.declared.Due.TheVariants as due
use Rattle.writer.specs.Offers.{kind_by, kind_offered, words_by, words_of, fields_by, fields_of, offer_of}
use Rattle.writer.specs.declared.Offer.{Offer}
use Rattle.layout.proofs.Checks.{tail_zero_lem}
use Rattle.writer.specs.Write.{is_head, is_footer, bytes_of, answer_of}
use Rattle.writer.specs.declared.Writer.{Writer}
use Rattle.writer.proofs.Made.{size_kind, due_size}
use Rattle.writer.proofs.Spelled.{bytes_at, bytes_due, GoodWords}

-- ## The kind of a good record is due

kind_back : (k : Kind) (w : Words) → kind_by (fields_by k w) ≡ k
kind_back k w = grind arith

kind_due : (d : Due) (w : Words) → 0 < size_by d → is_due d (rules.kind_by d w) ≡ true
kind_due d w l = grind arith

-- and it is no head with the hash of all ones
kind_ones : (d : Due) (w : Words) → not (is_head (rules.kind_by d w) && is_ones w.hash) ≡ true
kind_ones d w = grind arith

-- ## Its words are made again

-- a tail of zeros
plain_again : (w : Words) {h : List ℕ} → h ≡ w.hash → tail_zero w ≡ true → ◌≡◌ {A = Words} (record { hash = h; a = 0; b = 0; c = 0; d = 0 }) w
plain_again w e z =
    let (a, b, c, d) = tail_zero_lem w z in
    words_same e (sym a) (sym b) (sym c) (sym d)

bookend_again : (w : Words) → Whole w → is_ones w.hash ≡ true → bookend_fault w ≡ 0 → ◌≡◌ {A = Words} (record { hash = ones; a = 0; b = 0; c = 0; d = 0 }) w
bookend_again w h o z = plain_again w (sym (true_ones w.hash h.hash o)) (passed (tail_zero w) 8 0 (lit< tt) z).0

-- the last two numbers are 0
short_again : (w : Words) → w.c ≡ 0 → w.d ≡ 0 → ◌≡◌ {A = Words} (record { hash = w.hash; a = w.a; b = w.b; c = 0; d = 0 }) w
short_again w c d = words_same refl refl refl (sym c) (sym d)

words_by_lem : (d : Due) (tag : Tag) (p : Place) (w : Words) → IsHash tag.0 → Whole w → 0 < size_by d → fault_by d tag p w ≡ 0
    → words_by (fields_by (rules.kind_by d w) w) tag w.hash ≡ w
words_by_lem due.Header tag p w t h l z =
    let (e1, z1) = passed (same_hash w.hash tag.0) 3 _ (lit< tt) z in
    let (e2, z2) = passed (eqb (long w.a w.b) 2) 4 _ (lit< tt) z1 in
    let v : long w.a w.b ≡ 2 = eqb-true _ _ e2 in
    words_same (sym (hash_same w.hash tag.0 h.hash t e1)) (omega arith) (omega arith) (omega arith) (omega arith)
words_by_lem due.FileHead tag p w t h l z = go (is_ones w.hash) refl z
  where
    go : (b : Bool) → is_ones w.hash ≡ b → pick b (bookend_fault w) (file_head_fault p w) ≡ 0 → words_by (fields_by (pick b kind.Bookend kind.FileHead) w) tag w.hash ≡ w
    go true o z = bookend_again w h o z
    go false o z =
        let (e1, z1) = passed (no_other_bit w.a && eqb w.c 0 && eqb w.d 0) 7 _ (lit< tt) z in
        short_again w (eqb-true _ _ (and_right (no_other_bit w.a) _ (and_left _ _ e1))) (eqb-true _ _ (and_right (no_other_bit w.a && eqb w.c 0) _ e1))
words_by_lem (due.Segment left) tag p w t h l z = refl
words_by_lem (due.Verification left) tag p w t h l z = plain_again w refl (passed (tail_zero w) 7 0 (lit< tt) z).0
words_by_lem due.Metadata tag p w t h l z = plain_again w refl (passed (tail_zero w) 7 0 (lit< tt) z).0
words_by_lem due.XorbHead tag p w t h l z = go (is_ones w.hash) refl z
  where
    go : (b : Bool) → is_ones w.hash ≡ b → pick b (bookend_fault w) (xorb_head_fault p w) ≡ 0 → words_by (fields_by (pick b kind.Bookend kind.XorbHead) w) tag w.hash ≡ w
    go true o z = bookend_again w h o z
    go false o z = refl
words_by_lem (due.Chunk left sum total) tag p w t h l z =
    let (e1, z1) = passed (eqb w.c 0 && eqb w.d 0) 7 _ (lit< tt) z in
    short_again w (eqb-true _ _ (and_left _ _ e1)) (eqb-true _ _ (and_right (eqb w.c 0) _ e1))
words_by_lem due.Footer tag p w t h l z = words_same refl (omega arith) (omega arith) (omega arith) (omega arith)
words_by_lem due.End tag p w t h l z = absurd (omega arith)
words_by_lem (due.Refused n) tag p w t h l z = absurd (omega arith)

-- ## One record offered again

answers : (w : Writer) (o : Offer) (room : ℕ) → is_due w.place.due (kind_offered o) ≡ true → not (is_head (kind_offered o) && is_ones o.hash) ≡ true
    → fault_of w.tag w.place (words_of w.tag o) ≡ 0 → size_of w.place ≤ room → answer_of w o room ≡ Ok (size_of w.place)
unfolding answer_of
answers w o room a b c l = grind arith

module _ (w : Writer) (ws : Words) (tag_is : IsHash w.tag.0) (good : GoodWords w.tag w.place ws) where
  abbrev again : Offer
  again = offer_of (record_of w.place ws)

  again_kind : kind_offered again ≡ kind_of w.place ws
  unfolding offer_of fields_of record_of
  again_kind = kind_back (kind_of w.place ws) ws

  again_due : is_due w.place.due (kind_offered again) ≡ true
  unfolding kind_of
  again_due = ap (is_due w.place.due) again_kind ∙ kind_due w.place.due ws good.due

  again_ones : not (is_head (kind_offered again) && is_ones again.hash) ≡ true
  unfolding kind_of offer_of record_of
  again_ones = ap (λ (k : Kind). not (is_head k && is_ones ws.hash)) again_kind ∙ kind_ones w.place.due ws

  pub again_words : words_of w.tag again ≡ ws
  unfolding words_of kind_of fault_of offer_of fields_of record_of
  again_words = words_by_lem w.place.due w.tag w.place ws tag_is good.whole good.due good.fault

  -- it is taken wherever there is room for it
  pub again_taken : (room : ℕ) → pick (is_footer (record_of w.place ws).kind) 200 48 ≤ room → answer_of w again room ≡ Ok (size_of w.place)
  unfolding record_of
  again_taken room l =
      let s : size_kind (kind_of w.place ws) ≡ size_of w.place = ap size_kind (sym again_kind) ∙ due_size w.place.due (kind_offered again) again_due in
      answers w again room again_due again_ones (ap (fault_of w.tag w.place) again_words ∙ good.fault) (omega arith)

  -- with the bytes of the record due
  pub again_bytes : bytes_of w again ≡ bytes_at w.place ws
  again_bytes = bytes_due w again again_due ∙ ap (bytes_at w.place) again_words
