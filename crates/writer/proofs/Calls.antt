-- One call, and calls one after the other: a record taken has passed every check and stands at the start of the buffer, where there is room for it,
-- because what is due is as long as the kind offered. Assumes nothing.
use Rattle.std.specs.Prelude.{Result, Ok, Err}
use mathlib.Core.Path.{◌≡◌, refl, sym, ap, ◌∙◌}
use mathlib.Core.Logic.{◌≢◌}
use mathlib.Core.Bool.{Bool, true, false, ◌&&◌, not}
use mathlib.Core.List.{List, [], ◌∷◌, ◌++◌}
use Prim.Native.Nat.{ℕ, ◌≤◌, ◌+◌}
use native.Mathlib.Omega.{arith}
use lib.ListN.{length, drop}
use lib.Seq.{take-append_seam}
use lib.Dec.{eqb, leb}
use borrow.Author.Tests.{eqb-true, eqb-false, eq-eqb, ne_eqb, leb-true}
use Rattle.words.specs.Checks.{pick}
use Rattle.words.specs.Le.{puts}
use Rattle.words.specs.Record.{tag_at, no_tag, is_ones}
use Rattle.words.proofs.Stores.{puts_eq}
use Rattle.words.proofs.Records.{length_words, length_footer}
use Rattle.rules.specs.Rules.{size_of, record_of, start}
use Rattle.rules.specs.Verdicts.{refused}
use Rattle.rules.specs.Kinds.{is_due}
use Rattle.rules.specs.declared.Place.{Place}
use Rattle.words.specs.declared.Refusal.{Refusal}
use Rattle.words.specs.declared.Tag.{Tag}
use Rattle.words.proofs.Checks.{passed_on}
use Rattle.writer.specs.Offers.{kind_offered, words_of}
use Rattle.writer.specs.declared.Offer.{Offer}
use Rattle.writer.specs.Write.{is_head, is_footer, refuses, checked, bytes_of, answer_of, next_by, buffer_by, written_of, buffer_of, fresh}
use Rattle.writer.specs.Writings.{Call, Writing, once, written}
use Rattle.writer.specs.declared.Writer.{Writer}
use Rattle.writer.proofs.Made.{size_kind, due_size}

-- ## What a record taken has passed

pub record Passed (w : Writer) (o : Offer) (room n : ℕ) : Type 0 where
  pub due : is_due w.place.due (kind_offered o) ≡ true
  pub not_ones : not (is_head (kind_offered o) && is_ones o.hash) ≡ true
  pub checks : checked w o ≡ 0
  pub fits : size_of w.place ≤ room
  pub size : size_of w.place ≡ n

not_refused : (w : Writer) (k n : ℕ) → refuses w k ≡ Ok n → ⊥
not_refused w k n e = grind arith

pub taken_passed : (w : Writer) (o : Offer) (room n : ℕ) → answer_of w o room ≡ Ok n → Passed w o room n
unfolding answer_of
taken_passed w o room n e =
    let (e1, z1) = passed_on (is_due w.place.due (kind_offered o)) _ _ _ (not_refused w _ n) e in
    let (e2, z2) = passed_on (not (is_head (kind_offered o) && is_ones o.hash)) _ _ _ (not_refused w 8 n) z1 in
    let (e3, z3) = passed_on (eqb (checked w o) 0) _ _ _ (not_refused w _ n) z2 in
    let (e4, z4) = passed_on (leb (size_of w.place) room) _ _ _ (not_refused w 15 n) z3 in
    record { due = e1; not_ones = e2; checks = eqb-true _ _ e3; fits = leb-true _ _ e4; size = cc }

-- ## The buffer

length_bytes : (w : Writer) (o : Offer) → length (bytes_of w o) ≡ size_kind (kind_offered o)
unfolding bytes_of
length_bytes w o = grind (arith, length_footer, length_words)

pub room_for : (w : Writer) (o : Offer) (room n : ℕ) → answer_of w o room ≡ Ok n → (pick (is_footer (kind_offered o)) 200 48 ≤ room) × (pick (is_footer (kind_offered o)) 200 48 ≡ n)
room_for w o room n e =
    let ok = taken_passed w o room n e in
    let s : size_kind (kind_offered o) ≡ size_of w.place = due_size w.place.due (kind_offered o) ok.due in
    (omega arith, s ∙ ok.size)

-- stores at the start are the record's bytes, and then the buffer as it was
pub put_start : (w : Writer) (o : Offer) (buffer : List ℕ) (n : ℕ) → answer_of w o (length buffer) ≡ Ok n → puts buffer 0 (bytes_of w o) ≡ buffer_of w o buffer
unfolding buffer_of
put_start w o buffer n e =
    let (r, s) = room_for w o (length buffer) n e in
    let l : 0 + length (bytes_of w o) ≡ n = omega (arith, length_bytes w o) in
    puts_eq (bytes_of w o) buffer 0 (omega arith) ∙ ap (λ (k : ℕ). bytes_of w o ++ drop k buffer) l ∙ ap (λ (a : Result ℕ Refusal). buffer_by a w o buffer) (sym e)

pub put_kept : (w : Writer) (o : Offer) (buffer : List ℕ) (refusal : Refusal) → answer_of w o (length buffer) ≡ Err refusal → buffer ≡ buffer_of w o buffer
unfolding buffer_of
put_kept w o buffer refusal e = ap (λ (a : Result ℕ Refusal). buffer_by a w o buffer) (sym e)

-- ## What a call adds

-- nothing written by this writer
abbrev pub unmoved : Writer → Writing
unmoved w = record { writer = w; bytes = []; records = [] }

pub wrote_once : (w : Writer) (c : Call) (n : ℕ) → answer_of w c.offer (length c.buffer) ≡ Ok n
    → once w c ≡ record {
      writer = next_by (Ok n) w (words_of w.tag c.offer);
      bytes = bytes_of w c.offer;
      records = record_of w.place (words_of w.tag c.offer) ∷ [];
    }
unfolding once written_of buffer_of
wrote_once w c n e =
    let s : length (bytes_of w c.offer) ≡ n = length_bytes w c.offer ∙ (room_for w c.offer (length c.buffer) n e).1 in
    rw (e, ← s, take-append_seam)

pub refused_once : (w : Writer) (c : Call) (refusal : Refusal) → answer_of w c.offer (length c.buffer) ≡ Err refusal → once w c ≡ unmoved w
unfolding once written_of
refused_once w c refusal e = rw e

pub written_nil : (w : Writer) → written w [] ≡ unmoved w
unfolding written
written_nil w = refl

pub written_cons : (w : Writer) (c : Call) (cs : List Call) → written w (c ∷ cs) ≡ record {
  writer = (written (once w c).writer cs).writer;
  bytes = (once w c).bytes ++ (written (once w c).writer cs).bytes;
  records = (once w c).records ++ (written (once w c).writer cs).records;
}
unfolding written
written_cons w c cs = refl

-- ## Beginning

-- a tag is 32 bytes, or it is not
pub by_tag : {P : Type 0} (tag : List ℕ) → (length tag ≡ 32 → P) → (length tag ≢ 32 → P) → P
by_tag {P} tag f g = go (eqb (length tag) 32) refl
  where
    go : (t : Bool) → eqb (length tag) 32 ≡ t → P
    go true e = f (eqb-true _ _ e)
    go false e = g (eqb-false _ _ e)

-- a writer with this tag at this place
abbrev pub stands : Tag → Place → Writer
stands four p = record { tag = four; place = p }

pub fresh_good : (tag : List ℕ) → length tag ≡ 32 → fresh tag ≡ stands (tag_at tag) start
unfolding fresh
fresh_good tag n = rw (eq-eqb (length tag) 32 n)

pub fresh_bad : (tag : List ℕ) → length tag ≢ 32 → fresh tag ≡ stands no_tag (refused 2 start)
unfolding fresh
fresh_bad tag n = rw (ne_eqb (length tag) 32 n)
