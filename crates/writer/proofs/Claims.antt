-- The smaller claims hold by the definitions of a call and by the kind that a record taken has; and no number wraps because a writer stands only
-- at places that reading gives. Assumes nothing.
use Rattle.std.specs.Prelude.{Result, Ok, Err}
use Rattle.words.specs.declared.Refusal.{Refusal}
use mathlib.Core.Path.{◌≡◌, refl, sym, ap, ◌∙◌}
use mathlib.Core.List.{List}
use Prim.Native.Nat.{ℕ}
use lib.ListN.{length}
use Rattle.words.specs.Le.{Bytes}
use Rattle.words.proofs.Stores.{length_puts}
use Rattle.rules.specs.Rules.{kind_of, record_of}
use Rattle.rules.specs.Held.{held}
use Rattle.rules.specs.declared.Kind.{Kind}
use Rattle.writer.specs.Offers.{words_of, fields_by, fields_of, offer_of}
use Rattle.layout.proofs.Reach.{exact}
use Rattle.writer.specs.Write.{answer_of, bytes_of, written_of, buffer_of, next_by, fresh}
use Rattle.writer.specs.Writings.{Writing, written, RefusedChangesNothing, KeepsLength, NeverWraps, OffersBack}
use Rattle.writer.specs.declared.Offer.{Offer}
use Rattle.writer.specs.declared.Fields.{Fields}
use Rattle.writer.proofs.Made.{made_kind, fields_back, hash_back}
use Rattle.writer.proofs.Calls.{taken_passed, put_start, put_kept, by_tag}
use Rattle.writer.proofs.ReadAfterWrite.{written_good, written_bad}

pub refused_changes_nothing : RefusedChangesNothing
unfolding written_of
refused_changes_nothing w o buffer refusal e = (ap (λ (a : Result ℕ Refusal). next_by a w (words_of w.tag o)) e, sym (put_kept w o buffer refusal e))

pub keeps_length : KeepsLength
keeps_length w o buffer = go (answer_of w o (length buffer)) refl
  where
    go : (a : Result ℕ Refusal) → answer_of w o (length buffer) ≡ a → length (buffer_of w o buffer) ≡ length buffer
    go (Ok n) e = ap length (sym (put_start w o buffer n e)) ∙ length_puts buffer 0 (bytes_of w o)
    go (Err refusal) e = ap length (sym (put_kept w o buffer refusal e))

pub never_wraps : (tag : List ℕ) → Bytes tag → NeverWraps tag
unfolding held
never_wraps tag b calls i = by_tag tag
    (λ n. exact (written (fresh tag) calls).writer.place (written_good tag calls n b i).reached)
    (λ n. let s = ap (λ (x : Writing). x.writer.place) (written_bad tag calls n) in ap held s ∙ sym s)

offer_same : {h h' : List ℕ} {f f' : Fields} → h ≡ h' → f ≡ f' → ◌≡◌ {A = Offer} (record { hash = h; fields = f }) (record { hash = h'; fields = f' })
offer_same p q = rw (p, q)

pub offers_back : OffersBack
unfolding offer_of fields_of record_of words_of kind_of
offers_back w o room size e =
    let ok = taken_passed w o room size e in
    offer_same (hash_back o.fields w.tag o.hash)
    (ap (λ (k : Kind). fields_by k (words_of w.tag o)) (made_kind w.place.due o.fields w.tag o.hash ok.due ok.not_ones)
    ∙ fields_back o.fields w.tag o.hash)
