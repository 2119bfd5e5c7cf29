-- The claims of the writer: it makes the entry of its blob at the start of the buffer, so what it wrote is read there, and what was read it makes again.
-- Assumes nothing.
use Rattle.std.specs.Prelude.{Ok}
use mathlib.Core.Path.{◌≡◌, refl, sym, ap, ◌∙◌}
use Prim.Native.Nat.{ℕ, ◌+◌, ◌-◌, ◌≤◌}
use native.Mathlib.Omega.{arith}
use mathlib.Core.Bool.{Bool, true, false}
use mathlib.Core.List.{List, [], ◌∷◌, ◌++◌, append_assoc, append-nil}
use lib.ListN.{length, take, drop, length-drop, drop_of_length-le}
use lib.Dec.{eqb}
use lib.Seq.{take_at, drop_at, drop-drop}
use borrow.Author.Tests.{eqb-true, eqb-false}
use Rattle.words.specs.Le.{Bytes}
use Rattle.words.proofs.Stores.{puts_eq, length_puts}
use Rattle.blobs.specs.declared.Parts.{Parts}
use Rattle.blobs.specs.Blobs.{Blob, Sound, AllSound, spell_entry, entry_size, spell_all, put_fault, put_of, buffer_of}
use Rattle.blobs.specs.Claims.{Spells, Reads, Allowed, put_all, WriteClaim}
use Rattle.blobs.proofs.Entries.{Seen, seen}
use Rattle.blobs.proofs.Written.{length_entry, allowed, may_write, written, not_written, wrote_free}
use Rattle.blobs.proofs.Stands.{blob_of}
use Rattle.blobs.proofs.Files.{length_all}
use Rattle.blobs.proofs.ReadClaims.{reads_there, found_blob, found_sound, found_length, found_spelled}

module _ (b : Blob) (buf : List ℕ) where
  module _ (a : Allowed b (length buf)) where
    free : put_fault b (length buf) ≡ 0
    free = may_write b (length buf) a

    buffer_is : buffer_of b buf ≡ spell_entry b ++ drop (entry_size b) buf
    buffer_is =
        let l : length (spell_entry b) ≡ entry_size b = length_entry b a.size in
        let f = a.fits in
        let q : 0 + length (spell_entry b) ≡ entry_size b = omega arith in
        sym (written b buf free refl).1 ∙ puts_eq (spell_entry b) buf 0 (omega arith) ∙ ap (λ (k : ℕ). spell_entry b ++ drop k buf) q

    begins_so : take (entry_size b) (buffer_of b buf) ≡ spell_entry b
    begins_so = rw buffer_is (take_at (spell_entry b) (drop (entry_size b) buf) (entry_size b) (length_entry b a.size))

    behind_so : drop (entry_size b) (buffer_of b buf) ≡ drop (entry_size b) buf
    behind_so = rw buffer_is (drop_at (spell_entry b) (drop (entry_size b) buf) (entry_size b) (length_entry b a.size))

  refused_so : (put_fault b (length buf) ≡ 0 → ⊥) → buffer_of b buf ≡ buf
  refused_so f = sym (not_written b buf f refl).1

  behind_by : (t : Bool) → eqb (put_fault b (length buf)) 0 ≡ t → drop (entry_size b) (buffer_of b buf) ≡ drop (entry_size b) buf
  behind_by true q = behind_so (allowed b (length buf) (eqb-true _ _ q))
  behind_by false q = ap (drop (entry_size b)) (refused_so (eqb-false _ _ q))

  keeps_by : (t : Bool) → eqb (put_fault b (length buf)) 0 ≡ t → length (buffer_of b buf) ≡ length buf
  keeps_by true q = ap length (sym (written b buf (eqb-true _ _ q) refl).1) ∙ length_puts buf 0 _
  keeps_by false q = ap length (refused_so (eqb-false _ _ q))

sound_allowed : (b : Blob) (room : ℕ) → Sound b → entry_size b ≤ room → Allowed b room
sound_allowed b room ok h = record { size = ok.size; hex = ok.hex; fits = h }

again : (s : List ℕ) (at : ℕ) (b : Blob) (next : ℕ) (buf : List ℕ) → Bytes s → Reads s at b next → entry_size b ≤ length buf
    → (put_of b (length buf) ≡ Ok (entry_size b)) × (at + entry_size b ≡ next)
    × (take (entry_size b) (buffer_of b buf) ≡ take (entry_size b) (drop at s))
again s at b next buf bytes w h =
    let p = w.parts in
    let sn : Seen s at p = seen s at p w.found in
    let k = sn.size in
    let is : b ≡ blob_of (drop at s) k = sym w.blob ∙ found_blob s at p bytes w.found in
    let ok : Sound b = rw is (found_sound s at p bytes w.found) in
    let l : length b.«data» ≡ k = ap (λ (x : Blob). length x.«data») is ∙ found_length s at p bytes w.found in
    let nx : at + 110 + k ≡ next = ap (λ (x : Parts). x.next.0) sn.parts ∙ w.behind in
    let a = sound_allowed b (length buf) ok h in (
      sym (written b buf (free b buf a) refl).0,
      omega arith,
      begins_so b buf a ∙ ap spell_entry is ∙ found_spelled s at p bytes w.found ∙ ap (λ (m : ℕ). take (110 + m) (drop at s)) (sym l),
    )

whole_from : (bs : List Blob) (buf : List ℕ) → AllSound bs → length (spell_all bs) ≤ length buf → put_all bs buf ≡ spell_all bs ++ drop (length (spell_all bs)) buf
whole_from [] buf ok h = refl
whole_from (b ∷ bs) buf ok h =
    let m = entry_size b in
    let l : length (spell_all (b ∷ bs)) ≡ m + length (spell_all bs) = length_all b bs ok.0 in
    let d : length (drop m buf) ≡ length buf - m = length-drop m buf in
    let a : Allowed b (length buf) = sound_allowed b (length buf) ok.0 (omega arith) in
    let r : put_all bs (drop m buf) ≡ spell_all bs ++ drop (length (spell_all bs)) (drop m buf) = whole_from bs (drop m buf) ok.1 (omega arith) in
    rw (begins_so b buf a, behind_so b buf a, r, drop-drop, l) (sym (append_assoc (spell_entry b) (spell_all bs) (drop (m + length (spell_all bs)) buf)))

-- an answer does not look at the buffer's bytes
wrote_by : (b : Blob) (room : ℕ) → Allowed b room → put_of b room ≡ Ok (entry_size b)
unfolding put_of
wrote_by b room a = rw (may_write b room a)

file_of : (bs : List Blob) (buf : List ℕ) → AllSound bs → length buf ≡ length (spell_all bs) → Spells bs (put_all bs buf)
file_of bs buf ok e =
    let w : put_all bs buf ≡ spell_all bs ++ drop (length (spell_all bs)) buf = whole_from bs buf ok (omega arith) in
    let h : length buf ≤ length (spell_all bs) = omega arith in
    record { sound = ok; spelled = sym (w ∙ ap (λ (l : List ℕ). spell_all bs ++ l) (drop_of_length-le buf h) ∙ append-nil (spell_all bs)) }

pub write_claim : WriteClaim
write_claim = record {
  exactly = λ b room. (λ e. allowed b room (wrote_free b room e), wrote_by b room);
  begins = begins_so;
  behind = λ b buf. behind_by b buf _ refl;
  keeps = λ b buf. keeps_by b buf _ refl;
  refused = λ b buf f. refused_so b buf (λ q. f (allowed b (length buf) q));
  write_read = λ b buf ok h. reads_there (buffer_of b buf) 0 b (drop (entry_size b) buf) (entry_size b) ok (buffer_is b buf (sound_allowed b (length buf) ok h)) (omega arith);
  read_write = again;
  whole = λ s bs buf w h. rw (← w.spelled) (whole_from bs buf w.sound (rw w.spelled h));
  file = file_of;
}
