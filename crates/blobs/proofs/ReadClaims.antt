-- The claims of the reader: a blob is found where its entry stands, and an entry stands where one is found. Assumes nothing.
use Rattle.std.specs.Prelude.{Result, Ok, Err}
use Rattle.words.specs.declared.Refusal.{Refusal}
use mathlib.Core.Path.{◌≡◌, refl, sym, ap, ◌∙◌}
use Prim.Native.Nat.{ℕ, ◌+◌}
use native.Mathlib.Omega.{arith}
use mathlib.Core.List.{List, [], ◌∷◌, ◌++◌, append_assoc}
use lib.ListN.{length, take, drop, length-append}
use lib.Seq.{drop-append_seam, drop-drop, get_or-drop}
use Rattle.words.specs.Le.{Bytes}
use Rattle.blobs.specs.declared.Parts.{Parts}
use Rattle.blobs.specs.Blobs.{Blob, Sound, spell_entry, spell_all, parts_at, entry_at, blob_in}
use Rattle.blobs.specs.Claims.{Spells, IsFound, Reads, Stands, ReadClaim}
use Rattle.blobs.proofs.Heads.{Whole, whole, head_alone}
use Rattle.blobs.proofs.Entries.{past_end, seen}
use Rattle.blobs.proofs.Stands.{blob_of, Stood, stood, sound, spelled, split, length_data}
use Rattle.blobs.proofs.Files.{length_all, found_there, alone, all_append, sound_at}

-- the blob in the places where its parts are found is that of the bytes from the position on
blob_in_lem : (s : List ℕ) (at n : ℕ) → blob_in s (parts_at at n) ≡ blob_of (drop at s) n
blob_in_lem s at n = rw (drop-drop 14 at s, drop-drop 110 at s)

pub reads_there : (s : List ℕ) (at : ℕ) (b : Blob) (z : List ℕ) (next : ℕ) → Sound b → drop at s ≡ spell_entry b ++ z → next ≡ at + (110 + length b.«data») → Reads s at b next
reads_there s at b z next ok d e =
    let st : Stood (drop at s) b z = stood (drop at s) b z ok d in
    record { parts = parts_at at (length b.«data»); found = found_there s at b z st; blob = blob_in_lem s at (length b.«data») ∙ st.blob; behind = omega arith }

-- what is found is sound, and its entry stands there
module _ (s : List ℕ) (at : ℕ) (p : Parts) (bytes : Bytes s) (e : entry_at s at ≡ Ok p) where
  abbrev left : List ℕ
  left = drop at s

  abbrev n : ℕ
  n = (seen s at p e).size

  w : Whole left n
  w = whole left n (seen s at p e).left

  left_bytes : Bytes left
  left_bytes i = rw get_or-drop (bytes (at + i))

  pub found_blob : blob_in s p ≡ blob_of left n
  found_blob = ap (blob_in s) (sym (seen s at p e).parts) ∙ blob_in_lem s at n

  pub found_sound : Sound (blob_of left n)
  found_sound = sound left n left_bytes w.said w.within

  pub found_length : length (blob_of left n).«data» ≡ n
  found_length = length_data left n left_bytes w.said w.within

  pub found_spelled : spell_entry (blob_of left n) ≡ take (110 + n) left
  found_spelled = spelled left n left_bytes w.said w.within

  found_stands : Stands s at
  found_stands = record { blob = blob_of left n; after = drop (110 + n) left; sound = found_sound; spelled = split left n left_bytes w.said w.within }

stands_of : (s : List ℕ) (at : ℕ) → Bytes s → IsFound (entry_at s at) → Stands s at
stands_of s at b f = go (entry_at s at) refl f
  where
    go : (x : Result Parts Refusal) → entry_at s at ≡ x → IsFound x → Stands s at
    go (Ok p) q f = found_stands s at p b q
    go (Err r) q f = absurd f

each_read : (s : List ℕ) (before : List Blob) (b : Blob) (after : List Blob) → Spells (before ++ b ∷ after) s
    → Reads s (length (spell_all before)) b (length (spell_all (before ++ b ∷ [])))
each_read s before b after w =
    let ok : Sound b = sound_at before b after w.sound in
    let cut : spell_all before ++ spell_all (b ∷ after) ≡ s = sym (all_append before (b ∷ after)) ∙ w.spelled in
    let d : drop (length (spell_all before)) s ≡ spell_entry b ++ spell_all after = rw (← cut) (drop-append_seam (spell_all before) (spell_all (b ∷ after))) in
    let l : length (spell_all (before ++ b ∷ [])) ≡ length (spell_all before) + length (spell_all (b ∷ [])) = ap length (all_append before (b ∷ [])) ∙ length-append (spell_all before) (spell_all (b ∷ [])) in
    let m = length_all b [] ok in
    reads_there s (length (spell_all before)) b (spell_all after) (length (spell_all (before ++ b ∷ []))) ok d (omega arith)

pub read_claim : ReadClaim
read_claim = record {
  accepts = λ s at b. (
    stands_of s at b,
    λ w. rw (found_there s at w.blob w.after (stood (drop at s) w.blob w.after w.sound (sym w.spelled))) tt,
  );
  there = λ before after b ok.
      let d : drop (length before) (before ++ spell_entry b ++ after) ≡ spell_entry b ++ after = rw append_assoc (drop-append_seam before (spell_entry b ++ after)) in
      reads_there (before ++ spell_entry b ++ after) (length before) b after (length before + (110 + length b.«data»)) ok d refl;
  each = each_read;
  past = λ s at h. sym (past_end s at h);
  alone = alone;
  head = head_alone;
}
