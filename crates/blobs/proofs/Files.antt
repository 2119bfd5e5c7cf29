-- A whole file: a scan passes its entries one by one, any bytes are entries of sound blobs and a rest, and the blobs are the only ones, because a blob
-- is what is found where its entry stands. Assumes nothing.
use Rattle.std.specs.Prelude.{Result, Ok, Err}
use mathlib.Core.Path.{◌≡◌, refl, sym, ap, ◌∙◌}
use Prim.Native.Nat.{ℕ, zero, suc, ◌+◌, ◌-◌, ◌≤◌, ◌<◌}
use native.Mathlib.Omega.{arith}
use mathlib.Core.List.{List, [], ◌∷◌, ◌++◌, append_assoc}
use lib.ListN.{length, drop, length-append, length-drop}
use lib.Seq.{drop-append_seam, drop-drop, get_or-drop}
use Rattle.words.specs.Le.{Bytes}
use Rattle.words.specs.Refusals.{refused_at}
use Rattle.words.specs.declared.Refusal.{Refusal}
use Rattle.blobs.specs.declared.Parts.{Parts}
use Rattle.blobs.specs.declared.Tally.{Tally}
use Rattle.blobs.specs.Blobs.{Blob, Sound, AllSound, bytes_in, spell_entry, spell_all, whole_of, parts_at, entry_at, with_entry, none, scan_from, scan_of}
use Rattle.blobs.specs.Claims.{Fate}
use Rattle.blobs.proofs.Heads.{all_passed, Whole, is_whole, whole}
use Rattle.blobs.proofs.Entries.{refused_by, found, Seen, seen, fault_of_lem}
use Rattle.blobs.proofs.Counting.{scan_end, scan_past, scan_stop}
use Rattle.blobs.proofs.Written.{length_entry}
use Rattle.blobs.proofs.Stands.{blob_of, Stood, stood, sound, split}

-- ## Lengths

pub length_all : (b : Blob) (bs : List Blob) → Sound b → length (spell_all (b ∷ bs)) ≡ 110 + length b.«data» + length (spell_all bs)
length_all b bs ok = length-append (spell_entry b) (spell_all bs) ∙ ap (λ (k : ℕ). k + length (spell_all bs)) (length_entry b ok.size)

-- an entry has more than one byte
few : (bs : List Blob) → AllSound bs → length bs ≤ length (spell_all bs)
few [] ok = omega arith
few (b ∷ bs) ok =
    let h = few bs ok.1 in
    let l = length_all b bs ok.0 in
    omega arith

-- ## Where an entry stands it is whole, and found

whole_there : (l : List ℕ) (b : Blob) (z : List ℕ) → Stood l b z → whole_of l ≡ Ok (length b.«data»)
whole_there l b z st =
    let m = st.long in
    is_whole l (length b.«data») (record { said = all_passed l (length b.«data») st.good; within = omega arith })

pub found_there : (s : List ℕ) (at : ℕ) (b : Blob) (z : List ℕ) → Stood (drop at s) b z → entry_at s at ≡ Ok (parts_at at (length b.«data»))
found_there s at b z st = sym (found s at (whole_there (drop at s) b z st))

-- ## A refusal is that of the bytes from the position on

pub alone : (before rest : List ℕ) (r : Refusal) → entry_at rest 0 ≡ Err r → entry_at (before ++ rest) (length before) ≡ Err (refused_at (length before) r.number)
alone before rest r e = sym (refused_by (before ++ rest) (length before) (rw (drop-append_seam before rest) (fault_of_lem rest r e)))

-- ## A scan along entries

along : (bs : List Blob) (rest s : List ℕ) (at : ℕ) (t : Tally) (k at' n' b' k' : ℕ) → AllSound bs → drop at s ≡ spell_all bs ++ rest
    → k ≡ length bs + k' → at' ≡ at + length (spell_all bs) → n' ≡ t.entries + length bs → b' ≡ t.bytes + bytes_in bs
    → scan_from k s at t ≡ scan_from k' s at' (record { entries = n'; bytes = b' })
along [] rest s at t k at' n' b' k' ok d ek ea en eb =
    let p : k ≡ k' = omega arith in
    let q : at' ≡ at = omega arith in
    let u : n' ≡ t.entries = omega arith in
    let v : b' ≡ t.bytes = omega arith in
    rw (p, q, u, v)
along (b ∷ bs) rest s at t k at' n' b' k' ok d ek ea en eb =
    let n = length b.«data» in
    let st : Stood (drop at s) b (spell_all bs ++ rest) = stood (drop at s) b (spell_all bs ++ rest) ok.0 (d ∙ append_assoc (spell_entry b) (spell_all bs) rest) in
    let p : k ≡ suc (length bs + k') = omega arith in
    let m = st.long in
    let l = length-drop at s in
    let a = length_all b bs ok.0 in
    let r : drop (at + 110 + n) s ≡ spell_all bs ++ rest = let q : at + 110 + n ≡ at + (110 + n) = omega arith in rw (q, ← drop-drop) st.rest in
    rw p
    (scan_past (length bs + k') s at t (omega arith) (whole_there (drop at s) b (spell_all bs ++ rest) st)
    ∙ along bs rest s (at + 110 + n) (with_entry t n) (length bs + k') at' n' b' k' ok.1 r refl (omega arith) (omega arith) (omega arith))

module _ (bs : List Blob) (rest s : List ℕ) (ok : AllSound bs) (e : spell_all bs ++ rest ≡ s) where
  long : length s ≡ length (spell_all bs) + length rest
  long = ap length (sym e) ∙ length-append (spell_all bs) rest

  pub counted_by : length rest ≡ 0 → scan_of s ≡ Ok (record { entries = length bs; bytes = bytes_in bs })
  unfolding scan_of
  counted_by h =
      let f = few bs ok in
      let l = long in
      along bs rest s 0 none (length s) (length (spell_all bs)) (length bs) (bytes_in bs) (length s - length bs) ok (sym e) (omega arith) (omega arith) (omega arith) (omega arith)
      ∙ scan_end _ s _ _ (omega arith)

  pub stopped_by : (r : Refusal) → 0 < length rest → entry_at rest 0 ≡ Err r → scan_of s ≡ Err (refused_at (length (spell_all bs)) r.number)
  unfolding scan_of
  stopped_by r h q =
      let f = few bs ok in
      let l = long in
      let x : whole_of (drop (length (spell_all bs)) s) ≡ Err r.number = rw (← e, drop-append_seam (spell_all bs) rest) (fault_of_lem rest r q) in
      along bs rest s 0 none (length s) (length (spell_all bs)) (length bs) (bytes_in bs) (suc (length s - (length bs + 1))) ok (sym e) (omega arith) (omega arith) (omega arith) (omega arith)
      ∙ scan_stop _ s _ _ (omega arith) x

-- ## Any bytes are entries of sound blobs and a rest

module _ (l : List ℕ) (b : Bytes l) (next : (k : ℕ) → 110 ≤ k → Fate (drop k l)) where
  fate_by : (x : Result Parts Refusal) → entry_at l 0 ≡ x → Fate l
  fate_by (Err r) q = record { blobs = []; rest = l; sound = tt; cut = refl; ends = λ _ f. rw q at f }
  fate_by (Ok p) q =
      let g : Seen l 0 p = seen l 0 p q in
      let n = g.size in
      let w : Whole l n = whole l n g.left in
      let r : Fate (drop (110 + n) l) = next (110 + n) (omega arith) in
      record {
        blobs = blob_of l n ∷ r.blobs;
        rest = r.rest;
        sound = (sound l n b w.said w.within, r.sound);
        cut = append_assoc (spell_entry (blob_of l n)) (spell_all r.blobs) r.rest ∙ ap (λ (t : List ℕ). spell_entry (blob_of l n) ++ t) r.cut ∙ split l n b w.said w.within;
        ends = r.ends;
      }

fate_in : (steps : ℕ) (l : List ℕ) → length l ≤ steps → Bytes l → Fate l
fate_in zero l h b = fate_by l b (λ k z. record { blobs = []; rest = drop k l; sound = tt; cut = refl; ends = λ u _. let m = length-drop k l in absurd (omega arith) }) (entry_at l 0) refl
fate_in (suc steps) l h b = fate_by l b (λ k z. let m = length-drop k l in fate_in steps (drop k l) (omega arith) (λ i. rw get_or-drop (b (k + i)))) (entry_at l 0) refl

pub fate_of : (s : List ℕ) → Bytes s → Fate s
fate_of s b = fate_in (length s) s (omega arith) b

-- ## The blobs are the only ones

pub only_these : (bs cs : List Blob) → AllSound bs → AllSound cs → spell_all bs ≡ spell_all cs → bs ≡ cs
only_these [] [] p q e = refl
only_these [] (c ∷ cs) p q e = let l = length_all c cs q.0 in let m = ap length e in absurd (omega arith)
only_these (b ∷ bs) [] p q e = let l = length_all b bs p.0 in let m = ap length e in absurd (omega arith)
only_these (b ∷ bs) (c ∷ cs) p q e =
    let l = spell_all (b ∷ bs) in
    let x : Stood l b (spell_all bs) = stood l b (spell_all bs) p.0 refl in
    let y : Stood l c (spell_all cs) = stood l c (spell_all cs) q.0 e in
    let n : length b.«data» ≡ length c.«data» = sym x.good.told ∙ y.good.told in
    let a : b ≡ c = sym x.blob ∙ ap (blob_of l) n ∙ y.blob in
    let t : bs ≡ cs = only_these bs cs p.1 q.1 (sym x.rest ∙ ap (λ (k : ℕ). drop (110 + k) l) n ∙ y.rest) in
    rw (a, t)

-- ## An entry in a file

pub all_append : (xs ys : List Blob) → spell_all (xs ++ ys) ≡ spell_all xs ++ spell_all ys
all_append [] ys = refl
all_append (x ∷ xs) ys = rw (all_append xs ys) (sym (append_assoc (spell_entry x) (spell_all xs) (spell_all ys)))

pub sound_at : (xs : List Blob) (b : Blob) (ys : List Blob) → AllSound (xs ++ b ∷ ys) → Sound b
sound_at [] b ys ok = ok.0
sound_at (x ∷ xs) b ys ok = sound_at xs b ys ok.1
