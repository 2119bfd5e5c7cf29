-- The claims of the scan: it goes from entry to entry, and the first that is refused decides. Assumes nothing.
use Rattle.std.specs.Prelude.{Result, Ok, Err}
use Rattle.words.specs.declared.Refusal.{Refusal}
use Rattle.blobs.specs.declared.Parts.{Parts}
use mathlib.Core.Path.{◌≡◌, refl, sym, ap, ◌∙◌}
use Prim.Native.Nat.{ℕ, ◌<◌}
use native.Mathlib.Omega.{arith}
use mathlib.Core.List.{List, [], ◌∷◌, ◌++◌, append-nil}
use lib.ListN.{length}
use Rattle.blobs.specs.Blobs.{Blob, bytes_in, spell_all, entry_at, scan_of}
use Rattle.blobs.specs.Claims.{Spells, IsCounted, Fate, ScanClaim}
use Rattle.blobs.proofs.Files.{counted_by, stopped_by, fate_of, only_these}

counted_list : (s : List ℕ) → Fate s → IsCounted (scan_of s) → (bs : List Blob) × Spells bs s
counted_list s f h = go f.rest refl (entry_at f.rest 0) refl
  where
    go : (r : List ℕ) → f.rest ≡ r → (x : Result Parts Refusal) → entry_at f.rest 0 ≡ x → (bs : List Blob) × Spells bs s
    go [] q x w = (f.blobs, record { sound = f.sound; spelled = sym (append-nil (spell_all f.blobs)) ∙ ap (λ (r : List ℕ). spell_all f.blobs ++ r) (sym q) ∙ f.cut })
    go (y ∷ r) q (Ok p) w =
        let u : 0 < length f.rest = rw q (omega arith) in
        absurd (f.ends u (rw w tt))
    go (y ∷ r) q (Err e) w =
        let u : 0 < length f.rest = rw q (omega arith) in
        absurd (rw (stopped_by f.blobs f.rest s f.sound f.cut e u w) at h)

list_counted : (s : List ℕ) (bs : List Blob) → Spells bs s → scan_of s ≡ Ok (record { entries = length bs; bytes = bytes_in bs })
list_counted s bs w = counted_by bs [] s w.sound (append-nil (spell_all bs) ∙ w.spelled) refl

pub scan_claim : ScanClaim
scan_claim = record {
  accepted = λ s b. (counted_list s (fate_of s b), λ w. rw (list_counted s w.0 w.1) tt);
  only = λ s bs cs p q. only_these bs cs p.sound q.sound (p.spelled ∙ sym q.spelled);
  totals = list_counted;
  fate = fate_of;
  first = λ bs rest r ok h e. stopped_by bs rest (spell_all bs ++ rest) ok refl r h e;
  empty = counted_by [] [] [] tt refl refl;
}
