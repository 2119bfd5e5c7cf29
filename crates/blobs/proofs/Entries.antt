-- What is found at a position: past the end nothing is left, else what is left there decides; so what is found says what is left. Assumes nothing.
use Rattle.std.specs.Prelude.{Result, Ok, Err}
use mathlib.Core.Path.{◌≡◌, refl, sym}
use Prim.Native.Nat.{ℕ, ◌+◌, ◌≤◌}
use native.Mathlib.Omega.{arith}
use mathlib.Core.List.{List}
use lib.ListN.{length, drop, length-drop}
use Rattle.words.specs.Refusals.{refused_at}
use Rattle.words.specs.declared.Refusal.{Refusal}
use Rattle.blobs.specs.declared.Parts.{Parts}
use Rattle.blobs.specs.Blobs.{whole_of, parts_at, entry_by, entry_at}
use Rattle.blobs.proofs.Heads.{short, still_faulty, whole}

module _ (s : List ℕ) (at : ℕ) where
  by_whole : {h : Result ℕ ℕ} → whole_of (drop at s) ≡ h → entry_by at h ≡ entry_at s at
  unfolding entry_at
  by_whole e = rw e

  pub refused_by : {k : ℕ} → whole_of (drop at s) ≡ Err k → Err (refused_at at k) ≡ entry_at s at
  refused_by e = by_whole e

  pub found : {n : ℕ} → whole_of (drop at s) ≡ Ok n → Ok (parts_at at n) ≡ entry_at s at
  found e = by_whole e

  pub past_end : length s ≤ at → Err (refused_at at 24) ≡ entry_at s at
  past_end h = let l = length-drop at s in refused_by (sym (still_faulty (drop at s) (sym (short (drop at s) (omega arith)))))

  pub ends_within : {n : ℕ} → whole_of (drop at s) ≡ Ok n → at + 110 + n ≤ length s
  ends_within e =
      let l = length-drop at s in
      let w = (whole (drop at s) _ e).within in
      omega arith

-- ## What is found says

-- a whole entry of so many bytes of data is left, and these are its parts
pub record Seen (s : List ℕ) (at : ℕ) (p : Parts) : Type 0 where
  pub size : ℕ
  pub left : whole_of (drop at s) ≡ Ok size
  pub parts : parts_at at size ≡ p

pub seen : (s : List ℕ) (at : ℕ) (p : Parts) → entry_at s at ≡ Ok p → Seen s at p
unfolding entry_at
seen s at p e = go (whole_of (drop at s)) refl e
  where
    go : (h : Result ℕ ℕ) → whole_of (drop at s) ≡ h → entry_by at h ≡ Ok p → Seen s at p
    go (Err k) q f = cc
    go (Ok n) q f = record { size = n; left = q; parts = cc }

-- a refusal says what is left too; here at the start
pub fault_of_lem : (rest : List ℕ) (r : Refusal) → entry_at rest 0 ≡ Err r → whole_of rest ≡ Err r.number
unfolding entry_at
fault_of_lem rest r e = go (whole_of rest) refl e
  where
    go : (h : Result ℕ ℕ) → whole_of rest ≡ h → entry_by 0 h ≡ Err r → whole_of rest ≡ Err r.number
    go (Err k) q f = cc
    go (Ok n) q f = cc
