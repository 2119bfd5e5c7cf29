-- What the writer's six stores leave, and its checks: stores side by side are one. Assumes nothing.
use Rattle.std.specs.Prelude.{Ok, Err}
use mathlib.Core.Path.{◌≡◌, refl}
use Prim.Native.Nat.{ℕ}
use native.Mathlib.Omega.{arith}
use mathlib.Core.List.{List, ◌++◌}
use lib.ListN.{length, replicate, length-append, length-replicate}
use lib.Dec.{eqb, leb}
use borrow.Author.Tests.{le-leb, ne_eqb, eq-eqb, leb-true, eqb-true}
use Rattle.words.specs.Checks.{fine}
use Rattle.words.specs.Le.{spell, puts}
use Rattle.words.specs.Refusals.{refused_at}
use Rattle.words.proofs.Checks.{passed_on, passed}
use Rattle.words.proofs.Numbers.{length_spell}
use Rattle.words.proofs.Stores.{puts_then}
use Rattle.blobs.specs.Blobs.{Blob, magic, are_digits, spell_entry, entry_size, put_fault, put_of, buffer_of}
use Rattle.blobs.specs.Claims.{Allowed}

pub magic_spelled : spell 4 1112036173 ≡ magic
unfolding spell
magic_spelled = refl

-- ## Where each part of an entry begins

module _ (b : Blob) (h : length b.digits ≡ 64) where
  pub length_entry : length (spell_entry b) ≡ entry_size b
  unfolding spell_entry
  length_entry = simp (length-append, length_spell, length-replicate) (omega arith)

  length_six : length (magic ++ spell 2 1) ≡ 6
  length_six = simp length_spell (omega arith)

  length_head : length (magic ++ spell 2 1 ++ spell 8 (length b.«data»)) ≡ 14
  length_head = simp (length-append, length_spell) (omega arith)

  length_hashed : length (magic ++ spell 2 1 ++ spell 8 (length b.«data») ++ b.digits) ≡ 78
  length_hashed = simp (length-append, length_spell) (omega arith)

  length_headed : length (magic ++ spell 2 1 ++ spell 8 (length b.«data») ++ b.digits ++ replicate 32 0) ≡ 110
  length_headed = simp (length-append, length_spell, length-replicate) (omega arith)

  pub six_stores : (l₀ : List ℕ) {l₁ l₂ l₃ l₄ l₅ l₆ : List ℕ} → l₁ ≡ puts l₀ 0 (spell 4 1112036173) → l₂ ≡ puts l₁ 4 (spell 2 1) → l₃ ≡ puts l₂ 6 (spell 8 (length b.«data»))
      → l₄ ≡ puts l₃ 14 b.digits → l₅ ≡ puts l₄ 78 (replicate 32 0) → l₆ ≡ puts l₅ 110 b.«data» → l₆ ≡ puts l₀ 0 (spell_entry b)
  unfolding spell_entry
  six_stores l₀ p₁ p₂ p₃ p₄ p₅ p₆ =
      puts_then 110 l₀ 0 (magic ++ spell 2 1 ++ spell 8 (length b.«data») ++ b.digits ++ replicate 32 0) b.«data» length_headed
      (puts_then 78 l₀ 0 (magic ++ spell 2 1 ++ spell 8 (length b.«data») ++ b.digits) (replicate 32 0) length_hashed
      (puts_then 14 l₀ 0 (magic ++ spell 2 1 ++ spell 8 (length b.«data»)) b.digits length_head
      (puts_then 6 l₀ 0 (magic ++ spell 2 1) (spell 8 (length b.«data»)) length_six
      (puts_then 4 l₀ 0 magic (spell 2 1) refl (rw (← magic_spelled) p₁) p₂) p₃) p₄) p₅) p₆

-- ## The checks

pub may_write : (b : Blob) (room : ℕ) → Allowed b room → put_fault b room ≡ 0
unfolding put_fault
may_write b room a = rw (eq-eqb (length b.digits) 64 a.size, a.hex, le-leb _ _ a.fits)

-- what no fault says
pub allowed : (b : Blob) (room : ℕ) → put_fault b room ≡ 0 → Allowed b room
unfolding put_fault
allowed b room p =
    let (e1, z1) = passed (eqb (length b.digits) 64) 27 _ (omega arith) p in
    let (e2, z2) = passed (are_digits b.digits) 27 _ (omega arith) z1 in
    let (e3, z3) = passed (leb (entry_size b) room) 15 _ (omega arith) z2 in
    record { size = eqb-true _ _ e1; hex = e2; fits = leb-true _ _ e3 }

-- ## What the writer answers and leaves

module _ (b : Blob) (buf : List ℕ) where
  pub written : put_fault b (length buf) ≡ 0 → {l : List ℕ} → l ≡ puts buf 0 (spell_entry b) → (Ok (entry_size b) ≡ put_of b (length buf)) × (l ≡ buffer_of b buf)
  unfolding put_of buffer_of
  written p e = (rw p, rw (p, e))

  pub not_written : (put_fault b (length buf) ≡ 0 → ⊥) → {k : ℕ} → k ≡ put_fault b (length buf) → (Err (refused_at 0 k) ≡ put_of b (length buf)) × (buf ≡ buffer_of b buf)
  unfolding put_of buffer_of
  not_written n e = (rw (ne_eqb (put_fault b (length buf)) 0 n, e), rw (ne_eqb (put_fault b (length buf)) 0 n))

pub wrote_free : (b : Blob) (room : ℕ) → put_of b room ≡ Ok (entry_size b) → put_fault b room ≡ 0
unfolding put_of
wrote_free b room e = eqb-true _ _ (passed_on (eqb (put_fault b room) fine) _ _ _ (λ q. cc) e).0
