-- The record due is 200 bytes if it is the footer and else 48, where one is due at all. Assumes nothing.
use mathlib.Core.Path.{◌≡◌, sym, ap, ◌∙◌}
use mathlib.Core.Bool.{Bool, true, false}
use Prim.Native.Nat.{ℕ, ◌≤◌, ◌<◌}
use native.Mathlib.Omega.{arith}
use Rattle.words.specs.Checks.{pick}
use Rattle.rules.specs.Rules.{size_by, footer_due}
use Rattle.rules.specs.declared.Due.{Due}
use Rattle.layout.proofs.Judged.{Class, class, a_row, a_foot, no_record, row_due}

pub size_least : (d : Due) → 0 < size_by d → 48 ≤ size_by d
size_least d l = go (class d)
  where
    go : Class d → 48 ≤ size_by d
    go (a_row s) = omega (arith, s)
    go (a_foot e) = omega (arith, ap size_by e)
    go (no_record s) = absurd (omega (arith, s, l))

pub size_most : (d : Due) → size_by d ≤ 200
size_most d = go (class d)
  where
    go : Class d → size_by d ≤ 200
    go (a_row s) = omega (arith, s)
    go (a_foot e) = omega (arith, ap size_by e)
    go (no_record s) = omega (arith, s)

pub size_foot : (d : Due) → 0 < size_by d → footer_due d ≡ true → size_by d ≡ 200
size_foot d l f = go (class d)
  where
    go : Class d → size_by d ≡ 200
    go (a_row s) = let z : ◌≡◌ {A = ℕ} 0 1 = ap (λ (t : Bool). pick t 1 0) (sym (row_due d s) ∙ f) in absurd (omega arith)
    go (a_foot e) = ap size_by e
    go (no_record s) = absurd (omega (arith, s, l))

pub size_row : (d : Due) → 0 < size_by d → footer_due d ≡ false → size_by d ≡ 48
size_row d l f = go (class d)
  where
    go : Class d → size_by d ≡ 48
    go (a_row s) = s
    go (a_foot e) = let z : ◌≡◌ {A = ℕ} 1 0 = ap (λ (t : Bool). pick t 1 0) (sym (ap footer_due e) ∙ f) in absurd (omega arith)
    go (no_record s) = absurd (omega (arith, s, l))
