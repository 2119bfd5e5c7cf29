-- The table while it is filled: the rows so far, those that are left, and the rows beyond as they were; storing the first of those that are left changes
-- nothing of this. Assumes nothing.
use mathlib.Core.Path.{◌≡◌, ap, ◌∙◌}
use mathlib.Core.List.{List, [], ◌∷◌, ◌++◌, append_assoc}
use Prim.Native.Nat.{ℕ, suc, ◌+◌, ◌<◌}
use native.Mathlib.Omega.{arith}
use native.Mathlib.Numerals.{add-one}
use lib.ListN.{length, take, drop, set, take-append-drop}
use lib.Seq.{take-suc-set, drop-set-lt}
use Rattle.plan.specs.declared.Row.{Row}

-- i rows are filled, and these are left, m of them
abbrev pub filling : ℕ → List Row → ℕ → List Row → List Row
filling i left m table = take i table ++ (left ++ drop (i + m) table)

pub filling_begins : (left : List Row) (m : ℕ) (table : List Row) → filling 0 left m table ≡ left ++ drop m table
filling_begins left m table = let e : 0 + m ≡ m = omega arith in ap (λ (j : ℕ). left ++ drop j table) e

pub filling_ends : (i : ℕ) (left table : List Row) → length left ≡ 0 → filling i left 0 table ≡ table
filling_ends i [] table h = let e : i + 0 ≡ i = omega arith in ap (λ (j : ℕ). take i table ++ drop j table) e ∙ take-append-drop i table
filling_ends i (r ∷ rs) table h = absurd (omega arith)

filling_stores : (i m : ℕ) (r : Row) (left table : List Row) → i < length table → filling (i + 1) left m (set table i r) ≡ filling i (r ∷ left) (suc m) table
filling_stores i m r left table h =
    ap (λ (j : ℕ). take j (set table i r) ++ (left ++ drop (i + 1 + m) (set table i r))) (add-one i)
    ∙ ap (λ (p : List Row). p ++ (left ++ drop (i + 1 + m) (set table i r))) (take-suc-set table i r h)
    ∙ append_assoc (take i table) (r ∷ []) (left ++ drop (i + 1 + m) (set table i r))
    ∙ ap (λ (p : List Row). take i table ++ (r ∷ (left ++ p))) (drop-set-lt (i + 1 + m) table i r (omega arith))
    ∙ (let e : i + 1 + m ≡ i + suc m = omega arith in ap (λ (j : ℕ). take i table ++ (r ∷ (left ++ drop j table))) e)

-- the same of the first row of a list, at whichever index and count are these
pub filling_goes : (i n k : ℕ) (r : Row) (rows left table : List Row) → rows ≡ r ∷ left → n ≡ i → k ≡ i + 1 → i < length table
    → filling k left (length left) (set table n r) ≡ filling i rows (length rows) table
filling_goes i n k r rows left table e p q h = rw (e, p, q) (filling_stores i (length left) r left table h)

-- what `plan` stands on
pub ruleset fills = (filling_begins, filling_ends)
