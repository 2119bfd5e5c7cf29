-- The claims of the rows, because what lies between two bytes of a file is what lies there of its first segment, and of those behind it. Assumes nothing.
use mathlib.Core.Path.{◌≡◌, sym, ap, ◌∙◌}
use mathlib.Core.Bool.{true}
use mathlib.Core.List.{List, [], ◌∷◌, ◌++◌}
use Prim.Native.Nat.{ℕ, zero, suc, ◌+◌, ◌-◌, min, max, ◌≤◌, ◌<◌}
use native.Mathlib.Nat.{sub-zero, zero-sub, suc-sub-suc, zero-min, min-zero, suc-min-suc}
use native.Mathlib.Omega.{arith}
use lib.ListN.{length, take}
use lib.Seq.{take-nil, drop-nil}
use borrow.Author.Tests.{lt-ltb, ltb-true}
use Rattle.words.specs.Le.{part}
use Rattle.layout.specs.Layout.{Segment, Each, sum_of, joined}
use Rattle.plan.specs.Plan.{Extent, behind, from, up_to, shares, row_for, rows_for, file_bytes}
use Rattle.plan.specs.Claims.{Common, Taken, Store, unpacked, fetched, Honest, stretch, RowsClaim}
use Rattle.plan.specs.declared.Row.{Row}
use Rattle.plan.proofs.Steps.{share, row_by, others, by_step}

-- ## One segment

-- the first byte that may be common, if there is one
common_from : (a b : ℕ) (e : Extent) → shares a b e ≡ true → (i : ℕ) × Common a b e i
common_from a b e t =
    let h : max a e.before < min b (behind e) = ltb-true (from a e) (up_to b e) t in
    (max a e.before, record { from = omega arith; below = omega arith; in_segment = omega arith; not_behind = omega arith })

common_to : (a b : ℕ) (e : Extent) (i : ℕ) → Common a b e i → shares a b e ≡ true
common_to a b e i c = lt-ltb (from a e) (up_to b e) (omega (arith, c.from, c.below, c.in_segment, c.not_behind))

-- between two bytes of the file: those that a row takes
taken_of : (n x y i : ℕ) → n ≤ x → x ≤ i → i < y → (n + (x - n) ≤ i) × (i < n + (x - n) + (y - x))
taken_of n x y i h l r = (omega arith, omega arith)

of_taken : (n x y i : ℕ) → n ≤ x → n + (x - n) ≤ i → i < n + (x - n) + (y - x) → (x ≤ i) × (i < y)
of_taken n x y i h l r = (omega arith, omega arith)

row_to : (a b : ℕ) (e : Extent) (i : ℕ) → Common a b e i → Taken e (row_for a b e) i
row_to a b e i c =
    let t = taken_of e.before (from a e) (up_to b e) i (omega arith) (omega (arith, c.from, c.in_segment)) (omega (arith, c.below, c.not_behind)) in
    record { from = t.0; below = t.1 }

row_from : (a b : ℕ) (e : Extent) (i : ℕ) → Taken e (row_for a b e) i → Common a b e i
row_from a b e i t =
    let c = of_taken e.before (from a e) (up_to b e) i (omega arith) t.from t.below in
    let l : max a e.before ≤ i = c.0 in
    let r : i < min b (behind e) = c.1 in
    record { from = omega (arith, l); below = omega (arith, r); in_segment = omega (arith, l); not_behind = omega (arith, r) }

-- ## Their number

few_are : (a b : ℕ) (ss : List Segment) → length (rows_for a b ss) ≤ length ss
unfolding rows_for
few_are a b [] = omega arith
few_are a b (s ∷ ss) =
    let ih : length (others a b s ss) ≤ length ss = few_are (a - s.bytes) (b - s.bytes) ss in
    by_step a b s ss (λ l. length l ≤ length (s ∷ ss)) (λ t. omega arith) (λ t. omega arith)

-- ## Their takes

some_byte_each : (a b : ℕ) (ss : List Segment) → Each (λ r. 0 < r.take) (rows_for a b ss)
unfolding rows_for
some_byte_each a b [] = tt
some_byte_each a b (s ∷ ss) =
    let ih = some_byte_each (a - s.bytes) (b - s.bytes) ss in
    by_step a b s ss (λ l. Each (λ r. 0 < r.take) l) (λ t. (t, ih)) (λ t. ih)

abbrev taken : List Row → ℕ
taken rows = sum_of (λ r. r.take) rows

-- a part of a file, by that of its first segment and that of the others
min_sum : (x n f : ℕ) → min x (n + f) ≡ min x n + min (x - n) f
min_sum x n f = omega arith

takes_add : (p q r s : ℕ) → q ≤ p → s ≤ r → (p - q) + (r - s) ≡ p + r - (q + s)
takes_add p q r s h l = omega arith

min_le : (x y n : ℕ) → x ≤ y → min x n ≤ min y n
min_le x y n h = omega arith

takes_cut : (a b n f : ℕ) → a ≤ b → (min b n - min a n) + (min (b - n) f - min (a - n) f) ≡ min b (n + f) - min a (n + f)
takes_cut a b n f h =
    takes_add (min b n) (min a n) (min (b - n) f) (min (a - n) f) (min_le a b n h) (min_le (a - n) (b - n) f (omega arith))
    ∙ rw (min_sum b n f, min_sum a n f)

sub_le : (x y n : ℕ) → x ≤ y → x - n ≤ y - n
sub_le x y n h = omega arith

none_taken : (n k x : ℕ) → n ≤ 0 → n + k ≡ x → k ≡ x
none_taken n k x t e = omega arith

takes_from : (a b : ℕ) (ss : List Segment) → a ≤ b → taken (rows_for a b ss) ≡ min b (file_bytes ss) - min a (file_bytes ss)
unfolding rows_for
takes_from a b [] h = omega arith
takes_from a b (s ∷ ss) h =
    let n : ℕ = s.bytes in
    let both : (share a b s).take + taken (others a b s ss) ≡ min b (n + file_bytes ss) - min a (n + file_bytes ss) =
    ap (λ (k : ℕ). (share a b s).take + k) (takes_from (a - n) (b - n) ss (sub_le a b n h)) ∙ takes_cut a b n (file_bytes ss) h in
    by_step a b s ss (λ l. taken l ≡ min b (n + file_bytes ss) - min a (n + file_bytes ss)) (λ t. both) (λ t. none_taken (share a b s).take _ _ t both)

takes_are : (a b : ℕ) (ss : List Segment) → a ≤ b → b ≤ file_bytes ss → taken (rows_for a b ss) ≡ b - a
takes_are a b ss h l =
    let x : min b (file_bytes ss) ≡ b = omega arith in
    let y : min a (file_bytes ss) ≡ a = omega arith in
    takes_from a b ss h ∙ rw (x, y)

-- ## Their bytes

-- a part of two lists, one behind the other
part_append : (p q : ℕ) (xs ys : List ℕ) → part p q (xs ++ ys) ≡ part (min p (length xs)) (min q (length xs)) xs ++ part (p - length xs) (q - length xs) ys
part_append p q [] ys = simp (sub-zero, min-zero)
part_append zero zero (x ∷ xs) ys = simp (zero-sub, zero-min)
part_append zero (suc q) (x ∷ xs) ys = simp (sub-zero, zero-sub, suc-sub-suc, zero-min, suc-min-suc) (ap (λ (l : List ℕ). x ∷ l) (simp (sub-zero, zero-sub, zero-min) at (part_append zero q xs ys)))
part_append (suc p) zero (x ∷ xs) ys = simp (zero-sub, zero-min)
part_append (suc p) (suc q) (x ∷ xs) ys = simp (suc-sub-suc, suc-min-suc) (part_append p q xs ys)

take_none : (n : ℕ) (l : List ℕ) → n ≤ 0 → take n l ≡ []
take_none n l t = let z : n ≡ 0 = omega arith in ap (λ (k : ℕ). take k l) z

bytes_are : (store : Store) (a b : ℕ) (ss : List Segment) → Honest store ss → joined (fetched store) (rows_for a b ss) ≡ stretch store a b ss
unfolding rows_for
bytes_are store a b [] h = sym (ap (take (b - a)) (drop-nil a) ∙ take-nil (b - a))
bytes_are store a b (s ∷ ss) (h, hs) =
    let here : List ℕ = fetched store (row_by s (share a b s)) in
    let both : here ++ joined (fetched store) (others a b s ss) ≡ stretch store a b (s ∷ ss) =
    ap (λ (l : List ℕ). here ++ l) (bytes_are store (a - s.bytes) (b - s.bytes) ss hs)
    ∙ sym (part_append a b (unpacked store s) (joined (unpacked store) ss) ∙ rw h) in
    by_step a b s ss (λ l. joined (fetched store) l ≡ stretch store a b (s ∷ ss)) (λ t. both) (λ t. sym (ap (λ (l : List ℕ). l ++ joined (fetched store) (others a b s ss)) (take_none _ _ t)) ∙ both)

pub rows : RowsClaim
rows = record {
  shares_if = λ a b e. (common_from a b e, (λ c. common_to a b e c.0 c.1));
  row = λ a b e i t. (row_to a b e i, row_from a b e i);
  some_byte = some_byte_each;
  takes = takes_are;
  few = few_are;
  bytes = bytes_are;
}
