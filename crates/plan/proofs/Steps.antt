-- The rows of a segment and of those behind it are its own row, where it shares a byte with the range, and the rows of the others for the range counted from
-- the byte behind it; because moving file and range together by n bytes changes no share. Assumes nothing.
use mathlib.Core.Path.{◌≡◌, refl, sym, ap, ◌∙◌, subst}
use mathlib.Core.Bool.{Bool, true, false}
use mathlib.Core.List.{List, [], ◌∷◌, map}
use Prim.Native.Nat.{ℕ, ◌+◌, ◌-◌, min, max, ◌≤◌, ◌<◌}
use native.Mathlib.Nat.{sub-zero}
use native.Mathlib.Omega.{arith}
use lib.Dec.{ltb}
use borrow.Author.Tests.{lt-ltb, ltb-true, ltb-false}
use Rattle.words.specs.Checks.{pick}
use Rattle.rules.proofs.Tests.{same_test}
use Rattle.layout.specs.Layout.{Segment}
use Rattle.plan.specs.Plan.{Extent, extents_from, from, up_to, shares, row_for, only_if, rows_for}
use Rattle.plan.specs.Walk.{share_of}
use Rattle.plan.specs.declared.Row.{Row}
use Rattle.plan.specs.declared.rows.Share.{Share}

-- a segment behind n bytes of its file, and the rows of segments behind n bytes
abbrev extent : ℕ → Segment → Extent
extent n s = record { segment = s; before = n }

abbrev rows_behind : ℕ → ℕ → ℕ → List Segment → List Row
rows_behind a b n ss = map (row_for a b) (only_if (shares a b) (extents_from n ss))

-- ## Moving

same_less : (x y z w : ℕ) → (x < y → z < w) → (z < w → x < y) → ltb x y ≡ ltb z w
same_less x y z w f g = same_test (ltb x y) (ltb z w) (λ e. lt-ltb z w (f (ltb-true x y e))) (λ e. lt-ltb x y (g (ltb-true z w e)))

both_moved : (n x y : ℕ) → n + y - (n + x) ≡ y - x
both_moved n x y = omega arith

module _ (a b n : ℕ) where
  moved_shares : (k : ℕ) (s : Segment) → shares a b (extent (n + k) s) ≡ shares (a - n) (b - n) (extent k s)
  moved_shares k s = same_less (from a (extent (n + k) s)) (up_to b (extent (n + k) s)) (from (a - n) (extent k s)) (up_to (b - n) (extent k s)) (λ h. omega arith) (λ h. omega arith)

  moved_row : (k : ℕ) (s : Segment) → shares a b (extent (n + k) s) ≡ true → row_for a b (extent (n + k) s) ≡ row_for (a - n) (b - n) (extent k s)
  moved_row k s t =
      let h : max a (n + k) < min b (n + k + s.bytes) = ltb-true (max a (n + k)) (min b (n + k + s.bytes)) t in
      let x : max a (n + k) ≡ n + max (a - n) k = omega arith in
      let y : min b (n + k + s.bytes) ≡ n + min (b - n) (k + s.bytes) = omega arith in
      rw (x, y, both_moved n (max (a - n) k) (min (b - n) (k + s.bytes)), both_moved n k (max (a - n) k))

  moved : (k : ℕ) (ss : List Segment) → rows_behind a b (n + k) ss ≡ rows_behind (a - n) (b - n) k ss
  moved k [] = refl
  moved k (s ∷ ss) = go (shares a b (extent (n + k) s)) refl (ap (λ (m : ℕ). rows_behind a b m ss) e ∙ moved (k + s.bytes) ss)
    where
      e : n + k + s.bytes ≡ n + (k + s.bytes)
      e = omega arith

      go : (t : Bool) → shares a b (extent (n + k) s) ≡ t → rows_behind a b (n + k + s.bytes) ss ≡ rows_behind (a - n) (b - n) (k + s.bytes) ss
          → rows_behind a b (n + k) (s ∷ ss) ≡ rows_behind (a - n) (b - n) k (s ∷ ss)
      go true t ih = rw (t, sym (moved_shares k s) ∙ t) (ap (λ (r : Row). r ∷ rows_behind a b (n + k + s.bytes) ss) (moved_row k s t) ∙ ap (λ (l : List Row). row_for (a - n) (b - n) (extent k s) ∷ l) ih)
      go false t ih = rw (t, sym (moved_shares k s) ∙ t) ih

-- ## One segment

-- a row by what a segment shares with the range
abbrev pub row_by : Segment → Share → Row
row_by s share = record { xorb = s.xorb; start = record { 0 = s.start }; end = record { 0 = s.end }; skip = share.skip; take = share.take }

module _ (a b : ℕ) (s : Segment) where
  abbrev pub share : Share
  share = share_of a b s.bytes

  first_shares : shares a b (extent 0 s) ≡ ltb 0 share.take
  first_shares = same_less (from a (extent 0 s)) (up_to b (extent 0 s)) 0 share.take (λ h. omega arith) (λ h. omega arith)

  first_row : shares a b (extent 0 s) ≡ true → row_for a b (extent 0 s) ≡ row_by s share
  first_row t =
      let h : max a 0 < min b (0 + s.bytes) = ltb-true (max a 0) (min b (0 + s.bytes)) t in
      let x : max a 0 ≡ min a s.bytes = omega arith in
      let y : 0 + s.bytes ≡ s.bytes = omega arith in
      rw (x, y, sub-zero)

  module _ (ss : List Segment) where
    -- the rows of those behind it
    abbrev pub others : List Row
    others = rows_for (a - s.bytes) (b - s.bytes) ss

    others_are : rows_behind a b (0 + s.bytes) ss ≡ others
    unfolding rows_for
    others_are = let e : 0 + s.bytes ≡ s.bytes + 0 = omega arith in ap (λ (m : ℕ). rows_behind a b m ss) e ∙ moved a b s.bytes 0 ss

    pub rows_step : rows_for a b (s ∷ ss) ≡ pick (ltb 0 share.take) (row_by s share ∷ others) others
    unfolding rows_for
    rows_step = go (shares a b (extent 0 s)) refl
      where
        go : (t : Bool) → shares a b (extent 0 s) ≡ t → rows_behind a b 0 (s ∷ ss) ≡ pick (ltb 0 share.take) (row_by s share ∷ others) others
        go true t = rw (t, sym first_shares ∙ t) (ap (λ (r : Row). r ∷ rows_behind a b (0 + s.bytes) ss) (first_row t) ∙ ap (λ (l : List Row). row_by s share ∷ l) others_are)
        go false t = rw (t, sym first_shares ∙ t) others_are

    -- what holds of the rows where it has one, and where it has none, holds of them
    pub by_step : (P : List Row → Type 0) → (0 < share.take → P (row_by s share ∷ others)) → (share.take ≤ 0 → P others) → P (rows_for a b (s ∷ ss))
    by_step P f g = subst P (sym rows_step) (go (ltb 0 share.take) refl)
      where
        go : (t : Bool) → ltb 0 share.take ≡ t → P (pick t (row_by s share ∷ others) others)
        go true t = f (ltb-true 0 share.take t)
        go false t = g (ltb-false 0 share.take t)
