-- The four checks: no number comes out exactly if all are passed, and bytes are answered only then, because each check gives a number that is not 0.
-- Assumes nothing.
use Rattle.std.specs.Prelude.{Ok, Err}
use mathlib.Core.Path.{◌≡◌, refl}
use mathlib.Core.Bool.{Bool, true, false, ◌||◌, not, true≢false}
use Prim.Native.Nat.{ℕ, ◌≤◌}
use lib.Dec.{eqb, leb, lit<}
use borrow.Author.Tests.{eqb-true, le-leb, leb-true, not-true}
use Rattle.words.specs.Checks.{pick}
use Rattle.rules.specs.Rules.{limit, start}
use Rattle.rules.specs.Verdicts.{refusal_at}
use Rattle.words.proofs.Checks.{passed}
use Rattle.join.specs.Join.{join_fault, answer_by}

pub record Passed (footer agree : Bool) (size room : ℕ) : Type 0 where
  pub no_footer : footer ≡ false
  pub agrees : agree ≡ true
  pub short : size ≤ limit
  pub fits : size ≤ room

pub all_passed : (footer agree : Bool) (size room : ℕ) → join_fault footer agree size room ≡ 0 → Passed footer agree size room
unfolding join_fault
all_passed footer agree size room e =
    let (a, e1) = passed (not footer) 30 _ (lit< tt) e in
    let (b, e2) = passed agree 9 _ (lit< tt) e1 in
    let (c, e3) = passed (leb size limit) 6 _ (lit< tt) e2 in
    let (d, e4) = passed (leb size room) 15 _ (lit< tt) e3 in
    record { no_footer = not-true footer a; agrees = b; short = leb-true _ _ c; fits = leb-true _ _ d }

pub no_fault : (footer agree : Bool) (size room : ℕ) → Passed footer agree size room → join_fault footer agree size room ≡ 0
unfolding join_fault
no_fault footer agree size room p = rw (p.no_footer, p.agrees, le-leb size limit p.short, le-leb size room p.fits)

-- the second check counts only where the first is passed
pub second_same : (footer a b : Bool) (size room : ℕ) → (footer ≡ false → a ≡ b) → join_fault footer a size room ≡ join_fault footer b size room
unfolding join_fault
second_same false a b size room h = rw (h refl)
second_same true a b size room h = refl

-- a number of bytes is answered only where no check has failed
pub answer_wrote : (number size n : ℕ) → answer_by number size ≡ Ok n → (number ≡ 0) × (size ≡ n)
answer_wrote number size n e = go (eqb number 0) refl e
  where
    go : (t : Bool) → eqb number 0 ≡ t → pick t (Ok size) (Err (refusal_at number start)) ≡ Ok n → (number ≡ 0) × (size ≡ n)
    go true h e = (eqb-true _ _ h, cc)
    go false h e = absurd (cc)

-- neither of two
pub both_false : (x y : Bool) → (x || y) ≡ false → (x ≡ false) × (y ≡ false)
both_false false false e = (refl, refl)
both_false false true e = absurd (true≢false e)
both_false true y e = absurd (true≢false e)
