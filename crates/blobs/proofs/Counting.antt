-- The steps of a scan, by the position as a loop has it: an entry has more than one byte, so there is a step left for each. Assumes nothing.
use Rattle.std.specs.Prelude.{Result, Ok, Err}
use mathlib.Core.Path.{◌≡◌, refl, sym, ◌∙◌}
use Prim.Native.Nat.{ℕ, zero, suc, ◌+◌, ◌-◌, ◌*◌, ◌≤◌, ◌<◌}
use native.Mathlib.Omega.{arith}
use mathlib.Core.List.{List}
use lib.ListN.{length, take, drop, length-drop}
use lib.Seq.{take_all, drop-drop}
use borrow.Author.Tests.{le-leb, lt-leb}
use Rattle.words.specs.Refusals.{refused_at}
use Rattle.blobs.specs.declared.Tally.{Tally}
use Rattle.blobs.specs.Blobs.{whole_of, go_on, with_entry, none, scan_from, scan_of}
use Rattle.blobs.proofs.Entries.{ends_within}

-- nothing is left
pub scan_end : (k : ℕ) (s : List ℕ) (at : ℕ) (t : Tally) → length s ≤ at → scan_from k s at t ≡ Ok t
unfolding scan_from
scan_end zero s at t h = refl
scan_end (suc k) s at t h = rw (le-leb _ _ h)

-- something is left: an entry is passed, or refused
module _ (k : ℕ) (s : List ℕ) (at : ℕ) (t : Tally) (h : at < length s) where
  scan_step : {w : Result ℕ ℕ} → whole_of (drop at s) ≡ w → scan_from (suc k) s at t ≡ go_on at w (λ n. scan_from k s (at + 110 + n) (with_entry t n))
  unfolding scan_from
  scan_step e = rw (lt-leb _ _ h, e)

  pub scan_past : {n : ℕ} → whole_of (drop at s) ≡ Ok n → scan_from (suc k) s at t ≡ scan_from k s (at + 110 + n) (with_entry t n)
  scan_past e = scan_step e

  pub scan_stop : {number : ℕ} → whole_of (drop at s) ≡ Err number → scan_from (suc k) s at t ≡ Err (refused_at at number)
  scan_stop e = scan_step e

-- ## A scan so far: it has come to a position, where this rest is left, having counted so much

pub record SoFar (s rest : List ℕ) (t : Tally) : Type 0 where
  pub at : ℕ
  pub left : drop at s ≡ rest
  pub within : at + length rest ≡ length s
  pub sum : t.entries * 110 + t.bytes ≡ at
  pub same : scan_from (length s - t.entries) s at t ≡ scan_of s

pub so_begins : (s : List ℕ) → SoFar s s none
unfolding scan_of
so_begins s = record { at = 0; left = refl; within = omega arith; sum = omega arith; same = let e : length s - 0 ≡ length s = omega arith in rw e }

module _ {s rest : List ℕ} {t : Tally} (f : SoFar s rest t) where
  pub so_ends : length rest ≡ 0 → Ok t ≡ scan_of s
  so_ends h = let w = f.within in sym (scan_end _ s f.at _ (omega arith)) ∙ f.same

  module _ (h : 0 < length rest) where
    here : f.at < length s
    here = let w = f.within in omega arith

    step_left : scan_from (suc (length s - (t.entries + 1))) s f.at t ≡ scan_of s
    step_left =
        let z = f.sum in
        let i = here in
        let e : suc (length s - (t.entries + 1)) ≡ length s - t.entries = omega arith in
        rw e f.same

    pub so_refused : {number : ℕ} → whole_of rest ≡ Err number → Err (refused_at (length s - length rest) number) ≡ scan_of s
    so_refused {number} e =
        let w = f.within in
        let p : length s - length rest ≡ f.at = omega arith in
        rw p (sym (scan_stop _ s f.at _ here (rw f.left e)) ∙ step_left)

    -- behind the entry the code lends what is left
    pub so_on : {n : ℕ} → whole_of rest ≡ Ok n → SoFar s (take (length rest - (110 + n)) (drop (110 + n) rest)) (with_entry t n)
    so_on {n} e =
        let b : whole_of (drop f.at s) ≡ Ok n = rw f.left e in
        let w = ends_within s f.at b in
        let i = f.within in
        let l = length-drop (110 + n) rest in
        let z = f.sum in
        let q : f.at + 110 + n ≡ f.at + (110 + n) = omega arith in
        rw (take_all (length rest - (110 + n)) (drop (110 + n) rest) (omega arith)) (record {
          at = f.at + 110 + n;
          left = rw (q, ← drop-drop (110 + n) f.at s, f.left);
          within = omega arith;
          sum = omega arith;
          same = sym (scan_past _ s f.at _ here b) ∙ step_left;
        })
