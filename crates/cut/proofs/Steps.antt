-- One call: a call and the rest of its piece are the piece, and a call keeps to the states that fit. Assumes nothing.
use mathlib.Core.Path.{◌≡◌, refl, sym, ap, ◌∙◌}
use mathlib.Core.Logic.{inl, inr}
use mathlib.Core.Bool.{Bool, true, false}
use mathlib.Core.List.{List, [], ◌∷◌, ◌++◌, append-nil}
use Prim.Native.Nat.{ℕ, zero, suc, ◌+◌, ◌-◌, ◌≤◌, ◌<◌, min}
use native.Mathlib.Omega.{arith}
use lib.ListN.{length, take, drop, length-append, length-take, take-append-drop}
use lib.Seq.{take-length, drop-length}
use lib.Dec.{ltb, eqb}
use borrow.Author.Tests.{ltb-true, ltb-false, lt-ltb, le-ltb, eq-eqb, ne_eqb}
use Rattle.words.specs.Checks.{pick}
use Rattle.cut.specs.Format.{Format, Judged, good, bad, State, at, stopped, settle, then_run, fill, push, run}
use Rattle.cut.specs.Calls.{Fit, end_step, in_step, step, looked}
use Rattle.cut.proofs.Runs.{run_nil, run_append, run_stopped, run_late, run_short, run_full}

module _ {Place Rec Fault : Type 0} (F : Format Place Rec Fault) where
  pub step_stopped : (f : Fault) (piece : List ℕ) → step F (stopped f) piece ≡ record { taken = 0; out = record { recs = []; state = stopped f } }
  unfolding step
  step_stopped f piece = refl

  pub step_end : (p : Place) (h piece : List ℕ) → F.due p ≡ 0 → step F (at p h) piece ≡ end_step F p h piece
  unfolding step
  step_end p h piece e = simp (eq-eqb _ _ e)

  pub step_short : (p : Place) (h piece : List ℕ) → length h + length piece < F.due p
      → step F (at p h) piece ≡ record { taken = length piece; out = record { recs = []; state = at p (h ++ piece) } }
  unfolding step fill
  step_short p h piece l =
      let z : F.due p ≡ 0 → ⊥ = λ e. omega arith in
      let m : min (length piece) (F.due p - length h) ≡ length piece = omega arith in
      let l'' : length (h ++ piece) < F.due p = simp length-append (omega arith) in
      rw (ne_eqb _ _ z, m, take-length, lt-ltb _ _ l'')

  pub step_full : (p : Place) (h piece : List ℕ) → length h < F.due p → F.due p ≤ length h + length piece
      → step F (at p h) piece ≡ record { taken = F.due p - length h; out = settle (F.judge p (h ++ take (F.due p - length h) piece)) }
  unfolding step fill
  step_full p h piece l g =
      let z : F.due p ≡ 0 → ⊥ = λ e. omega arith in
      let m : min (length piece) (F.due p - length h) ≡ F.due p - length h = omega arith in
      let l'' : F.due p ≤ length (h ++ take (F.due p - length h) piece) = simp (length-append, length-take) (omega arith) in
      rw (ne_eqb _ _ z, m, le-ltb _ _ l'')

  -- a call, and the rest of its piece, are the piece
  pub step_run : (s : State Place Fault) (piece : List ℕ) → Fit F s
      → run F s piece ≡ then_run (step F s piece).out.recs (run F (step F s piece).out.state (drop (step F s piece).taken piece))
  step_run (stopped f) piece w = rw (step_stopped, run_stopped)
  step_run (at p h) piece (inr w) = go h piece w.1
    where
      go : (h piece : List ℕ) → h ≡ [] → run F (at p h) piece ≡ then_run (step F (at p h) piece).out.recs (run F (step F (at p h) piece).out.state (drop (step F (at p h) piece).taken piece))
      go h [] e = rw (step_end p h [] w.0)
      go h (b ∷ bs) e = rw (step_end p h (b ∷ bs) w.0, e, run_late F p b bs w.0, run_stopped)
  step_run (at p h) piece (inl l) = go (ltb (length h + length piece) (F.due p)) refl
    where
      go : (t : Bool) → ltb (length h + length piece) (F.due p) ≡ t → run F (at p h) piece ≡ then_run (step F (at p h) piece).out.recs (run F (step F (at p h) piece).out.state (drop (step F (at p h) piece).taken piece))
      go true e =
          let k : length h + length piece < F.due p = ltb-true _ _ e in
          rw (step_short p h piece k, run_short F p h piece k, drop-length, run_nil)
      go false e =
          let k : F.due p ≤ length h + length piece = ltb-false _ _ e in
          let n = F.due p - length h in
          let q : length h + length (take n piece) ≡ F.due p = simp length-take (omega arith) in
          rw (step_full p h piece l k) (ap (run F (at p h)) (sym (take-append-drop n piece)) ∙ run_append F (at p h) (take n piece) (drop n piece) ∙ rw (run_full F p h (take n piece) l q))

  -- fitness is kept
  fit_new : (p : Place) → Fit F (at p [])
  fit_new p = go (F.due p) refl
    where
      go : (n : ℕ) → F.due p ≡ n → Fit F (at p [])
      go zero e = inr (e, refl)
      go (suc n) e = inl (omega arith)

  fit_settle : (j : Judged Place Rec Fault) → Fit F (settle j).state
  fit_settle (good p r) = fit_new p
  fit_settle (bad f) = tt

  fit_fill : (p : Place) (h : List ℕ) → Fit F (fill F p h).state
  unfolding fill
  fit_fill p h = go (ltb (length h) (F.due p)) refl
    where
      go : (t : Bool) → ltb (length h) (F.due p) ≡ t → Fit F (pick t (record { recs = []; state = at p h }) (settle (F.judge p h))).state
      go true e = inl (ltb-true _ _ e)
      go false e = fit_settle (F.judge p h)

  pub fit_push : (s : State Place Fault) (b : ℕ) → Fit F (push F s b).state
  unfolding push
  fit_push (stopped f) b = tt
  fit_push (at p h) b = go (eqb (F.due p) 0)
    where
      go : (t : Bool) → Fit F (pick t (record { recs = []; state = stopped (F.late p) }) (fill F p (h ++ (b ∷ [])))).state
      go true = tt
      go false = fit_fill p (h ++ (b ∷ []))

  pub fit_run : (s : State Place Fault) (bs : List ℕ) → Fit F s → Fit F (run F s bs).state
  unfolding run
  fit_run s [] w = w
  fit_run s (b ∷ bs) w = fit_run (push F s b).state bs (fit_push s b)

  pub fit_step : (s : State Place Fault) (piece : List ℕ) → Fit F s → Fit F (step F s piece).out.state
  unfolding step
  fit_step (stopped f) piece w = tt
  fit_step (at p h) piece w = go (eqb (F.due p) 0) piece
    where
      go : (t : Bool) (piece : List ℕ) → Fit F (pick t (end_step F p h piece) (in_step F p h piece (min (length piece) (F.due p - length h)))).out.state
      go true [] = w
      go true (b ∷ bs) = tt
      go false piece = fit_fill p _

  -- a reader that has neither refused nor ended takes a byte of a piece that is not empty; none takes more than there is
  pub step_takes : (p : Place) (h : List ℕ) (b : ℕ) (bs : List ℕ) → length h < F.due p → 0 < (step F (at p h) (b ∷ bs)).taken
  unfolding step
  step_takes p h b bs l =
      let z : F.due p ≡ 0 → ⊥ = λ e. omega arith in
      rw (ne_eqb _ _ z) (omega arith)

  -- an empty piece changes nothing
  pub step_nil : (s : State Place Fault) → Fit F s → step F s [] ≡ record { taken = 0; out = record { recs = []; state = s } }
  step_nil (stopped f) w = step_stopped f []
  step_nil (at p h) (inr w) = step_end p h [] w.0
  step_nil (at p h) (inl l) = let k : length h + length {A = ℕ} [] < F.due p = omega arith in rw (step_short p h [] k, append-nil)

  pub step_looked : (s : State Place Fault) (piece : List ℕ) → Fit F s → (step F s piece).out ≡ run F s (looked F s piece)
  unfolding looked
  step_looked (stopped f) piece w = rw (step_stopped, run_stopped)
  step_looked (at p h) [] (inr w) = rw (step_end p h [] w.0, eq-eqb _ _ w.0, run_nil)
  step_looked (at p h) (b ∷ bs) (inr w) = rw (step_end p h (b ∷ bs) w.0, eq-eqb _ _ w.0, w.1, run_late F p b [] w.0)
  step_looked (at p h) piece (inl l) = go (ltb (length h + length piece) (F.due p)) refl
    where
      z : F.due p ≡ 0 → ⊥
      z = λ e. omega arith

      go : (t : Bool) → ltb (length h + length piece) (F.due p) ≡ t → (step F (at p h) piece).out ≡ run F (at p h) (pick (eqb (F.due p) 0) (take 1 piece) (take (min (length piece) (F.due p - length h)) piece))
      go true e =
          let k : length h + length piece < F.due p = ltb-true _ _ e in
          let m : min (length piece) (F.due p - length h) ≡ length piece = omega arith in
          rw (step_short p h piece k, ne_eqb _ _ z, m, take-length, run_short F p h piece k)
      go false e =
          let k : F.due p ≤ length h + length piece = ltb-false _ _ e in
          let n = F.due p - length h in
          let m : min (length piece) (F.due p - length h) ≡ F.due p - length h = omega arith in
          let q : length h + length (take n piece) ≡ F.due p = simp length-take (omega arith) in
          rw (step_full p h piece l k, ne_eqb _ _ z, m, run_full F p h (take n piece) l q)
