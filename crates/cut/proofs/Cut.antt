-- THE CUT THEOREM: however bytes are cut into pieces, the records and the state are those of the bytes, since a call and the rest of its piece are the piece.
-- And whatever a host offers, call by call, they are those of the bytes that its calls looked at. Assumes nothing.
use mathlib.Core.Path.{◌≡◌, refl, sym}
use mathlib.Core.Logic.{inl, inr}
use mathlib.Core.List.{List, [], ◌∷◌}
use Prim.Native.Nat.{ℕ, zero, suc, ◌<◌}
use native.Mathlib.Omega.{arith}
use lib.ListN.{length, drop, length-drop}
use Rattle.cut.specs.Format.{Format, State, at, stopped, then_run, run}
use Rattle.cut.specs.Calls.{joined, Fit, step, feed, feeds, offered, looked_all}
use Rattle.cut.proofs.Runs.{run_nil, run_append, run_stopped, run_late}
use Rattle.cut.proofs.Steps.{step_stopped, step_end, step_run, step_nil, step_takes, step_looked, fit_run, fit_step}

module _ {Place Rec Fault : Type 0} (F : Format Place Rec Fault) where
  feed_suc : (n : ℕ) (s : State Place Fault) (piece : List ℕ) → feed F (suc n) s piece ≡ then_run (step F s piece).out.recs (feed F n (step F s piece).out.state (drop (step F s piece).taken piece))
  unfolding feed
  feed_suc n s piece = refl

  feed_zero : (s : State Place Fault) (piece : List ℕ) → feed F zero s piece ≡ record { recs = []; state = s }
  unfolding feed
  feed_zero s piece = refl

  feed_stopped : (n : ℕ) (f : Fault) (piece : List ℕ) → feed F n (stopped f) piece ≡ record { recs = []; state = stopped f }
  feed_stopped zero f piece = feed_zero _ _
  feed_stopped (suc n) f piece = rw (feed_suc, step_stopped, feed_stopped n f)

  feed_nil : (n : ℕ) (s : State Place Fault) → Fit F s → feed F n s [] ≡ record { recs = []; state = s }
  feed_nil zero s w = feed_zero _ _
  feed_nil (suc n) s w = rw (feed_suc, step_nil F s w, feed_nil n s w)

  -- one piece
  pub feed_run : (n : ℕ) (s : State Place Fault) (piece : List ℕ) → Fit F s → length piece < n → feed F n s piece ≡ run F s piece
  feed_run zero s piece w l = absurd (omega arith)
  feed_run (suc n) (stopped f) piece w l = rw (feed_stopped, run_stopped)
  feed_run (suc n) (at p h) [] w l = rw (feed_nil (suc n) (at p h) w, run_nil)
  feed_run (suc n) (at p h) (b ∷ bs) (inr w) l =
      rw (feed_suc, step_end F p h (b ∷ bs) w.0, feed_stopped, w.1, run_late F p b bs w.0)
  feed_run (suc n) (at p h) (b ∷ bs) (inl k) l =
      let t = step_takes F p h b bs k in
      let m : length (drop (step F (at p h) (b ∷ bs)).taken (b ∷ bs)) < n = simp length-drop (omega arith) in
      rw (feed_suc, feed_run n _ _ (fit_step F (at p h) (b ∷ bs) (inl k)) m) (sym (step_run F (at p h) (b ∷ bs) (inl k)))

  -- pieces, each offered until it is used up or refused
  pub cut : (s : State Place Fault) (ps : List (List ℕ)) → Fit F s → feeds F s ps ≡ run F s (joined ps)
  unfolding feeds
  cut s [] w = sym (run_nil F s)
  cut s (p ∷ ps) w =
      let e : feed F (suc (length p)) s p ≡ run F s p = feed_run (suc (length p)) s p w (omega arith) in
      rw (run_append, e, cut (run F s p).state ps (fit_run F s p w))

  -- whatever a host offers, the records and the state are those of the bytes that its calls looked at
  pub any_calls : (s : State Place Fault) (ps : List (List ℕ)) → Fit F s → offered F s ps ≡ run F s (looked_all F s ps)
  unfolding offered looked_all
  any_calls s [] w = sym (run_nil F s)
  any_calls s (p ∷ ps) w =
      rw (run_append, ← step_looked F s p w, any_calls (step F s p).out.state ps (fit_step F s p w))
