-- Runs over bytes: one after the other is one run, and whole records may be taken at a time, because a run goes byte by byte. Assumes nothing.
use mathlib.Core.Path.{◌≡◌, refl, sym, ap, ◌∙◌}
use mathlib.Core.List.{List, [], ◌∷◌, ◌++◌, append_assoc, append-nil}
use Prim.Native.Nat.{ℕ, suc, ◌+◌, ◌≤◌, ◌<◌}
use native.Mathlib.Omega.{arith}
use lib.ListN.{length, take, drop, length-append, length-take, take-append-drop}
use borrow.Author.Tests.{lt-ltb, le-ltb, eq-eqb, ne_eqb}
use Rattle.cut.specs.Format.{Format, State, at, stopped, settle, then_run, fill, push, run}

module _ {Place Rec Fault : Type 0} (F : Format Place Rec Fault) where
  pub run_nil : (s : State Place Fault) → run F s [] ≡ record { recs = []; state = s }
  unfolding run
  run_nil s = refl

  pub run_cons : (s : State Place Fault) (b : ℕ) (bs : List ℕ) → run F s (b ∷ bs) ≡ then_run (push F s b).recs (run F (push F s b).state bs)
  unfolding run
  run_cons s b bs = refl

  pub run_append : (s : State Place Fault) (xs ys : List ℕ) → run F s (xs ++ ys) ≡ then_run (run F s xs).recs (run F (run F s xs).state ys)
  unfolding run
  run_append s [] ys = refl
  run_append s (b ∷ bs) ys = rw (run_append (push F s b).state bs ys, append_assoc)

  pub run_stopped : (f : Fault) (bs : List ℕ) → run F (stopped f) bs ≡ record { recs = []; state = stopped f }
  unfolding run push
  run_stopped f [] = refl
  run_stopped f (b ∷ bs) = rw (run_stopped f bs)

  -- the four things that one byte can do
  pub push_late : (p : Place) (h : List ℕ) (b : ℕ) → F.due p ≡ 0 → push F (at p h) b ≡ record { recs = []; state = stopped (F.late p) }
  unfolding push
  push_late p h b e = simp (eq-eqb _ _ e)

  pub push_short : (p : Place) (h : List ℕ) (b : ℕ) → suc (length h) < F.due p → push F (at p h) b ≡ record { recs = []; state = at p (h ++ (b ∷ [])) }
  unfolding push fill
  push_short p h b l =
      let l'' : length (h ++ (b ∷ [])) < F.due p = simp length-append (omega arith) in
      let z : F.due p ≡ 0 → ⊥ = λ e. omega arith in
      simp (ne_eqb _ _ z, lt-ltb _ _ l'')

  pub push_full : (p : Place) (h : List ℕ) (b : ℕ) → suc (length h) ≡ F.due p → push F (at p h) b ≡ settle (F.judge p (h ++ (b ∷ [])))
  unfolding push fill
  push_full p h b e =
      let l'' : F.due p ≤ length (h ++ (b ∷ [])) = simp length-append (omega arith) in
      let z : F.due p ≡ 0 → ⊥ = λ e'. omega arith in
      simp (ne_eqb _ _ z, le-ltb _ _ l'')

  -- one byte after the end
  pub run_late : (p : Place) (b : ℕ) (bs : List ℕ) → F.due p ≡ 0 → run F (at p []) (b ∷ bs) ≡ record { recs = []; state = stopped (F.late p) }
  run_late p b bs e = rw (run_cons, push_late p [] b e, run_stopped)

  -- fewer bytes than are missing: they are held
  pub run_short : (p : Place) (h bs : List ℕ) → length h + length bs < F.due p → run F (at p h) bs ≡ record { recs = []; state = at p (h ++ bs) }
  run_short p h [] l = rw (run_nil, append-nil)
  run_short p h (b ∷ bs) l =
      let l' : length (h ++ (b ∷ [])) + length bs < F.due p = simp length-append (omega arith) in
      rw (run_cons, push_short p h b (omega arith), run_short p (h ++ (b ∷ [])) bs l', append_assoc)

  -- as many bytes as are missing: the record is judged
  pub run_full : (p : Place) (h bs : List ℕ) → length h < F.due p → length h + length bs ≡ F.due p → run F (at p h) bs ≡ settle (F.judge p (h ++ bs))
  run_full p h [] l e = absurd (omega arith)
  run_full p h (b ∷ []) l e = rw (run_cons, push_full p h b (omega arith), run_nil, append-nil)
  run_full p h (b ∷ (a ∷ bs)) l e =
      let l' : length (h ++ (b ∷ [])) < F.due p = simp length-append (omega arith) in
      let e'' : length (h ++ (b ∷ [])) + length (a ∷ bs) ≡ F.due p = simp length-append (omega arith) in
      rw (run_cons, push_short p h b (omega arith), run_full p (h ++ (b ∷ [])) (a ∷ bs) l' e'', append_assoc)

  -- a whole buffer, record by record: the first record is there, and the rest follows from where it ends
  pub run_record : (p : Place) (bs : List ℕ) → 0 < F.due p → F.due p ≤ length bs
      → run F (at p []) bs ≡ then_run (settle (F.judge p (take (F.due p) bs))).recs (run F (settle (F.judge p (take (F.due p) bs))).state (drop (F.due p) bs))
  run_record p bs l g =
      let q : 0 + length (take (F.due p) bs) ≡ F.due p = simp length-take (omega arith) in
      ap (run F (at p [])) (sym (take-append-drop (F.due p) bs)) ∙ run_append (at p []) (take (F.due p) bs) (drop (F.due p) bs) ∙ rw (run_full p [] (take (F.due p) bs) l q)
