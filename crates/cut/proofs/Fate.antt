-- Every input has its fate: while the record due is all there and good, the rest has one. Assumes nothing.
use Prim.Native.Nat.{ℕ, zero, suc, ◌≤◌, ◌<◌}
use mathlib.Core.Path.{◌≡◌, refl, sym, ap, ◌∙◌, subst}
use mathlib.Core.Bool.{Bool, true, false}
use mathlib.Core.List.{List, [], ◌∷◌, ◌++◌, append_assoc}
use native.Mathlib.Omega.{arith}
use lib.ListN.{length, take, drop, length-drop, length-take, take-append-drop}
use lib.Dec.{ltb, eqb}
use borrow.Author.Tests.{ltb-true, ltb-false, eqb-true, eqb-false}
use Rattle.cut.specs.Format.{Format, Judged, good, bad, State, at, stopped, Run, run}
use Rattle.cut.specs.Fate.{Reads, none, more, Ending, early, done, over, faulty, Fate}
use Rattle.cut.proofs.Runs.{run_nil, run_late, run_short, run_record, run_stopped}

module _ {Place Rec Fault : Type 0} where
  -- a fate, by what the run is equal to
  fate_of : (F : Format Place Rec Fault) (p q : Place) (bs xs rest : List ℕ) (rs : List Rec) (s : State Place Fault) → run F (at p []) bs ≡ record { recs = rs; state = s }
      → bs ≡ xs ++ rest → Reads F p xs rs q → Ending F q rest s → Fate F p bs
  fate_of F p q bs xs rest rs s e d r x = record {
    before = xs;
    rest = rest;
    place = q;
    split = d;
    reads = subst (λ (y : Run Place Rec Fault). Reads F p xs y.recs q) (sym e) r;
    ending = subst (λ (y : Run Place Rec Fault). Ending F q rest y.state) (sym e) x;
  }

  fate_more : (F : Format Place Rec Fault) (p q : Place) (r : Rec) (bs : List ℕ) → 0 < F.due p → F.due p ≤ length bs → F.judge p (take (F.due p) bs) ≡ good q r
      → Fate F q (drop (F.due p) bs) → Fate F p bs
  fate_more F p q r bs l g j o =
      let n : ℕ = F.due p in
      let k : length (take n bs) ≡ n = simp length-take (omega arith) in
      fate_of F p o.place bs (take n bs ++ o.before) o.rest (r ∷ (run F (at q []) (drop n bs)).recs) (run F (at q []) (drop n bs)).state
      (run_record F p bs l g ∙ rw j)
      (sym (take-append-drop n bs) ∙ ap (λ (y : List ℕ). take n bs ++ y) o.split ∙ sym (append_assoc (take n bs) o.before o.rest))
      (more l k j o.reads)
      o.ending

  -- EVERY input has its fate
  fate_by : (F : Format Place Rec Fault) (n : ℕ) (p : Place) (bs : List ℕ) → length bs < n → Fate F p bs
  fate_by F zero p bs l = absurd (omega arith)
  fate_by F (suc n) p bs l = go (eqb (F.due p) 0) refl (ltb (length bs) (F.due p)) refl (F.judge p (take (F.due p) bs)) refl (fate_by F n)
    where
      ends : (cs : List ℕ) → F.due p ≡ 0 → Fate F p cs
      ends [] z = fate_of F p p [] [] [] [] (at p []) (run_nil F (at p [])) refl none (done z refl)
      ends (b ∷ cs) z = fate_of F p p (b ∷ cs) [] (b ∷ cs) [] (stopped (F.late p)) (run_late F p b cs z) refl none (over b cs z refl)

      go : (t : Bool) → eqb (F.due p) 0 ≡ t → (u : Bool) → ltb (length bs) (F.due p) ≡ u → (j : Judged Place Rec Fault) → F.judge p (take (F.due p) bs) ≡ j
          → ((q : Place) (cs : List ℕ) → length cs < n → Fate F q cs) → Fate F p bs
      go true e u v j w ih = ends bs (eqb-true _ _ e)
      go false e true v j w ih =
          let k : length bs < F.due p = ltb-true _ _ v in
          fate_of F p p bs [] bs [] (at p bs) (run_short F p [] bs (omega arith)) refl none (early k)
      go false e false v (bad f) w ih =
          let z : F.due p ≡ 0 → ⊥ = eqb-false _ _ e in
          let k : F.due p ≤ length bs = ltb-false _ _ v in
          fate_of F p p bs [] bs [] (stopped f) (run_record F p bs (omega arith) k ∙ rw (w, run_stopped F f (drop (F.due p) bs))) refl none (faulty f (omega arith) k w)
      go false e false v (good q r) w ih =
          let z : F.due p ≡ 0 → ⊥ = eqb-false _ _ e in
          let k : F.due p ≤ length bs = ltb-false _ _ v in
          fate_more F p q r bs (omega arith) k w (ih q (drop (F.due p) bs) (simp length-drop (omega arith)))

  pub fate : (F : Format Place Rec Fault) (p : Place) (bs : List ℕ) → Fate F p bs
  fate F p bs = fate_by F (suc (length bs)) p bs (omega arith)
