-- One call of any reader takes no more than there is, and a refusal hands out nothing and stays, because a call has three cases
-- (nothing is due, the piece is too short, it completes the record) and the place holds a refusal. Assumes nothing.
use Rattle.std.specs.Prelude.{Option, Result, Ok, Err}
use mathlib.Core.Path.{◌≡◌, refl, ap, ◌∙◌, subst}
use mathlib.Core.Logic.{◌⊎◌, inl, inr}
use mathlib.Core.Bool.{Bool, true, false}
use mathlib.Core.List.{List, []}
use Prim.Native.Nat.{ℕ, ◌≤◌, ◌<◌}
use native.Mathlib.Nat.{add-zero}
use native.Mathlib.Omega.{arith}
use lib.Dec.{eqb, ltb}
use lib.ListN.{length}
use lib.Seq.{paste, paste-zero}
use borrow.Author.Tests.{ne_eqb, le-ltb, eqb-true, eqb-false, ltb-true, ltb-false}
use Rattle.words.specs.Checks.{pick}
use Rattle.words.specs.declared.Words.{Words}
use Rattle.rules.specs.Rules.{size_by, size_of}
use Rattle.rules.specs.Verdicts.{refusal_at, verdict_by, verdict_at}
use Rattle.rules.specs.declared.Place.{Place}
use Rattle.rules.specs.declared.Record.{Record}
use Rattle.rules.specs.declared.Due.{Due}
use Rattle.rules.specs.declared.Due.TheVariants.{Refused}
use Rattle.words.specs.declared.Refusal.{Refusal}
use Rattle.rules.specs.Verdicts.{Verdict}
use Rattle.reader.specs.Stream.{settled, heard_in, kept, stopped_by, stopped, lacking, whole_in, step_of, verdict_of}
use Rattle.reader.specs.Readings.{record_by, EmptyClaim, NoMoreTaken, RefusedClaim}
use Rattle.reader.specs.declared.Stand.{Stand}
use Rattle.reader.specs.declared.Reader.{Reader}
use Rattle.reader.specs.declared.Step.{Step}

-- what holds of both holds of the one picked
pub either : {A : Type 0} (P : A → Type 0) (t : Bool) {x y : A} → P x → P y → P (pick t x y)
either P true a b = a
either P false a b = b

-- ## The three cases

abbrev pub completed : Reader → List ℕ → Step
completed r piece = settled r.stand (heard_in r.stand (whole_in r piece)) (lacking r.stand)

-- a whole record takes what is missing
taken_settled : (s : Stand) (h : Result Words ℕ) (taken : ℕ) → (settled s h taken).answer.taken ≡ taken
taken_settled s h taken = grind arith

module _ (r : Reader) (piece : List ℕ) where
  pub step_none : size_of r.stand.place ≡ 0 → step_of r piece ≡ stopped r (length piece)
  unfolding step_of
  step_none e = grind arith

  pub step_kept : length piece < lacking r.stand → step_of r piece ≡ kept r piece
  unfolding step_of
  step_kept l = grind arith

  pub step_completed : 0 < size_of r.stand.place → lacking r.stand ≤ length piece → step_of r piece ≡ completed r piece
  unfolding step_of
  step_completed k l =
      let z : size_of r.stand.place ≡ 0 → ⊥ = λ e. omega arith in
      rw (ne_eqb _ _ z, le-ltb _ _ l)

  -- a whole record, by what it says
  pub step_settled : 0 < size_of r.stand.place → {h : Result Words ℕ} {lacks : ℕ} → lacks ≡ lacking r.stand → lacks ≤ length piece → h ≡ heard_in r.stand (paste r.carry r.stand.have piece lacks)
      → step_of r piece ≡ settled r.stand h lacks
  step_settled k e l u = rw (u, e) (step_completed k (rw e at l))

  -- what holds in each case holds of the call
  pub by_case : (P : Step → Type 0) → (size_of r.stand.place ≡ 0 → P (stopped r (length piece))) → (length piece < lacking r.stand → P (kept r piece))
      → (0 < size_of r.stand.place → lacking r.stand ≤ length piece → P (completed r piece)) → P (step_of r piece)
  unfolding step_of
  by_case P f g h = go (eqb (size_of r.stand.place) 0) refl (ltb (length piece) (lacking r.stand)) refl
    where
      go : (t : Bool) → eqb (size_of r.stand.place) 0 ≡ t → (u : Bool) → ltb (length piece) (lacking r.stand) ≡ u → P (pick t (stopped r (length piece)) (pick u (kept r piece) (completed r piece)))
      go true e u i = f (eqb-true _ _ e)
      go false e true i = g (ltb-true _ _ i)
      go false e false i = let z : size_of r.stand.place ≡ 0 → ⊥ = eqb-false _ _ e in h (omega arith) (ltb-false _ _ i)

  -- ## Bytes taken

  pub no_more : NoMoreTaken r piece
  no_more = by_case (λ s. s.answer.taken ≤ length piece) (λ e. grind arith) (λ l. omega arith) (λ k l. rw (taken_settled r.stand (heard_in r.stand (whole_in r piece)) (lacking r.stand)) l)

  pub some_more : r.stand.have < size_of r.stand.place → 0 < length piece → 0 < (step_of r piece).answer.taken
  some_more k l = by_case (λ s. 0 < s.answer.taken) (λ e. absurd (omega arith)) (λ m. l)
      (λ z m. rw (taken_settled r.stand (heard_in r.stand (whole_in r piece)) (lacking r.stand)) (omega arith))

  -- ## Refusals

  pub again : (refusal : Refusal) → size_of r.stand.place ≡ 0 → verdict_at r.stand.place ≡ Err refusal
      → step_of r piece ≡ record { reader = r; answer = record { taken = 0; found = Err refusal } }
  again refusal e v = step_none e ∙ ap (λ (x : Verdict). stopped_by x r (length piece)) v

-- the verdict of a place that holds a refusal, and of one at the end
pub verdict_refused : (p : Place) (number : ℕ) → p.due ≡ Refused number → verdict_at p ≡ Err (refusal_at number p)
unfolding verdict_at
verdict_refused p number e = ap (λ (d : Due). verdict_by d p) e

-- where nothing is due, the refusal that is the verdict is one that the place holds
pub held_due_lem : (d : Due) (p : Place) (f : Refusal) → size_by d ≡ 0 → verdict_by d p ≡ Err f → (d ≡ Refused f.number) × (refusal_at f.number p ≡ f)
held_due_lem d p f e v = grind arith

-- what a call that refuses leaves
abbrev LeftBy : Result (Option Record) Refusal → Step → Type 0
LeftBy (Ok found) s = Unit {0}
LeftBy (Err refusal) s = (size_of s.reader.stand.place ≡ 0) × (verdict_at s.reader.stand.place ≡ Err refusal)

left_settled : (s : Stand) (h : Result Words ℕ) (taken : ℕ) → LeftBy (settled s h taken).answer.found (settled s h taken)
unfolding verdict_at
left_settled s h taken = grind arith

left_stopped : (r : Reader) (n : ℕ) (v : Verdict) → size_of r.stand.place ≡ 0 → verdict_at r.stand.place ≡ v → LeftBy (stopped_by v r n).answer.found (stopped_by v r n)
unfolding verdict_at
left_stopped r n v e q = grind arith

left : (r : Reader) (piece : List ℕ) → LeftBy (step_of r piece).answer.found (step_of r piece)
left r piece =
    by_case r piece (λ s. LeftBy s.answer.found s) (λ e. left_stopped r (length piece) (verdict_at r.stand.place) e refl) (λ l. tt)
    (λ k l. left_settled r.stand (heard_in r.stand (whole_in r piece)) (lacking r.stand))

pub refuses : (r : Reader) (piece : List ℕ) → RefusedClaim r piece
unfolding verdict_of verdict_at
refuses r piece = record {
  none = λ refusal e. ap record_by e;
  holds = λ refusal e. held_due_lem (step_of r piece).reader.stand.place.due (step_of r piece).reader.stand.place refusal (told refusal e).0 (told refusal e).1;
  verdict = λ refusal e. (told refusal e).1;
  stays = λ refusal e later. again (step_of r piece).reader later refusal (told refusal e).0 (told refusal e).1;
  again = λ number e. again r piece (refusal_at number r.stand.place) (ap size_by e) (verdict_refused r.stand.place number e);
}
  where
    told : (refusal : Refusal) → (step_of r piece).answer.found ≡ Err refusal → LeftBy (Err refusal) (step_of r piece)
    told refusal e = subst (λ (x : Result (Option Record) Refusal). LeftBy x (step_of r piece)) e (left r piece)

-- ## An empty piece

pub empty_step : (r : Reader) → (r.stand.have < size_of r.stand.place) ⊎ ((size_of r.stand.place ≡ 0) × (r.stand.have ≡ 0)) → EmptyClaim r
empty_step r (inl l) =
    let n : size_of r.stand.place ≡ 0 → ⊥ = λ e. omega arith in
    rw (step_kept r [] (omega arith), ne_eqb _ _ n, ← paste-zero r.carry r.stand.have [], add-zero)
empty_step r (inr z) = let e = step_none r [] z.0 in grind arith
