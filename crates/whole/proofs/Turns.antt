-- The turns over a whole buffer lead where its bytes lead, because a turn is one record of the run, and what is then left gives what the whole gives. Assumes nothing.
use Rattle.std.specs.Prelude.{Result, Ok, Err, MatchResult}
use Rattle.std.proofs.lemmas.Result.{MatchResult-at_ok, MatchResult-at_err}
use mathlib.Core.Path.{◌≡◌, refl, sym, ap, ◌∙◌, subst}
use mathlib.Core.Bool.{Bool, true, false}
use mathlib.Core.List.{List, []}
use Prim.Native.Nat.{ℕ, zero, suc, ◌+◌, ◌≤◌, ◌<◌}
use native.Mathlib.Omega.{arith}
use lib.Dec.{eqb, ltb}
use lib.ListN.{length, take, drop, replicate, length-drop, length-take, drop_of_length-le, get_or}
use lib.Seq.{paste, drop-drop, drop-cons, get_or-drop, take_all, length-take-le}
use borrow.Author.Tests.{eq-eqb, ne_eqb, lt-ltb, le-ltb, eqb-true, eqb-false, ltb-true, ltb-false}
use Rattle.words.specs.Le.{Bytes}
use Rattle.words.specs.Record.{tag_at, tag_from}
use Rattle.words.specs.Checks.{pick, if_fine}
use Rattle.words.specs.declared.Words.{Words}
use Rattle.words.specs.declared.Tag.{Tag}
use Rattle.words.specs.declared.NoTag.{NoTag}
use Rattle.words.proofs.Numbers.{take_bytes}
use Rattle.cut.specs.Format.{State, at, stopped, Run, settle, run}
use Rattle.cut.proofs.Runs.{run_nil, run_stopped, run_late, run_short, run_record}
use Rattle.rules.specs.Rules.{size_of, words_in, fault_in, record_of, next_of, start}
use Rattle.rules.specs.Held.{held}
use Rattle.rules.specs.Verdicts.{refused, verdict_at}
use Rattle.rules.specs.declared.Place.{Place}
use Rattle.rules.specs.declared.Record.{Record}
use Rattle.rules.specs.Verdicts.{Verdict}
use Rattle.carry.proofs.Carry.{words_own, fault_own}
use Rattle.layout.specs.Scan.{settled, judged, format, scan, verdict_of, found_in}
use Rattle.layout.specs.Reach.{Reached, place_of, last_place}
use Rattle.layout.proofs.Judged.{good_is}
use Rattle.layout.proofs.Reach.{reached_start, reached_next, exact}
use Rattle.whole.specs.Turns.{left_at, record_at, Turn, Continue, Break, turn_after, turn_of}

-- ## The tag

tag_by : (tag : List ℕ) (r : Result Tag NoTag) → r ≡ tag_from tag → MatchResult r (λ four. (length tag ≡ 32) × (four ≡ tag_at tag)) (λ e. length tag ≡ 32 → ⊥)
tag_by tag r e = rw e (go (eqb (length tag) 32) refl)
  where
    go : (t : Bool) → eqb (length tag) 32 ≡ t → MatchResult {E = NoTag} (pick t (Ok (tag_at tag)) (Err (record {}))) (λ four. (length tag ≡ 32) × (four ≡ tag_at tag)) (λ e. length tag ≡ 32 → ⊥)
    go true q = (eqb-true _ _ q, refl)
    go false q = eqb-false _ _ q

-- bytes that are a tag, and bytes that are none
pub is_tag : (tag : List ℕ) {r : Result Tag NoTag} {four : Tag} → r ≡ tag_from tag → r ≡ Ok four → (length tag ≡ 32) × (four ≡ tag_at tag)
is_tag tag {r = r} e f = MatchResult-at_ok _ _ _ f (tag_by tag r e)

pub is_none : (tag : List ℕ) {r : Result Tag NoTag} {none : NoTag} → r ≡ tag_from tag → r ≡ Err none → length tag ≡ 32 → ⊥
is_none tag {r = r} e f = MatchResult-at_err _ _ _ f (tag_by tag r e)

-- ## The cases of a turn

-- the bytes from the record due on are so many
pub left_length : (s : List ℕ) (p : Place) → length (take (left_at s p) (drop p.at.0 s)) ≡ left_at s p
left_length s p = simp (length-take, length-drop) (omega arith)

module _ (tag : Tag) (s : List ℕ) (p : Place) where
  pub turn_end : size_of p ≡ 0 → turn_of tag s p ≡ Break (pick (eqb (left_at s p) 0) p (refused 14 p))
  unfolding turn_of
  turn_end e = rw (eq-eqb _ _ e)

  pub turn_short : left_at s p < size_of p → turn_of tag s p ≡ Break p
  unfolding turn_of
  turn_short l =
      let z : size_of p ≡ 0 → ⊥ = λ e. omega arith in
      rw (ne_eqb _ _ z, lt-ltb _ _ l)

  pub turn_full : 0 < size_of p → size_of p ≤ left_at s p → turn_of tag s p ≡ turn_after p (fault_in tag p (record_at s p)) (words_in p (record_at s p))
  unfolding turn_of
  turn_full k l =
      let z : size_of p ≡ 0 → ⊥ = λ e. omega arith in
      rw (ne_eqb _ _ z, le-ltb _ _ l)

-- a turn after what was heard of a whole record: its numbers, or the number of its refusal
abbrev pub heard : Place → Result Words ℕ → Turn
heard p (Ok w) = Continue (held (next_of p w))
heard p (Err n) = Break (refused n p)

heard_fine : (p : Place) (n : ℕ) (w : Words) → heard p (if_fine n w) ≡ turn_after p n w
heard_fine p zero w = refl
heard_fine p (suc n) w = rw (ne_eqb (suc n) 0 (λ x. omega arith))

-- a record that is judged where it stands, in front of what an empty carry has
module _ (tag : Tag) (s : List ℕ) (p : Place) (k : 0 < size_of p) (l : size_of p ≤ left_at s p) where
  -- so many of the bytes left
  abbrev part : ℕ → List ℕ
  part m = take m (take (left_at s p) (drop p.at.0 s))

  pub turn_heard : {m : ℕ} {r : Result Words ℕ} → m ≡ size_of p
      → r ≡ if_fine (fault_in tag p (paste (replicate 200 0) 0 (part m) (length (part m)))) (words_in p (paste (replicate 200 0) 0 (part m) (length (part m))))
      → heard p r ≡ turn_of tag s p
  turn_heard e u =
      let h : length (drop p.at.0 s) ≤ left_at s p = simp length-drop (omega arith) in
      let q : length (record_at s p) ≡ size_of p = length-take-le (size_of p) (drop p.at.0 s) (rw length-drop l) in
      let t = take_all (length (record_at s p)) (record_at s p) (omega arith) in
      rw (u, take_all (left_at s p) (drop p.at.0 s) h, e, t, words_own p (record_at s p) _ k q, fault_own p (record_at s p) _ k q tag, turn_full tag s p k l) (heard_fine p _ _)

-- ## What the turns come to

-- where the bytes from a place on lead
abbrev pub end_from : Tag → List ℕ → Place → Place
end_from tag s p = place_of (run (format tag) (at p []) (drop p.at.0 s)).state

-- the loop's invariant: reading from here ends where it is to end
pub record Loop (tag : Tag) (s : List ℕ) (goal p : Place) : Type 0 where
  pub inside : p.at.0 ≤ length s
  pub reached : Reached p
  pub same : end_from tag s p ≡ goal

-- a turn: over at the goal, or on from a place behind
abbrev pub Says : Tag → List ℕ → Place → Place → Turn → Type 0
Says tag s goal p (Break q) = q ≡ goal
Says tag s goal p (Continue q) = Loop tag s goal q × (p.at.0 < q.at.0)

module _ (tag : Tag) (s : List ℕ) (b : Bytes s) (goal p : Place) (i : Loop tag s goal p) where
  says_end : size_of p ≡ 0 → Says tag s goal p (turn_of tag s p)
  says_end e = rw (turn_end tag s p e) (go (eqb (left_at s p) 0) refl)
    where
      go : (t : Bool) → eqb (left_at s p) 0 ≡ t → pick t p (refused 14 p) ≡ goal
      go true q =
          let k : left_at s p ≡ 0 = eqb-true _ _ q in
          let m : length s ≤ p.at.0 = omega arith in
          rw (drop_of_length-le s m, run_nil (format tag) (at p [])) at i.same
      go false q =
          let k : left_at s p ≡ 0 → ⊥ = eqb-false _ _ q in
          let m : p.at.0 < length s = omega arith in
          rw (drop-cons s p.at.0 0 m, run_late (format tag) p (get_or s p.at.0 0) (drop (suc p.at.0) s) e) at i.same

  says_short : left_at s p < size_of p → Says tag s goal p (turn_of tag s p)
  says_short l =
      let m : 0 + length (drop p.at.0 s) < size_of p = simp length-drop (omega arith) in
      rw (turn_short tag s p l) (rw (run_short (format tag) p [] (drop p.at.0 s) m) at i.same)

  says_full : 0 < size_of p → size_of p ≤ left_at s p → Says tag s goal p (turn_of tag s p)
  unfolding next_of
  says_full k l = rw (turn_full tag s p k l) (go (fault_in tag p bs) refl)
    where
      bs : List ℕ
      bs = record_at s p

      w : Words
      w = words_in p bs

      y : Bytes bs
      y = take_bytes (size_of p) (drop p.at.0 s) (λ j. rw get_or-drop (b (p.at.0 + j)))

      m : size_of p ≤ length (drop p.at.0 s)
      m = simp length-drop (omega (arith, l, i.inside))

      e : place_of (run (format tag) (settle (judged tag p bs)).state (drop (size_of p) (drop p.at.0 s))).state ≡ goal
      e = ap (λ (r : Run Place Record Place). place_of r.state) (sym (run_record (format tag) p (drop p.at.0 s) k m)) ∙ i.same

      go : (n : ℕ) → fault_in tag p bs ≡ n → Says tag s goal p (turn_after p n w)
      go zero z =
          let q : Place = next_of p w in
          let g = good_is tag p q (record_of p w) bs k (ap (λ (n : ℕ). settled n p (record_of p w) q) z) in
          let r : Reached q = subst Reached g.next (reached_next tag p g.words (g.whole y) i.reached g.fault) in
          let f : end_from tag s q ≡ goal = rw (z, drop-drop) at e in
          rw (exact q r) (record { inside = omega arith; reached = r; same = f }, omega arith)
      go (suc n) z = rw (ne_eqb (suc n) 0 (λ x. omega arith)) (rw (z, run_stopped) at e)

  pub turn_says : Says tag s goal p (turn_of tag s p)
  turn_says = go (eqb (size_of p) 0) refl (ltb (left_at s p) (size_of p)) refl
    where
      go : (t : Bool) → eqb (size_of p) 0 ≡ t → (u : Bool) → ltb (left_at s p) (size_of p) ≡ u → Says tag s goal p (turn_of tag s p)
      go true e u f = says_end (eqb-true _ _ e)
      go false e true f = says_short (ltb-true _ _ f)
      go false e false f = let z : size_of p ≡ 0 → ⊥ = eqb-false _ _ e in says_full (omega arith) (ltb-false _ _ f)

  pub turn_over : {q : Place} {t : Turn} → t ≡ turn_of tag s p → t ≡ Break q → q ≡ goal
  turn_over e f = subst (Says tag s goal p) (sym e ∙ f) turn_says

  pub turn_on : {q : Place} {t : Turn} → t ≡ turn_of tag s p → t ≡ Continue q → Loop tag s goal q × (p.at.0 < q.at.0)
  turn_on e f = subst (Says tag s goal p) (sym e ∙ f) turn_says

-- ## Where the loop begins

pub loop_start : (tag s : List ℕ) → length tag ≡ 32 → Loop (tag_at tag) s (last_place tag s) start
unfolding last_place scan
loop_start tag s e = record { inside = omega arith; reached = reached_start; same = rw (eq-eqb _ _ e) }

pub last_refused : (tag s : List ℕ) → (length tag ≡ 32 → ⊥) → last_place tag s ≡ refused 2 start
unfolding last_place scan
last_refused tag s n = rw (ne_eqb _ _ n, run_stopped)

-- ## The verdict is the last place's

verdict_of_lem : (x : State Place Place) → verdict_at (place_of x) ≡ verdict_of x
verdict_of_lem (at p h) = refl
verdict_of_lem (stopped p) = refl

pub last_verdict : (tag s : List ℕ) → verdict_at (last_place tag s) ≡ (found_in tag s).verdict
unfolding last_place found_in
last_verdict tag s = verdict_of_lem (scan tag s).state

-- so what is said at a last place is what is found
pub verdict_said : (tag s : List ℕ) (p : Place) (v : Verdict) → p ≡ last_place tag s → v ≡ verdict_at p → v ≡ (found_in tag s).verdict
verdict_said tag s p v last said = said ∙ ap verdict_at last ∙ last_verdict tag s
