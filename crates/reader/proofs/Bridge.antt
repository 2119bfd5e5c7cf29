-- A call of the reader is a call on the state that it stands for, because the carry has the bytes so far and the place holds every number as it is. Assumes nothing.
use Rattle.std.specs.Prelude.{Option, Some, None, Result, Ok}
use mathlib.Core.Path.{◌≡◌, refl, sym, ap, ap₂, ◌∙◌, subst}
use mathlib.Core.Logic.{◌⊎◌, inl, inr}
use mathlib.Core.Bool.{Bool, true, false}
use mathlib.Core.List.{List, [], ◌∷◌, ◌++◌}
use Prim.Native.Nat.{ℕ, ◌+◌, ◌-◌, ◌≤◌, ◌<◌}
use native.Mathlib.Omega.{arith}
use lib.Dec.{ltb}
use lib.ListN.{length, take, replicate, length-append, length-take}
use lib.Seq.{take-length}
use borrow.Author.Tests.{ltb-true, ltb-false}
use Rattle.words.specs.Checks.{if_fine}
use Rattle.words.specs.Record.{tag_at}
use Rattle.words.specs.declared.Words.{Words}
use Rattle.words.specs.declared.Tag.{Tag}
use Rattle.words.specs.declared.Refusal.{Refusal}
use Rattle.cut.specs.Format.{State, at, stopped, settle}
use Rattle.cut.specs.Calls.{end_step, step}
use Rattle.cut.specs.Calls as cut
use Rattle.cut.proofs.Steps.{step_stopped, step_end, step_short, step_full}
use Rattle.rules.specs.Rules.{size_by, size_of, next_of, record_of, words_in, fault_in}
use Rattle.rules.specs.Verdicts.{summary_of, verdict_by, verdict_at}
use Rattle.rules.specs.declared.Place.{Place}
use Rattle.rules.specs.declared.Record.{Record}
use Rattle.rules.specs.declared.Due.{Due}
use Rattle.rules.specs.declared.Due.TheVariants.{End, Refused}
use Rattle.rules.specs.Verdicts.{Verdict}
use Rattle.layout.specs.Scan.{format}
use Rattle.layout.specs.Scan as scan
use Rattle.layout.specs.Reach.{Reached, place_of}
use Rattle.layout.proofs.Reach.{exact}
use Rattle.reader.specs.Stream.{emptied, settled, unless_refused, stopped_by, heard_in, whole_in, step_of, tag_in}
use Rattle.reader.specs.Readings.{reader_of}
use Rattle.reader.specs.declared.Reader.{Reader}
use Rattle.reader.specs.declared.Step.{Step}
use Rattle.carry.proofs.Sizes.{size_most}
use Rattle.carry.proofs.Carry.{put_carry, words_own, fault_own}
use Rattle.reader.proofs.Calls.{step_none, step_kept, step_completed, again, verdict_refused}

-- ## What a step on states is, as the reader's own

abbrev found_of : List Record → State Place Place → Result (Option Record) Refusal
found_of (r ∷ rs) s = Ok (Some r)
found_of [] (at p h) = Ok None
found_of [] (stopped p) = unless_refused None (verdict_at p)

abbrev pub out_of : Tag → cut.Step Place Record Place → Step
out_of tag o = record { reader = reader_of tag o.out.state; answer = record { taken = o.taken; found = found_of o.out.recs o.out.state } }

-- what is known of a state that reading gives: bytes are held only where more are due, nothing is due only at the end,
-- and one that has stopped holds its refusal; the tag is one of 32 bytes, unless the reading stopped at once
abbrev pub Known : List ℕ → State Place Place → Type 0
Known tag (at p h) = (tag_in tag ≡ tag_at tag) × ((length h < size_of p) ⊎ ((p.due ≡ End) × (h ≡ [])))
Known tag (stopped p) = (number : ℕ) × (p.due ≡ Refused number)

-- ## One record, judged

settled_out : (r : Reader) (w : Words) (number taken : ℕ)
    → Reached (place_of (settle (scan.settled number r.stand.place (record_of r.stand.place w) (next_of r.stand.place w))).state)
    → settled r.stand (if_fine number w) taken ≡ out_of r.stand.tag (record { taken = taken; out = settle (scan.settled number r.stand.place (record_of r.stand.place w) (next_of r.stand.place w)) })
unfolding verdict_at
settled_out r w number taken k = let e = exact (next_of r.stand.place w) in grind arith

-- ## One call

verdict_end : (p : Place) → p.due ≡ End → verdict_at p ≡ Ok (summary_of p)
unfolding verdict_at
verdict_end p e = ap (λ (d : Due). verdict_by d p) e

stopped_out : (tag four : Tag) (p : Place) (piece : List ℕ) (number : ℕ) → p.due ≡ Refused number → step_of (emptied tag p) piece ≡ out_of tag (step (format four) (stopped p) piece)
stopped_out tag four p piece number e =
    let v = verdict_refused p number e in
    rw (step_stopped (format four) p piece, again (emptied tag p) piece _ (ap size_by e) v, v)

module _ (tag : Tag) (p : Place) where
  ended_out : (n : ℕ) (piece : List ℕ) → length piece ≡ n → stopped_by (Ok (summary_of p)) (reader_of tag (at p [])) n ≡ out_of tag (end_step (format tag) p [] piece)
  unfolding verdict_at
  ended_out n piece e = grind arith

  end_out : (piece : List ℕ) → p.due ≡ End → step_of (reader_of tag (at p [])) piece ≡ out_of tag (step (format tag) (at p []) piece)
  end_out piece e =
      step_none (reader_of tag (at p [])) piece (ap size_by e)
      ∙ ap (λ (v : Verdict). stopped_by v (reader_of tag (at p [])) (length piece)) (verdict_end p e)
      ∙ ended_out (length piece) piece refl
      ∙ ap (out_of tag) (sym (step_end (format tag) p [] piece (ap size_by e)))

  short_out : (h piece : List ℕ) → length h + length piece < size_of p → step_of (reader_of tag (at p h)) piece ≡ out_of tag (step (format tag) (at p h) piece)
  short_out h piece l =
      let d = size_most p.due in
      let m : length piece < size_of p - length h = omega arith in
      rw (step_short (format tag) p h piece l, step_kept (reader_of tag (at p h)) piece m, put_carry h piece (length piece) (omega arith) (omega arith), take-length, length-append)

  full_out : (h piece : List ℕ) → length h < size_of p → size_of p ≤ length h + length piece → Reached (place_of (step (format tag) (at p h) piece).out.state)
      → step_of (reader_of tag (at p h)) piece ≡ out_of tag (step (format tag) (at p h) piece)
  full_out h piece l g k =
      let d = size_most p.due in
      let n : ℕ = size_of p - length h in
      let bs : List ℕ = h ++ take n piece in
      let z : List ℕ = replicate (200 - length bs) 0 in
      let r : Reader = reader_of tag (at p h) in
      let m : size_of p - length h ≤ length piece = omega arith in
      let q : length bs ≡ size_of p = simp (length-append, length-take) (omega arith) in
      let c : whole_in r piece ≡ bs ++ z = put_carry h piece n m (omega arith) in
      let s : step (format tag) (at p h) piece ≡ record { taken = n; out = settle (scan.settled (fault_in tag p bs) p (record_of p (words_in p bs)) (next_of p (words_in p bs))) } =
      step_full (format tag) p h piece l g in
      step_completed r piece (omega arith) m
      ∙ ap (λ (x : List ℕ). settled r.stand (heard_in r.stand x) n) c
      ∙ ap₂ (λ (w : Words) (f : ℕ). settled r.stand (if_fine f w) n) (words_own p bs z (omega arith) q) (fault_own p bs z (omega arith) q tag)
      ∙ settled_out r (words_in p bs) (fault_in tag p bs) n (subst (λ (o : cut.Step Place Record Place). Reached (place_of o.out.state)) s k)
      ∙ ap (out_of tag) (sym s)

-- a call of the reader is a call on the state
pub step_out_lem : (tag : List ℕ) (s : State Place Place) (piece : List ℕ) → Known tag s → Reached (place_of (step (format (tag_at tag)) s piece).out.state)
    → step_of (reader_of (tag_in tag) s) piece ≡ out_of (tag_in tag) (step (format (tag_at tag)) s piece)
step_out_lem tag (stopped p) piece w k = stopped_out (tag_in tag) (tag_at tag) p piece w.0 w.1
step_out_lem tag (at p h) piece (e, inr (d, n)) k = rw (e, n) (end_out (tag_at tag) p piece d)
step_out_lem tag (at p h) piece (e, inl l) k = rw e (go (ltb (length h + length piece) (size_of p)) refl)
  where
    go : (t : Bool) → ltb (length h + length piece) (size_of p) ≡ t → step_of (reader_of (tag_at tag) (at p h)) piece ≡ out_of (tag_at tag) (step (format (tag_at tag)) (at p h) piece)
    go true i = short_out (tag_at tag) p h piece (ltb-true _ _ i)
    go false i = full_out (tag_at tag) p h piece l (ltb-false _ _ i) k
