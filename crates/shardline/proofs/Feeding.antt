-- Offering a piece until it is used up or refused is what `fed_one` says: a call that takes something leaves the rest to be fed, a call that
-- takes nothing has refused and nothing changes after it, and an empty rest changes nothing. Assumes nothing.
use Rattle.std.proofs.Common.{◌≡◌, ℕ, zero, suc, ◌+◌, ◌-◌, ◌<◌, ◌≤◌, List, [], length, take, drop, sym, refl, ap, ◌∙◌, arith, length-drop, drop_of_length-le, get_or-drop, ne_eqb, Ok, Err}
use Rattle.std.proofs.lemmas.List.{take_rest}
use Rattle.words.specs.Le.{Bytes}
use Rattle.words.proofs.Numbers.{bytes_none}
use Rattle.words.specs.Record.{tag_at}
use Rattle.cut.specs.Format.{Run}
use Rattle.cut.proofs.Runs.{run_nil}
use Rattle.rules.specs.Rules.{size_of}
use Rattle.rules.specs.Verdicts.{Verdict, verdict_at}
use Rattle.words.specs.declared.Refusal.{Refusal}
use Rattle.rules.specs.declared.Place.{Place}
use Rattle.rules.specs.declared.Record.{Record}
use Rattle.layout.specs.Scan.{format}
use Rattle.reader.specs.Stream.{tag_in, step_of, stopped_by}
use Rattle.reader.specs.Readings.{Begun, after, Seen, offers, fed_one, seen_of}
use Rattle.reader.specs.declared.Reader.{Reader}
use Rattle.reader.specs.declared.Step.{Step}
use Rattle.reader.proofs.Calls.{step_none}
use Rattle.reader.proofs.Cut.{offers_run}
use Rattle.reader.proofs.Reached.{stands}
use Rattle.reader.proofs.Theorem.{reader}

-- a call that takes something leaves the rest
fed_more : (r : Reader) → Begun r → (piece : List ℕ) → Bytes piece → 0 < (step_of r piece).answer.taken
    → (fed_one r piece).reader ≡ (fed_one (step_of r piece).reader (drop (step_of r piece).answer.taken piece)).reader
unfolding offers
fed_more r b piece y l =
    let n = (step_of r piece).answer.taken in
    let d : length (drop n piece) < length piece = simp length-drop (omega (arith, reader.most r piece)) in
    ap (λ (s : Seen). s.reader) (reader.enough (step_of r piece).reader (after b piece y) (drop n piece) (λ i. rw get_or-drop (y (n + i))) (length piece) d)

-- a reader that no call changes is left as it is by any number of calls
stays_so : (r : Reader) → ((later : List ℕ) → (step_of r later).reader ≡ r) → (n : ℕ) (piece : List ℕ) → (offers n r piece).reader ≡ r
unfolding offers
stays_so r f zero piece = refl
stays_so r f (suc n) piece = rw (f piece) (stays_so r f n (drop (step_of r piece).answer.taken piece))

-- a call with a piece that is not empty refuses where nothing is due
refuses_there : (r : Reader) (n : ℕ) → 0 < n → (v : Verdict) → (refusal : Refusal) × ((stopped_by v r n).answer.found ≡ Err refusal)
refuses_there r n l (Err refusal) = (refusal, refl)
refuses_there r n l (Ok summary) = rw (ne_eqb n 0 (λ e. omega arith)) (_, refl)

fed_refused : (r : Reader) → Begun r → (piece : List ℕ) → 0 < length piece → (step_of r piece).answer.taken ≡ 0 → (fed_one r piece).reader ≡ (step_of r piece).reader
unfolding offers
fed_refused r b piece l e =
    let z : size_of r.stand.place ≡ 0 = none (size_of r.stand.place) refl in
    let t = refuses_there r (length piece) l (verdict_at r.stand.place) in
    let k = (reader.refused r piece).stays t.0 (rw (step_none r piece z) t.1) in
    stays_so (step_of r piece).reader (λ later. ap (λ (s : Step). s.reader) (k later)) (length piece) (drop (step_of r piece).answer.taken piece)
  where
    none : (n : ℕ) → size_of r.stand.place ≡ n → size_of r.stand.place ≡ 0
    none zero f = f
    none (suc n) f = absurd (omega (arith, reader.takes r b piece (omega (arith, f)) l))

-- an empty rest changes nothing
pub fed_none : (r : Reader) → Begun r → (fed_one r []).reader ≡ r
fed_none r b =
    let k = stands b in
    let f = format (tag_at k.tag) in
    rw k.same (ap (λ (s : Seen). s.reader) (offers_run k.tag 1 k.state [] k.standing bytes_none (omega arith))
    ∙ ap (λ (x : Run Place Record Place). (seen_of (tag_in k.tag) x).reader) (run_nil f k.state))

-- ## The turns of the loop

-- feeding what is left of a piece to the reader so far gives what feeding all of it to the first reader gives
pub record Left (r₀ : Reader) (piece : List ℕ) (r : Reader) (rest : List ℕ) : Type 0 where
  pub begun : Begun r
  pub bytes : Bytes rest
  pub same : (fed_one r rest).reader ≡ (fed_one r₀ piece).reader

-- so far, of a begun reader
abbrev pub SoFar : Reader → List ℕ → Reader → List ℕ → Type 0
SoFar r₀ piece r rest = Begun r₀ → Left r₀ piece r rest

pub so_done : (r₀ r : Reader) (piece rest : List ℕ) → SoFar r₀ piece r rest → length rest ≤ 0 → Begun r₀ → r ≡ (fed_one r₀ piece).reader
so_done r₀ r piece rest so l b =
    let s = so b in
    sym (fed_none r s.begun) ∙ ap (λ (x : List ℕ). (fed_one r x).reader) (sym (drop_of_length-le rest l)) ∙ s.same

-- a call with what is left
module _ (r₀ : Reader) (piece : List ℕ) (r : Reader) (rest : List ℕ) (so : SoFar r₀ piece r rest) (s : Step) (e : s ≡ step_of r rest) where
  pub within : s.answer.taken ≤ length rest
  within = rw e (reader.most r rest)

  pub so_refused : 0 < length rest → s.answer.taken ≡ 0 → Begun r₀ → s.reader ≡ (fed_one r₀ piece).reader
  so_refused l z b =
      rw e (sym (fed_refused r (so b).begun rest l (rw e at z)) ∙ (so b).same)

  -- what is left then, as the code lends it
  pub so_on : (s.answer.taken ≡ 0 → ⊥) → SoFar r₀ piece s.reader (take (length rest - s.answer.taken) (drop s.answer.taken rest))
  so_on n b =
      let k : 0 < s.answer.taken = omega arith in
      rw (e, take_rest rest (step_of r rest).answer.taken)
      (record {
        begun = after (so b).begun rest (so b).bytes;
        bytes = λ i. rw get_or-drop ((so b).bytes ((step_of r rest).answer.taken + i));
        same = sym (fed_more r (so b).begun rest (so b).bytes (rw e at k)) ∙ (so b).same;
      })
