-- Every begun reader stands for what some bytes mean, because a call reads on from there: to its bytes come those that the call looked at. Assumes nothing.
use mathlib.Core.Path.{◌≡◌, refl, sym, ap, ◌∙◌, subst}
use mathlib.Core.Logic.{◌⊎◌, inl, inr}
use mathlib.Core.Bool.{Bool, true, false}
use mathlib.Core.List.{List, [], ◌++◌}
use Prim.Native.Nat.{ℕ, ◌-◌, ◌≤◌, ◌<◌, min}
use native.Mathlib.Omega.{arith}
use lib.Dec.{eqb}
use lib.ListN.{length, take, drop, replicate, length-append, length-replicate}
use lib.Seq.{drop-append_seam}
use Rattle.words.specs.Checks.{pick}
use Rattle.words.specs.Le.{Bytes}
use Rattle.words.specs.Record.{tag_at, no_tag}
use Rattle.words.specs.declared.Tag.{Tag}
use Rattle.words.proofs.Numbers.{take_bytes, bytes_none, bytes_append}
use Rattle.cut.specs.Format.{State, at, stopped, Run, run, then_run}
use Rattle.cut.specs.Calls.{Fit, step, looked}
use Rattle.cut.specs.Fate.{Reads, Ending, early, done, over, faulty}
use Rattle.cut.proofs.Fate.{fate}
use Rattle.cut.proofs.Runs.{run_nil, run_append, run_stopped}
use Rattle.cut.proofs.Steps.{step_looked}
use Rattle.rules.specs.Rules.{size_by, size_of, nothing, start}
use Rattle.rules.specs.Verdicts.{refused}
use Rattle.rules.specs.declared.Place.{Place}
use Rattle.rules.specs.declared.Record.{Record}
use Rattle.layout.specs.Scan.{format, begin, scan}
use Rattle.layout.specs.Reach.{Reached, place_of, last_place, totals_with}
use Rattle.layout.proofs.Judged.{bad_is}
use Rattle.layout.proofs.Refusals.{reads_end}
use Rattle.layout.proofs.Reach.{exact}
use Rattle.layout.proofs.States.{states}
use Rattle.reader.specs.Stream.{tag_in, fresh, step_of}
use Rattle.reader.specs.Readings.{Begun, begun, after, reader_of, KeptClaim}
use Rattle.reader.specs.declared.Reader.{Reader}
use Rattle.reader.specs.declared.Step.{Step}
use Rattle.carry.proofs.Sizes.{size_most}
use Rattle.reader.proofs.Bridge.{out_of, Known, step_out_lem}

-- ## Bytes

pub looked_bytes : (tag : Tag) (s : State Place Place) (piece : List ℕ) → Bytes piece → Bytes (looked (format tag) s piece)
unfolding looked
looked_bytes tag (stopped p) piece b = bytes_none
looked_bytes tag (at p h) piece b = go (eqb (size_of p) 0)
  where
    go : (t : Bool) → Bytes (pick t (take 1 piece) (take (min (length piece) (size_of p - length h)) piece))
    go true = take_bytes 1 piece b
    go false = take_bytes (min (length piece) (size_of p - length h)) piece b

-- ## What is known of the states that reading gives

known_ending : (tag : List ℕ) {q : Place} {bs rest : List ℕ} {rs : List Record} {s : State Place Place} → tag_in tag ≡ tag_at tag
    → Reads (format (tag_at tag)) start bs rs q → Ending (format (tag_at tag)) q rest s → Known tag s
known_ending tag e r (early l) = (e, inl l)
known_ending tag e r (done z n) = (e, inr (reads_end (tag_at tag) r z, refl))
known_ending tag e r (over b bs z n) = (14, refl)
known_ending tag {q = q} {rest = rest} e r (faulty f l g j) = (_, ap (λ (p : Place). p.due) (bad_is (tag_at tag) q f (take (size_of q) rest) j).1)

known_scan : (tag bytes : List ℕ) → Known tag (scan tag bytes).state
unfolding scan
known_scan tag bytes = go (eqb (length tag) 32) refl
  where
    go : (t : Bool) → eqb (length tag) 32 ≡ t → Known tag (run (format (tag_at tag)) (pick t (at start []) (stopped (refused 2 start))) bytes).state
    go true e =
        let f = fate (format (tag_at tag)) start bytes in
        known_ending tag (ap (λ (t : Bool). pick t (tag_at tag) no_tag) e) f.reads f.ending
    go false e = rw (run_stopped (format (tag_at tag)) (refused 2 start) bytes) (2, refl)

known_fits : (tag : List ℕ) (s : State Place Place) → Known tag s → Fit (format (tag_at tag)) s
known_fits tag (stopped p) w = tt
known_fits tag (at p h) (e, inl l) = inl l
known_fits tag (at p h) (e, inr (d, n)) = inr (ap size_by d, n)

-- ## States that some bytes lead to

pub record Standing (tag : List ℕ) (s : State Place Place) : Type 0 where
  pub bytes : List ℕ
  pub good : Bytes bytes
  pub same : (scan tag bytes).state ≡ s

module _ (tag : List ℕ) where
  pub standing_begin : Standing tag (begin tag)
  unfolding scan
  standing_begin = record { bytes = []; good = bytes_none; same = ap (λ (r : Run Place Record Place). r.state) (run_nil (format (tag_at tag)) (begin tag)) }

  scan_append : (xs ys : List ℕ) → scan tag (xs ++ ys) ≡ then_run (scan tag xs).recs (run (format (tag_at tag)) (scan tag xs).state ys)
  unfolding scan
  scan_append xs ys = run_append (format (tag_at tag)) (begin tag) xs ys

  module _ (s : State Place Place) (w : Standing tag s) where
    known : Known tag s
    known = subst (Known tag) w.same (known_scan tag w.bytes)

    pub fits : Fit (format (tag_at tag)) s
    fits = known_fits tag s known

    reached : Reached (place_of s)
    unfolding last_place
    reached = subst (λ (x : State Place Place). Reached (place_of x)) w.same (states tag w.bytes w.good).reached

    totals : (place_of s).totals ≡ totals_with nothing (scan tag w.bytes).recs
    unfolding last_place
    totals = ap (λ (x : State Place Place). (place_of x).totals) (sym w.same) ∙ (states tag w.bytes w.good).totals

    pub standing_run : (ys : List ℕ) → Bytes ys → Standing tag (run (format (tag_at tag)) s ys).state
    standing_run ys b = record {
      bytes = w.bytes ++ ys;
      good = bytes_append w.bytes ys w.good b;
      same = ap (λ (r : Run Place Record Place). r.state) (scan_append w.bytes ys) ∙ ap (λ (x : State Place Place). (run (format (tag_at tag)) x ys).state) w.same;
    }

    pub standing_step : (piece : List ℕ) → Bytes piece → Standing tag (step (format (tag_at tag)) s piece).out.state
    standing_step piece b = rw (step_looked (format (tag_at tag)) s piece fits) (standing_run (looked (format (tag_at tag)) s piece) (looked_bytes (tag_at tag) s piece b))

  -- a call of the reader is a call on the state
  pub reader_step : (s : State Place Place) (piece : List ℕ) → Standing tag s → Bytes piece → step_of (reader_of (tag_in tag) s) piece ≡ out_of (tag_in tag) (step (format (tag_at tag)) s piece)
  reader_step s piece w b = step_out_lem tag s piece (known s w) (reached _ (standing_step s w piece b))

  pub fresh_begin : fresh tag ≡ reader_of (tag_in tag) (begin tag)
  unfolding fresh
  fresh_begin = grind arith

-- ## Begun readers

pub record Stands (r : Reader) : Type 0 where
  pub tag : List ℕ
  pub state : State Place Place
  pub standing : Standing tag state
  pub same : r ≡ reader_of (tag_in tag) state

pub stands : {r : Reader} → Begun r → Stands r
stands (begun tag) = record { tag = tag; state = begin tag; standing = standing_begin tag; same = fresh_begin tag }
stands (after b piece y) =
    let k = stands b in
    record {
      tag = k.tag;
      state = (step (format (tag_at k.tag)) k.state piece).out.state;
      standing = standing_step k.tag k.state k.standing piece y;
      same = ap (λ (x : Reader). (step_of x piece).reader) k.same ∙ ap (λ (o : Step). o.reader) (reader_step k.tag k.state piece k.standing y);
    }

-- what every reader of such a state keeps to
record Shape (s : State Place Place) (r : Reader) : Type 0 where
  place : r.stand.place ≡ place_of s
  long : length r.carry ≡ 200
  zeros : drop r.stand.have r.carry ≡ replicate (200 - r.stand.have) 0
  fits : (r.stand.have < size_of r.stand.place) ⊎ ((size_of r.stand.place ≡ 0) × (r.stand.have ≡ 0))

shape_at : (tag : Tag) (p : Place) (h : List ℕ) → length h ≤ 200 → (length h < size_of p) ⊎ ((size_of p ≡ 0) × (length h ≡ 0)) → Shape (at p h) (reader_of tag (at p h))
shape_at tag p h l f = record { place = refl; long = simp (length-append, length-replicate) (omega arith); zeros = drop-append_seam h (replicate (200 - length h) 0); fits = f }

shape : (tag : List ℕ) (four : Tag) (s : State Place Place) → Known tag s → Shape s (reader_of four s)
shape tag four (stopped p) (n, e) = record { place = refl; long = refl; zeros = refl; fits = inr (ap size_by e, refl) }
shape tag four (at p h) (e, inl l) = shape_at four p h (omega (arith, size_most p.due)) (inl l)
shape tag four (at p h) (e, inr (d, n)) = let z : length h ≡ 0 = ap length n in shape_at four p h (omega arith) (inr (ap size_by d, z))

pub kept : (r : Reader) → Begun r → KeptClaim r
kept r b =
    let k = stands b in
    let w = k.standing in
    let h : Shape k.state r = subst (Shape k.state) (sym k.same) (shape k.tag (tag_in k.tag) k.state (known k.tag k.state w)) in
    let c : Reached r.stand.place = subst Reached (sym h.place) (reached k.tag k.state w) in
    record {
      tag = k.tag;
      bytes = w.bytes;
      good = w.good;
      same = k.same ∙ ap (reader_of (tag_in k.tag)) (sym w.same);
      reached = c;
      exact = exact r.stand.place c;
      totals = ap (λ (p : Place). p.totals) h.place ∙ totals k.tag k.state w;
      long = h.long;
      zeros = h.zeros;
      fits = h.fits;
    }
