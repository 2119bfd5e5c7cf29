-- After any bytes, in any pieces, the place is a reached one and its totals are those of the records found, because a reading is whole good records
-- and an ending (crate cut), and each good record keeps both. Assumes nothing.
use mathlib.Core.Path.{◌≡◌, refl, sym, ap, ◌∙◌, subst}
use mathlib.Core.Logic.{inl}
use mathlib.Core.Bool.{Bool, true, false}
use mathlib.Core.List.{List, []}
use native.Mathlib.Omega.{arith}
use Prim.Native.Nat.{ℕ}
use lib.ListN.{length, take}
use lib.Dec.{eqb, lit<}
use Rattle.words.specs.Checks.{pick}
use Rattle.words.specs.Record.{tag_at}
use Rattle.words.specs.Le.{Bytes}
use Rattle.words.specs.declared.Tag.{Tag}
use Rattle.cut.specs.Fate.{none, Reads, Ending, more, early, done, over, faulty}
use Rattle.cut.specs.Calls.{joined, Fit, feeds, offered, looked_all}
use Rattle.cut.specs.Format.{State, Run, run, at, stopped}
use Rattle.cut.proofs.Runs.{run_stopped}
use Rattle.cut.proofs.Fate.{fate}
use Rattle.cut.proofs.Cut.{cut, any_calls}
use Rattle.rules.specs.Rules.{size_of, nothing, start}
use Rattle.rules.specs.Verdicts.{refused}
use Rattle.rules.specs.declared.Totals.{Totals}
use Rattle.rules.specs.declared.Place.{Place}
use Rattle.rules.specs.declared.Record.{Record}
use Rattle.layout.specs.Scan.{format, begin, scan}
use Rattle.layout.specs.Reach.{Reached, place_of, last_place, totals_with, StateClaim}
use Rattle.layout.proofs.Judged.{bad_is, good_is, bytes_left, bytes_right}
use Rattle.layout.proofs.Reach.{reached_start, reached_next, reached_refused}

-- ## After any bytes

reached_reads : (four : Tag) {p q : Place} {bs : List ℕ} {rs : List Record} → Reads (format four) p bs rs q → Reached p → Bytes bs
    → Reached q × (q.totals ≡ totals_with p.totals rs)
reached_reads four none r b = (r, refl)
reached_reads four (more {p = p} {q = q} {r = x} {xs = xs} {bs = bs} {rs = rs} l n j t) r b =
    let g = good_is four p q x xs l j in
    let m : Reached q = subst Reached g.next (reached_next four p g.words (g.whole (bytes_left xs bs b)) r g.fault) in
    let (s, e) = reached_reads four t m (bytes_right xs bs b) in
    (s, e ∙ ap (λ (u : Totals). totals_with u rs) g.counted)

-- an ending leaves position and totals as they are
reached_ending : (four : Tag) (p : Place) (rest : List ℕ) {s : State Place Place} → Ending (format four) p rest s → Reached p → Reached (place_of s) × ((place_of s).totals ≡ p.totals)
reached_ending four p rest (early l) r = (r, refl)
reached_ending four p rest (done z e) r = (r, refl)
reached_ending four p rest (over b bs z e) r = (reached_refused 14 p (omega arith) r, refl)
reached_ending four p rest (faulty f l g j) r =
    let (n, e) = bad_is four p f (take (size_of p) rest) j in
    (subst Reached (sym e) (reached_refused _ p (omega (arith, n)) r), ap (λ (x : Place). x.totals) e)

abbrev Kept : Run Place Record Place → Type 0
Kept r = Reached (place_of r.state) × ((place_of r.state).totals ≡ totals_with nothing r.recs)

kept : (four : Tag) (bytes : List ℕ) (t : Bool) → Bytes bytes → Kept (run (format four) (pick t (at start []) (stopped (refused 2 start))) bytes)
kept four bytes true b =
    let f = fate (format four) start bytes in
    let (r, e) = reached_reads four f.reads reached_start (bytes_left f.before f.rest (subst Bytes f.split b)) in
    let (s, d) = reached_ending four f.place f.rest f.ending r in
    (s, d ∙ e)
kept four bytes false b = rw (run_stopped (format four) (refused 2 start) bytes) (reached_refused 2 start (omega arith) reached_start, refl)

pub states : (tag bytes : List ℕ) → Bytes bytes → StateClaim tag bytes
unfolding scan last_place
states tag bytes b =
    let k = kept (tag_at tag) bytes (eqb (length tag) 32) b in
    record { reached = k.0; totals = k.1 }

-- ## However the bytes are cut

begin_fits : (four : Tag) (t : Bool) → Fit (format four) (pick t (at start []) (stopped (refused 2 start)))
begin_fits four true = inl (lit< tt)
begin_fits four false = tt

-- pieces, each offered until it is used up or refused
pub pieces : (tag : List ℕ) (ps : List (List ℕ)) → feeds (format (tag_at tag)) (begin tag) ps ≡ scan tag (joined ps)
unfolding scan
pieces tag ps = cut (format (tag_at tag)) (begin tag) ps (begin_fits (tag_at tag) (eqb (length tag) 32))

-- any calls at all, with the bytes that they looked at
pub calls : (tag : List ℕ) (ps : List (List ℕ)) → offered (format (tag_at tag)) (begin tag) ps ≡ scan tag (looked_all (format (tag_at tag)) (begin tag) ps)
unfolding scan
calls tag ps = any_calls (format (tag_at tag)) (begin tag) ps (begin_fits (tag_at tag) (eqb (length tag) 32))
