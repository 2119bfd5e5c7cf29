-- THE CLAIM OF THE REFUSALS holds because every input has its fate (crate cut), and a reading never comes to a refused place by good records. Assumes nothing.
use Rattle.std.specs.Prelude.{Err}
use mathlib.Core.Path.{◌≡◌, refl, sym, ap, ◌∙◌, subst}
use mathlib.Core.Logic.{◌≢◌}
use mathlib.Core.List.{List, [], ◌∷◌}
use Prim.Native.Nat.{ℕ, ◌+◌, ◌-◌, ◌<◌}
use native.Mathlib.Omega.{arith}
use lib.ListN.{length, take}
use borrow.Author.Tests.{eqb-true, eqb-false}
use Rattle.words.specs.Record.{tag_at, is_ones}
use Rattle.words.specs.declared.Words.{Words}
use Rattle.words.specs.declared.Tag.{Tag}
use Rattle.cut.specs.Fate.{none, Reads, Ending, more}
use Rattle.cut.specs.Format.{State, Run, run, at, stopped}
use Rattle.cut.proofs.Runs.{run_stopped}
use Rattle.cut.proofs.Fate.{fate}
use Rattle.cut.specs.Fate as fates
use Rattle.rules.specs.Rules.{size_by, size_of, bit31, bit30, after_verifications, after_segments, chunks_from, due_by, next_of, start}
use Rattle.rules.specs.Verdicts.{refused, refusal_at, verdict_by, verdict_at}
use Rattle.rules.specs.declared.Place.{Place}
use Rattle.rules.specs.declared.Record.{Record}
use Rattle.rules.specs.declared.Due.{Due}
use Rattle.rules.specs.declared.Due.TheVariants.{Header, FileHead, Segment, Verification, Metadata, XorbHead, Chunk, Footer, End, Refused}
use Rattle.layout.specs.Refusal.{Ends, FateClaim, tag_refused, early, done, over, faulty}
use Rattle.layout.specs.Scan.{format, begin, scan, verdict_of, found_in}
use Rattle.layout.proofs.Judged.{bad_is, good_is}
use Rattle.layout.proofs.Places.{pick_by, many_by}

-- ## No good record leads to a refused place

abbrev Live : Due → Type 0
Live Header = Unit {0}
Live FileHead = Unit {0}
Live (Segment left) = Unit {0}
Live (Verification left) = Unit {0}
Live Metadata = Unit {0}
Live XorbHead = Unit {0}
Live (Chunk left sum total) = Unit {0}
Live Footer = Unit {0}
Live End = Unit {0}
Live (Refused number) = ⊥

live_parts : (flags n : ℕ) → Live (after_segments flags n)
live_parts flags n = pick_by Live (bit31 flags) _ _ (λ e. many_by Live n Verification _ (λ z. last) (λ l. tt)) (λ e. last)
  where
    last : Live (after_verifications flags)
    last = pick_by Live (bit30 flags) Metadata FileHead (λ e. tt) (λ e. tt)

live_chunks : (n sum total : ℕ) → Live (chunks_from n sum total)
live_chunks n sum total = many_by Live n (λ left. Chunk left sum total) XorbHead (λ z. tt) (λ l. tt)

live_next : (d : Due) (p : Place) (w : Words) → Live d → Live (due_by d p w)
live_next Header p w v = tt
live_next FileHead p w v = pick_by Live (is_ones w.hash) XorbHead _ (λ e. tt) (λ e. many_by Live w.b Segment _ (λ z. live_parts w.a w.b) (λ l. tt))
live_next (Segment left) p w v = many_by Live (left - 1) Segment _ (λ z. live_parts p.flags p.entries) (λ l. tt)
live_next (Verification left) p w v = many_by Live (left - 1) Verification _ (λ z. pick_by Live (bit30 p.flags) Metadata FileHead (λ e. tt) (λ e. tt)) (λ l. tt)
live_next Metadata p w v = tt
live_next XorbHead p w v = pick_by Live (is_ones w.hash) _ _ (λ e. pick_by Live p.footer Footer End (λ e. tt) (λ e. tt)) (λ e. live_chunks w.b 0 w.c)
live_next (Chunk left sum total) p w v = live_chunks (left - 1) (sum + w.b) total
live_next Footer p w v = tt
live_next End p w v = tt
live_next (Refused n) p w v = v

live_reads : (four : Tag) {p q : Place} {bs : List ℕ} {rs : List Record} → Reads (format four) p bs rs q → Live p.due → Live q.due
unfolding next_of
live_reads four none v = v
live_reads four (more {p = p} {q = q} {r = r} {xs = xs} l n j t) v =
    let g = good_is four p q r xs l j in
    live_reads four t (subst (λ (x : Place). Live x.due) g.next (live_next p.due p g.words v))

live_end : (d : Due) → Live d → size_by d ≡ 0 → d ≡ End
live_end Header v e = absurd (omega arith)
live_end FileHead v e = absurd (omega arith)
live_end (Segment left) v e = absurd (omega arith)
live_end (Verification left) v e = absurd (omega arith)
live_end Metadata v e = absurd (omega arith)
live_end XorbHead v e = absurd (omega arith)
live_end (Chunk left sum total) v e = absurd (omega arith)
live_end Footer v e = absurd (omega arith)
live_end End v e = refl
live_end (Refused n) v e = absurd v

-- behind good records nothing is due only at the end
pub reads_end : (four : Tag) {q : Place} {bs : List ℕ} {rs : List Record} → Reads (format four) start bs rs q → size_of q ≡ 0 → q.due ≡ End
reads_end four {q = q} t z = live_end q.due (live_reads four t tt) z

-- ## The verdict

-- where something is due, it is 1
early_verdict : (d : Due) (p : Place) → 0 < size_by d → verdict_by d p ≡ Err (refusal_at 1 p)
early_verdict Header p l = refl
early_verdict FileHead p l = refl
early_verdict (Segment left) p l = refl
early_verdict (Verification left) p l = refl
early_verdict Metadata p l = refl
early_verdict XorbHead p l = refl
early_verdict (Chunk left sum total) p l = refl
early_verdict Footer p l = refl
early_verdict End p l = absurd (omega arith)
early_verdict (Refused n) p l = absurd (omega arith)

ends_by : (four : Tag) (p : Place) (rest : List ℕ) {s : State Place Place} → Live p.due → Ending (format four) p rest s → Ends four p rest (verdict_of s)
unfolding verdict_at
ends_by four p rest v (fates.early l) = subst (Ends four p rest) (sym (early_verdict p.due p (omega arith))) (early l)
ends_by four p rest v (fates.done z e) =
    let d : p.due ≡ End = live_end p.due v z in
    subst (Ends four p rest) (ap (λ (x : Due). verdict_by x p) (sym d)) (done d e)
ends_by four p rest v (fates.over b bs z e) = over (live_end p.due v z) (λ n. let y : b ∷ bs ≡ [] = sym e ∙ n in let x : ◌≡◌ {A = ℕ} 0 1 = cc in omega arith)
ends_by four p rest v (fates.faulty f l g j) =
    let (n, e) = bad_is four p f (take (size_of p) rest) j in
    subst (λ (x : Place). Ends four p rest (verdict_at x)) (sym e) (faulty l g n)

-- a tag of 32 bytes begins at the start, and no other does
begin_good : (tag : List ℕ) → length tag ≡ 32 → begin tag ≡ at start []
begin_good tag n = pick_by (λ s. s ≡ at start []) _ _ _ (λ e. refl) (λ e. absurd (eqb-false _ _ e n))

begin_bad : (tag : List ℕ) → length tag ≢ 32 → begin tag ≡ stopped (refused 2 start)
begin_bad tag n = pick_by (λ s. s ≡ stopped (refused 2 start)) _ _ _ (λ e. absurd (n (eqb-true _ _ e))) (λ e. refl)

pub scan_starts : (tag : List ℕ) → length tag ≡ 32 → (bytes : List ℕ) → scan tag bytes ≡ run (format (tag_at tag)) (at start []) bytes
unfolding scan
scan_starts tag n bytes = rw (begin_good tag n)

pub refusals : (tag : List ℕ) → length tag ≡ 32 → (bytes : List ℕ) → FateClaim tag bytes
unfolding found_in
refusals tag n bytes =
    let f = fate (format (tag_at tag)) start bytes in
    let e = sym (scan_starts tag n bytes) in
    record {
      before = f.before;
      rest = f.rest;
      split = f.split;
      place = f.place;
      reads = subst (λ (r : Run Place Record Place). Reads (format (tag_at tag)) start f.before r.recs f.place) e f.reads;
      ends = subst (λ (r : Run Place Record Place). Ends (tag_at tag) f.place f.rest (verdict_of r.state)) e
          (ends_by (tag_at tag) f.place f.rest (live_reads (tag_at tag) f.reads tt) f.ending);
    }

pub bad_tag : (tag : List ℕ) → length tag ≢ 32 → (bytes : List ℕ) → found_in tag bytes ≡ tag_refused
unfolding found_in scan verdict_at
bad_tag tag n bytes = rw (begin_bad tag n, run_stopped (format (tag_at tag)) (refused 2 start) bytes)
