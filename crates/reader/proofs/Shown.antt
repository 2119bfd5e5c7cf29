-- A read shows what as many calls as the table has rows hand out, because each turn is a call, and after a call that hands out nothing no further
-- one does: the piece is used up, or it was refused. And each record costs at least 48 bytes, so that rows enough are never used up. Assumes nothing.
use Rattle.std.specs.Prelude.{Option, Some, None, Result, Ok, Err}
use mathlib.Core.Path.{◌≡◌, refl, ap, ◌∙◌, subst}
use mathlib.Core.List.{List, []}
use Prim.Native.Nat.{ℕ, zero, suc, ◌+◌, ◌*◌, ◌/◌, ◌≤◌, ◌<◌}
use native.Mathlib.Nat.{zero-add}
use native.Mathlib.Omega.{arith}
use lib.ListN.{length, drop, length-append, length-drop, drop_of_length-le}
use lib.Seq.{get_or-drop, drop-drop, drop-length}
use Rattle.words.specs.Le.{Bytes, puts}
use Rattle.words.specs.declared.Words.{Words}
use Rattle.words.specs.declared.Refusal.{Refusal}
use Rattle.words.specs.Record.{tag_at}
use Rattle.words.proofs.Numbers.{bytes_none}
use Rattle.words.proofs.Stores.{puts_append}
use Rattle.cut.proofs.Runs.{run_nil}
use Rattle.rules.specs.Rules.{size_by, size_of}
use Rattle.rules.specs.Verdicts.{Verdict, refusal_at, verdict_at}
use Rattle.rules.specs.declared.Record.{Record}
use Rattle.carry.proofs.Sizes.{size_least}
use Rattle.layout.specs.Scan.{format}
use Rattle.reader.specs.Stream.{tag_in, settled, said_at, stopped_by, lacking, heard_in, whole_in, step_of}
use Rattle.reader.specs.Rows.{row_in, goes_on, answered, ended_by, Reading, reads_on, read_for}
use Rattle.reader.specs.Readings.{Begun, after, Seen, seen_of, record_by, handed_out, then_seen, offers, called}
use Rattle.reader.specs.Showings.{rows_in, rests_of, taken_of, SaysWhy, ShowsClaim, UsedUp, RoomClaim, RepeatedClaim, RowsClaim}
use Rattle.reader.specs.declared.Reader.{Reader}
use Rattle.reader.specs.declared.Step.{Step}
use Rattle.reader.specs.declared.Ended.{Ended}
use Rattle.reader.specs.declared.Ended.TheVariants.{PieceUsed, TableFull}
use Rattle.reader.proofs.Calls.{by_case, held_due_lem, no_more, refuses, verdict_refused}
use Rattle.reader.proofs.Reached.{stands}
use Rattle.reader.proofs.Cut.{offers_run}
use Rattle.reader.proofs.Theorem.{reader}

-- ## Calls that hand out nothing

-- no call takes more than there is, so n calls do not either
taken_most : (n : ℕ) (r : Reader) (piece : List ℕ) → taken_of n r piece ≤ length piece
unfolding taken_of
taken_most zero r piece = omega arith
taken_most (suc n) r piece =
    let s = step_of r piece in
    omega (arith, no_more r piece, rw length-drop at (taken_most n s.reader (drop s.answer.taken piece)))

module _ (r : Reader) (f : Refusal) (k : (later : List ℕ) → step_of r later ≡ record { reader = r; answer = record { taken = 0; found = Err f } }) where
  quiet_refused : (n : ℕ) (piece : List ℕ) → offers n r piece ≡ record { records = []; reader = r }
  unfolding offers
  quiet_refused zero piece = refl
  quiet_refused (suc n) piece = rw (k piece, quiet_refused n (drop 0 piece))

  idle_refused : (n : ℕ) (piece : List ℕ) → taken_of n r piece ≡ 0
  unfolding taken_of
  idle_refused zero piece = refl
  idle_refused (suc n) piece = rw (k piece, idle_refused n (drop 0 piece))

quiet_empty : (r : Reader) → Begun r → (n : ℕ) → offers n r [] ≡ record { records = []; reader = r }
unfolding offers
quiet_empty r b zero = refl
quiet_empty r b (suc n) =
    let k = stands b in
    rw k.same (offers_run k.tag (suc n) k.state [] k.standing bytes_none (omega arith) ∙ ap (seen_of (tag_in k.tag)) (run_nil (format (tag_at k.tag)) k.state))

-- a call that says nothing has used up the piece
module _ (r : Reader) (piece : List ℕ) where
  abbrev Used : Step → Type 0
  Used s = s.answer.found ≡ Ok None → drop s.answer.taken piece ≡ []

  used_after : (h : Result Words ℕ) (taken : ℕ) → Used (settled r.stand h taken)
  used_after h taken e = grind arith

  used_stopped : (v : Verdict) → Used (stopped_by v r (length piece))
  used_stopped v e = grind (arith, drop_of_length-le)

  used_up : Used (step_of r piece)
  used_up = by_case r piece Used (λ e. used_stopped (verdict_at r.stand.place)) (λ l e. drop-length piece)
      (λ k l. used_after (heard_in r.stand (whole_in r piece)) (lacking r.stand))

-- ## The turns

-- so far: the reader, the bytes, records and rows of the calls that are left, and why no more was read
record Part (x : Reading) (piece : List ℕ) (taken count : ℕ) (table : List ℕ) (left : ℕ) (seen : Seen) (more : ℕ) : Type 0 where
  reader : x.answer.reader ≡ seen.reader
  taken_is : x.answer.taken ≡ taken + more
  count_is : x.answer.count ≡ count + length seen.records
  table_is : x.table ≡ puts table (9 * count) (rows_in seen.records)
  fits : length seen.records ≤ left
  says : SaysWhy x.answer.ended x piece (count + left)

none : (x : Reading) (piece : List ℕ) (taken count : ℕ) (table : List ℕ) (left more : ℕ) (r : Reader) → x.answer.reader ≡ r → x.answer.taken ≡ taken + more → x.answer.count ≡ count → x.table ≡ table
    → SaysWhy x.answer.ended x piece (count + left) → Part x piece taken count table left (record { records = []; reader = r }) more
unfolding puts
none x piece taken count table left more r a b c d e = record { reader = a; taken_is = b; count_is = omega (arith, c); table_is = d; fits = omega arith; says = e }

full : (r : Reader) (piece : List ℕ) (taken count : ℕ) (table : List ℕ)
    → SaysWhy (said_at TableFull r.stand.place) (record { answer = answered r taken count (said_at TableFull r.stand.place); table = table }) piece (count + 0)
unfolding verdict_at
full r piece taken count table = grind (arith, held_due_lem)

module _ (piece : List ℕ) (y : Bytes piece) where
  rest_bytes : (taken : ℕ) → Bytes (drop taken piece)
  rest_bytes taken i = rw get_or-drop (y (taken + i))

  module _ (left : ℕ) (r : Reader) (b : Begun r) (taken count : ℕ) (table : List ℕ) (l : taken ≤ length piece) where
    abbrev p : List ℕ
    p = drop taken piece

    abbrev s : Step
    s = step_of r p

    abbrev over : Result Ended Refusal → Reading
    over e = record { answer = ended_by s taken count e; table = table }

    abbrev later : Seen
    later = offers left s.reader (drop s.answer.taken p)

    abbrev more : ℕ
    more = taken_of left s.reader (drop s.answer.taken p)

    -- what is left of a read that ends: no further call hands out or takes anything
    abbrev Ends : Result Ended Refusal → Type 0
    Ends e = (later ≡ record { records = []; reader = s.reader }) × (more ≡ 0) × SaysWhy e (over e) piece (count + suc left)

    used : s.answer.found ≡ Ok None → Ends (Ok PieceUsed)
    used e =
        let u = used_up r p e in
        let k : length (drop s.answer.taken p) ≡ 0 = ap length u in (
          rw u (quiet_empty s.reader (after b p (rest_bytes taken)) left),
          rw u (omega (arith, taken_most left s.reader [])),
          omega (arith, l, simp length-drop at k, simp length-drop at (no_more r p)),
        )

    held : (f : Refusal) → s.answer.found ≡ Err f → Ends (Err f)
    held f e =
        let q = refuses r p in
        (quiet_refused s.reader f (q.stays f e) left (drop s.answer.taken p), idle_refused s.reader f (q.stays f e) left (drop s.answer.taken p), q.holds f e)

    ends : (e : Result Ended Refusal) → Ends e → Part (over e) piece taken count table (suc left) (then_seen [] later) (s.answer.taken + more)
    ends e q = rw (q.0, q.1) (none _ piece taken count table (suc left) (s.answer.taken + 0) s.reader refl (omega arith) refl refl q.2)

    turn : (x : Result (Option Record) Refusal) → s.answer.found ≡ x → (then : Record → Reading)
        → ((found : Record) → Part (then found) piece (taken + s.answer.taken) (count + 1) (puts table (9 * count) (row_in found)) left later more)
        → Part (goes_on x then over) piece taken count table (suc left) (then_seen (record_by x) later) (s.answer.taken + more)
    turn (Ok None) e then ih = ends (Ok PieceUsed) (used e)
    turn (Err f) e then ih = ends (Err f) (held f e)
    turn (Ok (Some found)) e then ih =
        let h = ih found in
        record {
          reader = h.reader;
          taken_is = omega (arith, h.taken_is);
          count_is = omega (arith, h.count_is);
          table_is = h.table_is ∙ ap (λ (n : ℕ). puts (puts table (9 * count) (row_in found)) n (rows_in later.records)) (omega arith) ∙ puts_append table (9 * count) (row_in found) (rows_in later.records);
          fits = omega (arith, h.fits);
          says = subst (SaysWhy (then found).answer.ended (then found) piece) (omega arith) h.says;
        }

  shown : (left : ℕ) (r : Reader) → Begun r → (taken count : ℕ) (table : List ℕ) → taken ≤ length piece
      → Part (reads_on left r piece taken count table) piece taken count table left (offers left r (drop taken piece)) (taken_of left r (drop taken piece))
  unfolding reads_on offers taken_of
  shown zero r b taken count table l = none _ piece taken count table 0 0 r refl (omega arith) refl refl (full r piece taken count table)
  shown (suc left) r b taken count table l =
      let p = drop taken piece in
      let s = step_of r p in
      let k : taken + s.answer.taken ≤ length piece = omega (arith, l, simp length-drop at (no_more r p)) in
      turn left r b taken count table l s.answer.found refl _ (λ found.
      rw (drop-drop s.answer.taken taken piece) (shown left s.reader (after b p (rest_bytes taken)) (taken + s.answer.taken) (count + 1) (puts table (9 * count) (row_in found)) k))

-- the calls that a piece is offered to are calls like any others
rests : (n : ℕ) (r : Reader) (piece : List ℕ) → offers n r piece ≡ called r (rests_of n r piece)
unfolding offers called rests_of
rests zero r piece = refl
rests (suc n) r piece = rw (rests n (step_of r piece).reader (drop (step_of r piece).answer.taken piece))

shows : (r : Reader) → Begun r → (piece : List ℕ) → Bytes piece → (table : List ℕ)
    → ShowsClaim (read_for r piece table) r piece table (length table / 9) (called r (rests_of (length table / 9) r piece))
unfolding read_for
shows r b piece y table =
    let w = shown piece y (length table / 9) r b 0 0 table (omega arith) in
    rw (← rests (length table / 9) r piece)
    (record { reader = w.reader; taken = w.taken_is ∙ zero-add _; count = w.count_is ∙ zero-add _; table_is = w.table_is; fits = w.fits; says = rw zero-add at w.says })

-- ## A record costs at least 48 bytes

module _ (r : Reader) (piece : List ℕ) where
  abbrev Pays : Step → Type 0
  Pays s = 48 * length (handed_out s) + s.reader.stand.have ≤ s.answer.taken + r.stand.have

  pays_settled : (h : Result Words ℕ) → 0 < size_of r.stand.place → Pays (settled r.stand h (lacking r.stand))
  pays_settled h k = let l = size_least r.stand.place.due k in grind arith

  pays : Pays (step_of r piece)
  pays = by_case r piece Pays (λ e. grind arith) (λ l. omega arith)
      (λ k l. pays_settled (heard_in r.stand (whole_in r piece)) k)

all_pay : (n : ℕ) (r : Reader) (piece : List ℕ) → 48 * length (offers n r piece).records ≤ taken_of n r piece + r.stand.have
unfolding offers taken_of
all_pay zero r piece = omega arith
all_pay (suc n) r piece =
    let s = step_of r piece in
    simp length-append (omega (arith, pays r piece, all_pay n s.reader (drop s.answer.taken piece)))

room : (r : Reader) → Begun r → (piece : List ℕ) → Bytes piece → (table : List ℕ) → RoomClaim r piece table
room r b piece y table l = go x.answer.ended refl
  where
    x : Reading
    x = read_for r piece table

    w : ShowsClaim x r piece table (length table / 9) (called r (rests_of (length table / 9) r piece))
    w = shows r b piece y table

    pay : 48 * x.answer.count ≤ length piece + 200
    pay =
        let n = length table / 9 in
        let e : x.answer.count ≡ length (offers n r piece).records = rw (rests n r piece) w.count in
        omega (arith, e, all_pay n r piece, taken_most n r piece, reader.few r b)

    why : {e : Result Ended Refusal} → x.answer.ended ≡ e → SaysWhy e x piece (length table / 9)
    why q = subst (λ (e : Result Ended Refusal). SaysWhy e x piece (length table / 9)) q w.says

    go : (e : Result Ended Refusal) → x.answer.ended ≡ e → UsedUp e x piece
    go (Ok PieceUsed) q = why q
    go (Ok TableFull) q = absurd (omega (arith, why q, l, pay))
    go (Err f) q = why q

-- ## A refusal is repeated

again : (r : Reader) → RepeatedClaim r
unfolding read_for reads_on
again r number e piece table = go (length table / 9)
  where
    f : Refusal
    f = refusal_at number r.stand.place

    go : (n : ℕ) → reads_on n r piece 0 0 table ≡ record { answer = answered r 0 0 (Err f); table = table }
    go zero = rw (ap size_by e, verdict_refused r.stand.place number e)
    go (suc n) = rw ((refuses r piece).again number e)

-- ## The reader after a read

either_way : (x : Result (Option Record) Refusal) (on : Record → Reading) (over : Result Ended Refusal → Reading) → ((found : Record) → Begun (on found).answer.reader)
    → ((e : Result Ended Refusal) → Begun (over e).answer.reader) → Begun (goes_on x on over).answer.reader
either_way x on over f g = grind arith

module _ (piece : List ℕ) (y : Bytes piece) where
  turns : (left : ℕ) (r : Reader) → Begun r → (taken count : ℕ) (table : List ℕ) → Begun (reads_on left r piece taken count table).answer.reader
  unfolding reads_on
  turns zero r b taken count table = b
  turns (suc left) r b taken count table =
      let s = step_of r (drop taken piece) in
      let n = after b (drop taken piece) (rest_bytes piece y taken) in
      either_way s.answer.found _ _ (λ found. turns left s.reader n (taken + s.answer.taken) (count + 1) (puts table (9 * count) (row_in found))) (λ e. n)

begun_read : (r : Reader) → Begun r → (piece : List ℕ) → Bytes piece → (table : List ℕ) → Begun (read_for r piece table).answer.reader
unfolding read_for
begun_read r b piece y table = turns piece y (length table / 9) r b 0 0 table

pub rows : RowsClaim
rows = record { shows = shows; room = room; again = again; reads = begun_read }
