-- The walk over a file's segments, turn by turn: the rows that are left are those of one segment and of those behind it. Assumes nothing.
use Rattle.std.specs.Prelude.{Option, Some, None}
use Rattle.std.specs.Option.{is_some}
use mathlib.Core.Path.{◌≡◌, refl, sym, ap, ◌∙◌}
use mathlib.Core.Bool.{true, false, true≢false}
use mathlib.Core.List.{List, [], ◌∷◌, map}
use Prim.Native.Nat.{ℕ, ◌+◌, ◌-◌, ◌*◌, ◌≤◌, ◌<◌}
use native.Mathlib.Omega.{arith}
use lib.Dec.{ltb}
use lib.ListN.{length}
use borrow.Author.Tests.{lt-ltb, le-ltb}
use Rattle.words.specs.Checks.{pick}
use Rattle.words.specs.declared.Words.{Words}
use Rattle.layout.specs.Layout.{Segment}
use Rattle.layout.specs.Blocks.{segment_of}
use Rattle.plan.specs.Plan.{rows_for, file_bytes}
use Rattle.plan.specs.Walk.{share_of, words_left, segments_left, rows_left, past_of, measure_of, Gives}
use Rattle.plan.specs.declared.Row.{Row}
use Rattle.plan.specs.declared.rows.Rows.{Rows}
use Rattle.plan.specs.declared.rows.Measure.{Measure}
use Rattle.plan.specs.declared.rows.Share.{Share}
use Rattle.plan.specs.declared.segments.Segments.{Segments}
use Rattle.plan.proofs.Steps.{row_by, rows_step}
use Rattle.plan.proofs.Records.{length_left}
use Rattle.plan.proofs.RowClaims.{rows}

-- ## One segment more

abbrev rows_of : Segments → ℕ → ℕ → Rows
rows_of s a b = record { segments = s; a = a; b = b }

module _ (r : Rows) (t : Segments) (w : Words) (first : words_left r.segments ≡ w ∷ words_left t) (share : Share) (is : share ≡ share_of r.a r.b w.b) where
  abbrev rest : List Row
  rest = rows_left (rows_of t share.a share.b)

  turn : rows_left r ≡ pick (ltb 0 share.take) (row_by (segment_of w) share ∷ rest) rest
  turn = ap (λ (ws : List Words). rows_for r.a r.b (map segment_of ws)) first ∙ rw is (rows_step r.a r.b (segment_of w) (map segment_of (words_left t)))

  past_on : past_of (rows_of t share.a share.b) ≡ past_of r
  past_on =
      let f : file_bytes (segments_left r.segments) ≡ w.b + file_bytes (segments_left t) = ap (λ (ws : List Words). file_bytes (map segment_of ws)) first in
      omega (arith, ap (λ (s : Share). s.b) is)

  pub turn_takes : 0 < share.take → (rows_left r ≡ row_by (segment_of w) share ∷ rest) × (past_of (rows_of t share.a share.b) ≡ past_of r)
  turn_takes h = (turn ∙ rw (lt-ltb 0 share.take h), past_on)

  pub turn_passes : share.take ≤ 0 → (rows_left r ≡ rest) × (past_of (rows_of t share.a share.b) ≡ past_of r)
  turn_passes h = (turn ∙ rw (le-ltb 0 share.take h), past_on)

-- ## Nothing more

-- a range of no bytes has no rows
no_bytes : (a : ℕ) (ss : List Segment) → rows_for a 0 ss ≡ []
unfolding rows_for
no_bytes a [] = refl
no_bytes a (s ∷ ss) =
    let t : (share_of a 0 s.bytes).take ≤ 0 = omega arith in
    let e : 0 - s.bytes ≡ 0 = omega arith in
    rows_step a 0 s ss ∙ rw (le-ltb 0 (share_of a 0 s.bytes).take t, e) (no_bytes (a - s.bytes) ss)

pub range_over : (r : Rows) → r.b ≤ 0 → (rows_left r ≡ []) × (r.b ≡ past_of r)
range_over r h = (let z : r.b ≡ 0 = omega arith in rw z (no_bytes r.a (map segment_of (words_left r.segments))), omega arith)

pub segments_over : (r : Rows) → words_left r.segments ≡ [] → (rows_left r ≡ []) × (r.b ≡ past_of r)
unfolding rows_for
segments_over r e = (rw e, omega (arith, ap (λ (ws : List Words). file_bytes (map segment_of ws)) e))

-- ## A call of `next`

module _ (r later : Rows) (x : Option Row) (gives : Gives r x later) where
  pub one_given : true ≡ is_some x → (length (rows_left r) ≡ length (rows_left later) + 1) × (past_of later ≡ past_of r)
  one_given e = go x gives e
    where
      go : (x : Option Row) → Gives r x later → true ≡ is_some x → (length (rows_left r) ≡ length (rows_left later) + 1) × (past_of later ≡ past_of r)
      go (Some row) g e = (omega (arith, ap length g.0), g.1)
      go None g e = absurd (true≢false e)

  pub none_given : false ≡ is_some x → (length (rows_left r) ≡ 0) × (later.b ≡ past_of r)
  none_given e = go x gives e
    where
      go : (x : Option Row) → Gives r x later → false ≡ is_some x → (length (rows_left r) ≡ 0) × (later.b ≡ past_of r)
      go (Some row) g e = absurd (true≢false (sym e))
      go None g e = (ap length g.0, g.2)

-- no more rows are left than records
pub rows_few : (r : Rows) → 48 * length (rows_left r) ≤ length r.segments.bytes.now
rows_few r = omega (arith, rows.few r.a r.b (segments_left r.segments), length_left r.segments.bytes.now)

pub measured_is : (rows past : ℕ) (r : Rows) → rows ≡ length (rows_left r) → past ≡ past_of r → ◌≡◌ {A = Measure} (record { rows = rows; past = past }) (measure_of r)
measured_is rows past r e f = rw (e, f)

-- what `next` and `measured` stand on
pub ruleset turns = (turn_takes, turn_passes, range_over, segments_over)

pub ruleset counting = (one_given, none_given, rows_few)
