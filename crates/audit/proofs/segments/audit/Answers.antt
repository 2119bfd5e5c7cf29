-- `audit` meets its contract: at each turn what is still to come gives the answer for the whole (proofs/Turns). Assumes nothing.
use mathlib.Core.Path.{◌≡◌, sym, ap, ◌∙◌}
use mathlib.Core.Bool.{Bool}
use Prim.Native.Nat.{ℕ, ◌+◌, ◌*◌}
use native.Mathlib.Omega.{arith}
use Rattle.std.proofs.Common.{rules, Err, Some}
use Rattle.audit.proofs.Turns.{file_room, all_passed, into_file_lem, file_over, segment_room, comparable, false_one, next_unlisted, next_true}
use Rattle.audit.proofs.Begin.{refused_so, begins_so}
use Rattle.audit.proofs.segments.audit.Goals as goal
use Rattle.audit.proofs.segments.audit.Goals.{in-None, in-Some-true}

pub returns-in_err-verdict : goal.returns-in_err-verdict
returns-in_err-verdict c =
    let e : c.from_residual.result ≡ Err c.in_err-verdict.field-0.0 = search rules in
    refused_so _ _ _ _ c.last_place-place.ensures c.verdict.ensures _ c.in_err-verdict.was _ e

pub loop-head-init : goal.loop-head-init
loop-head-init c = begins_so _ _ _ _ c.last_place-place.ensures c.verdict.ensures (λ i. omega (arith, c.type_inv.tag i)) (λ i. omega (arith, c.type_inv.shard i)) _ c.in_ok-verdict.was

pub read-head-requires : goal.read-head-requires
read-head-requires c = file_room _ _ _ _ _ _ c.loop-head.invariant

pub returns-then-is_ones : goal.returns-then-is_ones
returns-then-is_ones c = all_passed _ _ _ _ _ _ c.loop-head.invariant _ c.read-head.ensures (sym c.if-is_ones.ensures)

pub loop-i-init : goal.loop-i-init
loop-i-init c = into_file_lem _ _ _ _ _ _ c.loop-head.invariant _ c.read-head.ensures (sym c.if-is_ones.ensures)

pub overflow_add-at-in-loop-i : goal.overflow_add-at-in-loop-i
overflow_add-at-in-loop-i c = omega (arith, segment_room _ _ _ _ _ _ _ _ _ c.loop-i-test.true c.loop-i.invariant, c.loop-i.invariant.short)

pub read-requires : goal.read-requires
read-requires c = segment_room _ _ _ _ _ _ _ _ _ c.loop-i-test.true c.loop-i.invariant

pub compare-requires : goal.compare-requires
compare-requires c = comparable _ _ _ _ _ _ _ _ _ c.loop-i-test.true c.loop-i.invariant _ c.read.ensures

pub returns-in-Some-false : goal.returns-in-Some-false
returns-in-Some-false c =
    false_one _ _ _ _ _ _ _ _ _ c.loop-i-test.true c.loop-i.invariant _ c.read.ensures _ c.compare.ensures (c.in-Some-false.is ∙ ap (λ (b : Bool). Some b) c.in-Some-false.field-0-test)

pub loop-i-preserved : goal.loop-i-preserved
loop-i-preserved c = elim c.match-compare.branch [
  | in-None w ↦ next_unlisted _ _ _ _ _ _ _ _ _ c.loop-i-test.true c.loop-i.invariant _ c.read.ensures _ c.compare.ensures w.in-None.is _ w.counts-is _ (omega arith)
  | in-Some-true w ↦ next_true _ _ _ _ _ _ _ _ _ c.loop-i-test.true c.loop-i.invariant _ c.read.ensures _ c.compare.ensures (w.in-Some-true.is ∙ ap (λ (b : Bool). Some b) w.in-Some-true.field-0-test) _ w.counts-is _ (omega arith)
]

pub overflow_add-file-in-loop-head : goal.overflow_add-file-in-loop-head
overflow_add-file-in-loop-head c = omega (arith, file_room _ _ _ _ _ _ c.loop-head.invariant, c.loop-head.invariant.short, c.further_records.ensures.1)

pub loop-head-smaller : goal.loop-head-smaller
loop-head-smaller c = omega (arith, file_room _ _ _ _ _ _ c.loop-head.invariant)

pub loop-head-preserved : goal.loop-head-preserved
loop-head-preserved c = file_over _ _ _ _ _ _ _ _ _ c.loop-i-test.false c.loop-i.invariant _ (ap (λ (m : ℕ). c.loop-head.file + 48 * (1 + m)) c.further_records.ensures.0)
