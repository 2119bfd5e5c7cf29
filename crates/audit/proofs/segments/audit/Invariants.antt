-- `audit` meets its contract: at each turn what is still to come gives the answer for the whole (proofs/Turns). Assumes nothing.
use Prim.Native.Nat.{◌+◌, ◌-◌, ◌*◌}
use lib.ListN.{length}
use Rattle.rules.specs.Rules.{further_records}
use Rattle.audit.specs.Audit.{audit_of}
use Rattle.audit.proofs.Turns.{SegmentsLeft}
use Rattle.audit.proofs.segments.audit.Given as goal

abbrev pub invariant-loop-i : goal.invariant-loop-i
invariant-loop-i l = SegmentsLeft l.shard l.xorbs (audit_of l.tag l.shard) (l.file + 48 * (1 + further_records l.head.a l.head.b)) (l.file + 48 * (1 + l.i)) (l.i-end - l.i) l.counts.listed l.counts.unlisted

abbrev pub invariant-loop-head : goal.invariant-loop-head
invariant-loop-head l = SegmentsLeft l.shard l.xorbs (audit_of l.tag l.shard) l.file l.file 0 l.counts.listed l.counts.unlisted

abbrev pub decreases-loop-head : goal.decreases-loop-head
decreases-loop-head l = length l.shard - l.file
