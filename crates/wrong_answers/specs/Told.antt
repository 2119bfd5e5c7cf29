-- How answers are told in numbers, so that two of them can be compared. What is told need not be all of an answer: two that are told otherwise differ.
-- An enum is told by the paper's numbers for it, or as it crosses to C (crate host, specs/Boundary).
use Rattle.std.specs.Prelude.{ℕ, Bool, List, [], ◌∷◌, ◌++◌, Result, Ok, Err}
use Rattle.words.specs.Refusals.{wrote_numbers}
use Rattle.words.specs.declared.Refusal.{Refusal}
use Rattle.std.proofs.Math.Option.{Option, none, some}
use Rattle.words.specs.Record.{no_tag}
use Rattle.rules.specs.Kinds.{row_of}
use Rattle.rules.specs.declared.Due.{Due}
use Rattle.rules.specs.Verdicts.{Verdict}
use Rattle.layout.specs.Layout.{Segment, XorbBlock, joined}
use Rattle.writer.specs.Offers.{kind_by, words_by}
use Rattle.writer.specs.declared.Fields.{Fields}
use Rattle.finder.specs.Find.{ChunkAnswer, chunk_numbers, FileAnswer, file_numbers}
use Rattle.plan.specs.Plan.{Plan, answer_to, planned_numbers, table_to}
use Rattle.plan.specs.declared.Row.{Row}
use Rattle.audit.specs.Audit.{PlacedSegment, audited_numbers}
use Rattle.audit.specs.declared.Counts.{Counts}
use Rattle.blobs.specs.Blobs.{entry_numbers, scanned_numbers}
use Rattle.blobs.specs.declared.Parts.{Parts}
use Rattle.blobs.specs.declared.Tally.{Tally}
use Rattle.host.specs.Boundary.{mark, due_out, verdict_out}

abbrev pub number : ℕ → List ℕ
number n = n ∷ []

abbrev pub numbers : List ℕ → List ℕ
numbers ns = ns

abbrev pub truth : Bool → List ℕ
truth b = mark b ∷ []

abbrev pub due_told : Due → List ℕ
due_told d = (due_out d).code ∷ (due_out d).left ∷ (due_out d).sum ∷ (due_out d).total ∷ []

abbrev pub verdict_told : Verdict → List ℕ
verdict_told v = (verdict_out v).number ∷ (verdict_out v).at ∷ (verdict_out v).length ∷ []

abbrev pub answer_told : Result ℕ Refusal → List ℕ
answer_told a = (wrote_numbers a).wrote ∷ (wrote_numbers a).number ∷ (wrote_numbers a).at ∷ []

abbrev pub fields_told : Fields → List ℕ
fields_told f =
    let w = words_by f no_tag [] in
    row_of (kind_by f) ∷ w.a ∷ w.b ∷ w.c ∷ w.d ∷ []

abbrev pub chunk_told : ChunkAnswer → List ℕ
chunk_told f = (chunk_numbers f).said ∷ (chunk_numbers f).block ∷ (chunk_numbers f).index ∷ (chunk_numbers f).at ∷ (chunk_numbers f).number ∷ []

abbrev pub file_told : FileAnswer → List ℕ
file_told f = (file_numbers f).said ∷ (file_numbers f).file ∷ (file_numbers f).at ∷ (file_numbers f).number ∷ []

abbrev pub joined_told : Result ℕ Refusal → List ℕ
joined_told j = (wrote_numbers j).wrote ∷ (wrote_numbers j).at ∷ (wrote_numbers j).number ∷ []

abbrev pub planned_told : Result ℕ Refusal → List ℕ
planned_told p = (planned_numbers p).rows ∷ (planned_numbers p).at ∷ (planned_numbers p).number ∷ []

abbrev pub rows_told : List Row → List ℕ
rows_told rows = joined (λ r. r.xorb ++ (r.start.0 ∷ r.end.0 ∷ r.skip ∷ r.take ∷ [])) rows

-- the answer, and the rows
abbrev pub plan_told : Plan → List ℕ
plan_told p = planned_told (answer_to p) ++ rows_told (table_to p [])

abbrev pub segments_told : List Segment → List ℕ
segments_told segments = joined (λ s. s.xorb ++ (s.bytes ∷ s.start ∷ s.end ∷ [])) segments

-- a file that is not there is told as nothing
abbrev pub file_segments_told : Option (List Segment) → List ℕ
file_segments_told none = []
file_segments_told (some segments) = 1 ∷ segments_told segments

abbrev pub audited_told : Result Counts Refusal → List ℕ
audited_told a = (audited_numbers a).listed ∷ (audited_numbers a).unlisted ∷ (audited_numbers a).at ∷ (audited_numbers a).number ∷ []

abbrev pub placed_told : List PlacedSegment → List ℕ
placed_told ps = joined (λ p. p.at ∷ segments_told (p.segment ∷ [])) ps

-- a block is told by its hash and the lengths of its chunks; none as nothing
abbrev pub blocks_told : List XorbBlock → List ℕ
blocks_told xorbs = joined (λ x. x.hash ++ joined (λ c. c.bytes ∷ []) x.chunks) xorbs

abbrev pub block_told : Option XorbBlock → List ℕ
block_told none = []
block_told (some x) = blocks_told (x ∷ [])

abbrev pub head_told : Result ℕ ℕ → List ℕ
head_told (Ok n) = 0 ∷ n ∷ []
head_told (Err number) = 1 ∷ number ∷ []

abbrev pub entry_told : Result Parts Refusal → List ℕ
entry_told e = (entry_numbers e).digits ∷ (entry_numbers e).«data» ∷ (entry_numbers e).length ∷ (entry_numbers e).next ∷ (entry_numbers e).at ∷ (entry_numbers e).number ∷ []

abbrev pub put_told : Result ℕ Refusal → List ℕ
put_told p = (wrote_numbers p).wrote ∷ (wrote_numbers p).at ∷ (wrote_numbers p).number ∷ []

abbrev pub scanned_told : Result Tally Refusal → List ℕ
scanned_told s = (scanned_numbers s).entries ∷ (scanned_numbers s).bytes ∷ (scanned_numbers s).at ∷ (scanned_numbers s).number ∷ []
