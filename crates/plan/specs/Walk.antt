-- WHAT THE INNER FUNCTIONS PROMISE, in the words of the plan. The range is counted from the first byte of the next segment, so that no sum is formed.
use Rattle.std.specs.Prelude.{◌≡◌, ℕ, zero, suc, ◌-◌, ◌/◌, min, ◌≤◌, List, [], ◌∷◌, map, length, drop, Result, Ok, Err, Option, Some, None}
use Rattle.std.proofs.Math.Option.{none, some}
use Rattle.words.specs.Record.{words_at}
use Rattle.words.specs.declared.Refusal.{Refusal}
use Rattle.words.specs.declared.Words.{Words}
use Rattle.layout.specs.Layout.{Segment}
use Rattle.layout.specs.Blocks.{segment_of}
use Rattle.layout.specs.Scan.{found_in, IsAccepted}
use Rattle.plan.specs.Plan.{segments_in, rows_for, file_bytes, fetch, refused, plan_of}
use Rattle.plan.specs.declared.Row.{Row}
use Rattle.plan.specs.declared.rows.Share.{Share}
use Rattle.plan.specs.declared.rows.Rows.{Rows}
use Rattle.plan.specs.declared.rows.Measure.{Measure}
use Rattle.plan.specs.declared.segments.Segments.{Segments}
use Rattle.plan.specs.declared.drafts.Draft.{Draft}

-- ## One segment

-- of n bytes, and the range from a up to b counted from its first byte: what they share, and the range counted from the byte behind it
abbrev pub share_of : ℕ → ℕ → ℕ → Share
share_of a b n = record { a = a - n; b = b - n; skip = min a n; take = min b n - min a n }

-- ## What is left

-- so many records, one behind the other from the first byte on
unfoldable pub records_of : ℕ → List ℕ → List Words
records_of zero bytes = []
records_of (suc n) bytes = words_at bytes 0 ∷ records_of n (drop 48 bytes)

-- as many as the bytes hold
abbrev pub words_left : Segments → List Words
words_left s = records_of (length s.bytes.now / 48) s.bytes.now

abbrev pub segments_left : Segments → List Segment
segments_left s = map segment_of (words_left s)

abbrev pub rows_left : Rows → List Row
rows_left r = rows_for r.a r.b (segments_left r.segments)

-- how much of the range lies past the last segment
abbrev pub past_of : Rows → ℕ
past_of r = r.b - file_bytes (segments_left r.segments)

abbrev pub measure_of : Rows → Measure
measure_of r = record { rows = length (rows_left r); past = past_of r }

-- the first row that was left, and behind it the others; or none, and what is left of the range is past the last segment
abbrev pub Gives : Rows → Option Row → Rows → Type 0
Gives r (Some row) later = (rows_left r ≡ row ∷ rows_left later) × (past_of later ≡ past_of r)
Gives r None later = (rows_left r ≡ []) × (rows_left later ≡ []) × (later.b ≡ past_of r)

-- ## A file by its number

-- in an accepted shard its segments are these, or there is none; or the shard's refusal
abbrev pub Seeks : List ℕ → List ℕ → ℕ → Result (Option Segments) Refusal → Type 0
Seeks tag bytes file (Ok (Some s)) = IsAccepted (found_in tag bytes).verdict × (segments_in file (found_in tag bytes).records ≡ some (segments_left s))
Seeks tag bytes file (Ok None) = IsAccepted (found_in tag bytes).verdict × (segments_in file (found_in tag bytes).records ≡ none)
Seeks tag bytes file (Err refusal) = (found_in tag bytes).verdict ≡ Err refusal

-- ## The draft

-- the rows of the plan, so many, and they fit; or its refusal
abbrev pub Drafts : List ℕ → List ℕ → ℕ → ℕ → ℕ → ℕ → Result Draft Refusal → Type 0
Drafts tag bytes file a b room (Ok d) = (plan_of tag bytes file a b room ≡ fetch (rows_left d.rows)) × (d.count ≡ length (rows_left d.rows)) × (d.count ≤ room)
Drafts tag bytes file a b room (Err refusal) = plan_of tag bytes file a b room ≡ refused refusal
