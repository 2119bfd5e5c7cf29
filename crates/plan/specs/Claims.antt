-- THE CLAIMS OF THE PLAN, proved in proofs/RowClaims and proofs/PlanClaims: a row takes just the bytes that its segment and the range have in common, the
-- rows together fetch just the range, and in an accepted shard the plan is that of the tree's file.
use Rattle.std.specs.Prelude.{◌≡◌, ◌↔◌, ◌⊎◌, true, List, ℕ, ◌+◌, ◌-◌, ◌≤◌, ◌<◌, length, take, drop, Ok, Err}
use Rattle.std.proofs.Math.Option.{none, some}
use Rattle.words.specs.Le.{Bytes, part}
use Rattle.words.specs.declared.Refusal.{Refusal}
use Rattle.layout.specs.Layout.{Hash, Segment, FileBlock, Shard, Each, sum_of, joined}
use Rattle.layout.specs.Scan.{found_in}
use Rattle.layout.specs.Claim.{Spells}
use Rattle.plan.specs.Plan.{Extent, behind, shares, row_for, rows_for, file_bytes, segments_at, fetch, refused, refused_with, plan_for, plan_of, answer_to, table_to}
use Rattle.plan.specs.declared.Row.{Row}

-- ## Rows

-- the file's byte of that number is in the range and in the segment
pub record Common (a b : ℕ) (e : Extent) (i : ℕ) : Type 0 where
  pub from : a ≤ i
  pub below : i < b
  pub in_segment : e.before ≤ i
  pub not_behind : i < behind e

-- the file's byte of that number is one of those that a row takes from a segment
pub record Taken (e : Extent) (r : Row) (i : ℕ) : Type 0 where
  pub from : e.before + r.skip ≤ i
  pub below : i < e.before + r.skip + r.take

-- what a store gives for the chunks from start up to end of a xorb: their bytes, unpacked
abbrev pub Store : Type 0
Store = Hash → ℕ → ℕ → List ℕ

abbrev pub unpacked : Store → Segment → List ℕ
unpacked store s = store s.xorb s.start s.end

-- what is fetched for a row
abbrev pub fetched : Store → Row → List ℕ
fetched store r = take r.take (drop r.skip (store r.xorb r.start.0 r.end.0))

-- each segment unpacks to as many bytes as it says; no store is so for two segments that name the same chunks and differ in their bytes
abbrev pub Honest : Store → List Segment → Type 0
Honest store segments = Each (λ s. length (unpacked store s) ≡ s.bytes) segments

-- the bytes of a file from a up to but not including b, as a store has them
abbrev pub stretch : Store → ℕ → ℕ → List Segment → List ℕ
stretch store a b segments = part a b (joined (unpacked store) segments)

pub record RowsClaim : Type 0 where
  -- a segment shares a byte with the range exactly if they have one in common
  pub shares_if : (a b : ℕ) (e : Extent) → shares a b e ≡ true ↔ ((i : ℕ) × Common a b e i)
  -- its row takes just those
  pub row : (a b : ℕ) (e : Extent) (i : ℕ) → shares a b e ≡ true → Common a b e i ↔ Taken e (row_for a b e) i
  -- each row takes a byte
  pub some_byte : (a b : ℕ) (segments : List Segment) → Each (λ r. 0 < r.take) (rows_for a b segments)
  -- the takes add up to the range
  pub takes : (a b : ℕ) (segments : List Segment) → a ≤ b → b ≤ file_bytes segments → sum_of (λ r. r.take) (rows_for a b segments) ≡ b - a
  -- no more rows are needed than there are segments
  pub few : (a b : ℕ) (segments : List Segment) → length (rows_for a b segments) ≤ length segments
  -- what is fetched for the rows, one after the other, is the stretch, whatever an honest store holds
  pub bytes : (store : Store) (a b : ℕ) (segments : List Segment) → Honest store segments → joined (fetched store) (rows_for a b segments) ≡ stretch store a b segments

-- ## Plans

-- a is below b, and b is not past the file's end
pub record InFile (segments : List Segment) (a b : ℕ) : Type 0 where
  pub range : a < b
  pub end : b ≤ file_bytes segments

-- what a host has once n rows were answered: the file of that number in the shard's tree, the rows of the stretch in the first n of its table, those beyond
-- as they were before, and the bytes of the stretch for these rows, whatever an honest store holds
pub record Delivers (tag bytes : List ℕ) (file a b n : ℕ) (before table : List Row) : Type 0 where
  pub shard : Shard
  pub spells : Spells tag shard bytes
  pub segments : List Segment
  pub found : segments_at file shard.files ≡ some segments
  pub in_file : InFile segments a b
  pub are : take n table ≡ rows_for a b segments
  pub takes : sum_of (λ r. r.take) (take n table) ≡ b - a
  pub beyond : drop n table ≡ drop n before
  pub gets : (store : Store) → Honest store segments → joined (fetched store) (take n table) ≡ stretch store a b segments

pub record PlanClaim : Type 0 where
  -- a refused shard gives its refusal
  pub refusal : (tag bytes : List ℕ) (file a b room : ℕ) (r : Refusal) → (found_in tag bytes).verdict ≡ Err r → plan_of tag bytes file a b room ≡ refused r
  -- an accepted one is spelled by a tree, and the plan is that of the tree's file
  pub shard : (tag bytes : List ℕ) (s : Shard) (file a b room : ℕ) → Bytes tag → length tag ≡ 32 → Spells tag s bytes → plan_of tag bytes file a b room ≡ plan_for (segments_at file s.files) a b room
  -- there is no such file exactly if the number is not below that of the files
  pub absent : (file : ℕ) (files : List FileBlock) → segments_at file files ≡ none ↔ length files ≤ file
  -- 18 exactly if a is not below b, or b is past the file's end
  pub out_of_file : (segments : List Segment) (a b room : ℕ) → plan_for (some segments) a b room ≡ refused_with 18 ↔ (b ≤ a ⊎ file_bytes segments < b)
  -- 15 exactly if else the table is too short
  pub too_short : (segments : List Segment) (a b room : ℕ) → plan_for (some segments) a b room ≡ refused_with 15 ↔ (InFile segments a b × (room < length (rows_for a b segments)))
  -- and else the rows
  pub planned_if : (segments : List Segment) (a b room : ℕ) (rows : List Row)
      → plan_for (some segments) a b room ≡ fetch rows ↔ (InFile segments a b × (length rows ≤ room) × (rows ≡ rows_for a b segments))
  -- a table of as many rows as the file has segments is long enough
  pub enough : (segments : List Segment) (a b room : ℕ) → InFile segments a b → length segments ≤ room → plan_for (some segments) a b room ≡ fetch (rows_for a b segments)
  -- rows that are answered deliver the stretch
  pub delivers : (tag bytes : List ℕ) (file a b n : ℕ) (table : List Row) → Bytes tag → Bytes bytes → answer_to (plan_of tag bytes file a b (length table)) ≡ Ok n
      → Delivers tag bytes file a b n table (table_to (plan_of tag bytes file a b (length table)) table)
