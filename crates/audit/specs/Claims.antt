-- THE CLAIMS OF THE AUDIT, proved in proofs/AuditClaims: in an accepted shard the answer is that of its tree. It is 22 exactly if some segment is false, and
-- then at the first; else the counts are those of the segments whose xorb is listed and of the others, and add up to all of them. And the verdict on the
-- shard does not depend on it.
use Rattle.std.specs.Prelude.{◌≡◌, ◌↔◌, ◌⊎◌, true, false, List, ◌∷◌, ◌++◌, ℕ, ◌+◌, ◌≤◌, length, Ok, Err}
use Rattle.std.proofs.Math.Option.{none, some}
use Rattle.words.specs.Le.{Bytes}
use Rattle.words.specs.Record.{IsHash, same_hash, words_at}
use Rattle.words.specs.declared.Refusal.{Refusal}
use Rattle.layout.specs.Layout.{Hash, Segment, XorbBlock, Shard, Each, segment_row, totals_of}
use Rattle.layout.specs.Scan.{found_in}
use Rattle.layout.specs.Claim.{summary_for, Spells}
use Rattle.audit.specs.Audit.{first_block, is_listed, bytes_between, is_true_of, PlacedSegment, counts_of, false_at, placed_of, audit_for, audit_of}
use Rattle.audit.specs.declared.Counts.{Counts}

-- ## Words for the claims

-- none of these blocks has that hash
abbrev pub NoneHas : Hash → List XorbBlock → Type 0
NoneHas hash xorbs = Each (λ x. same_hash x.hash hash ≡ false) xorbs

-- the first block of that hash
pub record FirstOf (hash : Hash) (xorbs : List XorbBlock) (x : XorbBlock) : Type 0 where
  pub before : List XorbBlock
  pub after : List XorbBlock
  pub split : xorbs ≡ before ++ (x ∷ after)
  pub same : same_hash x.hash hash ≡ true
  pub none : NoneHas hash before

-- what a segment must say of its block
pub record True (x : XorbBlock) (s : Segment) : Type 0 where
  pub end : s.end ≤ length x.chunks
  pub bytes : s.bytes ≡ bytes_between s.start s.end x.chunks

-- a false segment: its xorb is listed, and it does not say so of the first block of that hash
pub record False (xorbs : List XorbBlock) (s : Segment) : Type 0 where
  pub block : XorbBlock
  pub first : FirstOf s.xorb xorbs block
  pub not_true : True block s → ⊥

abbrev pub NoneFalse : List XorbBlock → List PlacedSegment → Type 0
NoneFalse xorbs ps = Each (λ p. False xorbs p.segment → ⊥) ps

-- the first false segment stands at that position
pub record FirstFalse (xorbs : List XorbBlock) (ps : List PlacedSegment) (at : ℕ) : Type 0 where
  pub before : List PlacedSegment
  pub one : PlacedSegment
  pub after : List PlacedSegment
  pub split : ps ≡ before ++ (one ∷ after)
  pub is_false : False xorbs one.segment
  pub none : NoneFalse xorbs before
  pub position : one.at ≡ at

-- in the tree of a shard: no segment is false, and these are the counts; or 22 at the first false one
pub record Passes (s : Shard) (counts : Counts) : Type 0 where
  pub none : NoneFalse s.xorbs (placed_of s)
  pub are : counts ≡ counts_of s.xorbs (placed_of s)

pub record Fails (s : Shard) (r : Refusal) : Type 0 where
  pub at : ℕ
  pub first : FirstFalse s.xorbs (placed_of s) at
  pub is : r ≡ false_at at

-- ## The claims

pub record AuditClaim : Type 0 where
  -- a refused shard gives its refusal
  pub refused : (tag bytes : List ℕ) (r : Refusal) → (found_in tag bytes).verdict ≡ Err r → audit_of tag bytes ≡ Err r
  -- an accepted one is spelled by a tree, and the answer is that of the tree
  pub shard : (tag bytes : List ℕ) (s : Shard) → Bytes tag → length tag ≡ 32 → Spells tag s bytes → audit_of tag bytes ≡ audit_for s
  -- whatever that is, the verdict on the shard is what it was
  pub apart : (tag bytes : List ℕ) (s : Shard) → Bytes tag → length tag ≡ 32 → Spells tag s bytes → (found_in tag bytes).verdict ≡ Ok (summary_for s)
  -- its segments stand at their positions, and are all that the totals count
  pub there : (tag bytes : List ℕ) (s : Shard) → Bytes tag → Spells tag s bytes → Each (λ p. words_at bytes p.at ≡ (segment_row p.segment).words) (placed_of s)
  pub all : (s : Shard) → length (placed_of s) ≡ (totals_of s).segments
  -- the first block of a hash, and none; hashes are the same exactly if they are equal
  pub first : (hash : Hash) (xorbs : List XorbBlock) (x : XorbBlock) → first_block hash xorbs ≡ some x ↔ FirstOf hash xorbs x
  pub absent : (hash : Hash) (xorbs : List XorbBlock) → first_block hash xorbs ≡ none ↔ NoneHas hash xorbs
  pub same : (g h : Hash) → IsHash g → IsHash h → same_hash g h ≡ true ↔ g ≡ h
  -- a segment is listed exactly if there is a first block of its hash, and the test of what it says is what it must say
  pub listed_if : (xorbs : List XorbBlock) (s : Segment) → is_listed xorbs s ≡ true ↔ ((x : XorbBlock) × FirstOf s.xorb xorbs x)
  pub true_if : (x : XorbBlock) (s : Segment) → is_true_of x s ≡ true ↔ True x s
  -- counts exactly if no segment is false, and 22 exactly at the first that is
  pub counted_if : (s : Shard) (counts : Counts) → audit_for s ≡ Ok counts ↔ Passes s counts
  pub refused_if : (s : Shard) (r : Refusal) → audit_for s ≡ Err r ↔ Fails s r
  -- the two counts add up to the number of segments
  pub sum : (s : Shard) (counts : Counts) → audit_for s ≡ Ok counts → counts.listed + counts.unlisted ≡ (totals_of s).segments
  -- what a host knows from the answer alone, of any bytes
  pub counts_say : (tag bytes : List ℕ) (counts : Counts) → Bytes tag → Bytes bytes → audit_of tag bytes ≡ Ok counts → (s : Shard) × Spells tag s bytes × Passes s counts
  pub refusal_says : (tag bytes : List ℕ) (r : Refusal) → Bytes tag → Bytes bytes → audit_of tag bytes ≡ Err r
      → (found_in tag bytes).verdict ≡ Err r ⊎ ((s : Shard) × Spells tag s bytes × Fails s r)
