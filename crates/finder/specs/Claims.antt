-- THE CLAIMS OF FINDING, proved in proofs/ChunkClaims and proofs/FileClaims: absent exactly if none has that hash, what is found is the first, in an accepted
-- shard its 48 bytes stand at the position and begin with the hash, and it is the first in the shard's tree.
use Rattle.std.specs.Prelude.{◌≡◌, ◌↔◌, ◌≢◌, List, [], ◌∷◌, ◌++◌, true, false, ℕ, ◌+◌, ◌*◌, length, None, Ok}
use Rattle.words.specs.Checks.{pick}
use Rattle.words.specs.Le.{Bytes}
use Rattle.words.specs.Record.{IsHash, hash_at, same_hash}
use Rattle.rules.specs.Kinds.{same_kind}
use Rattle.rules.specs.declared.Record.{Record}
use Rattle.words.specs.declared.Position.{Position}
use Rattle.rules.specs.declared.BlockNumber.{BlockNumber}
use Rattle.rules.specs.declared.ChunkIndex.{ChunkIndex}
use Rattle.rules.specs.declared.FileNumber.{FileNumber}
use Rattle.rules.specs.declared.Kind.{Kind}
use Rattle.rules.specs.declared.Kind.TheVariants as kind
use Rattle.layout.specs.Layout.{Hash, FileBlock, Chunk, XorbBlock, Shard, Each, sum_of, file_rows, xorb_rows, xorb_offset}
use Rattle.layout.specs.Scan.{found_in, IsAccepted}
use Rattle.layout.specs.Claim.{Spells}
use Rattle.finder.specs.Find.{the_chunk, chunk_in, chunk_found, the_file, file_in, file_found, part_at}

-- ## Words for the claims

-- a record of that kind with that hash, and records of which none is one
pub record Has (k : Kind) (hash : List ℕ) (r : Record) : Type 0 where
  pub kind : r.kind ≡ k
  pub same : same_hash r.words.hash hash ≡ true

abbrev pub NoneHas : Kind → List ℕ → List Record → Type 0
NoneHas k hash rs = Each (λ r. Has k hash r → ⊥) rs

-- how many records are of a kind
abbrev pub count_of : Kind → List Record → ℕ
count_of k rs = sum_of (λ r. pick (same_kind r.kind k) 1 0) rs

-- how many chunks stand behind the last xorb head; n were there before
abbrev pub chunks_since : ℕ → List Record → ℕ
chunks_since n [] = n
chunks_since n (r ∷ rs) = chunks_since (pick (same_kind r.kind kind.XorbHead) 0 (n + pick (same_kind r.kind kind.Chunk) 1 0)) rs

-- the first record of that kind with that hash, at that position
pub record First (k : Kind) (hash : List ℕ) (rs : List Record) (p : Position) : Type 0 where
  pub before : List Record
  pub hit : Record
  pub after : List Record
  pub split : rs ≡ before ++ (hit ∷ after)
  pub has : Has k hash hit
  pub none : NoneHas k hash before
  pub position : hit.at ≡ p

-- the 48 bytes at a position begin with that hash
pub record There (bytes hash : List ℕ) (p : Position) : Type 0 where
  pub stands : hash_at bytes p.0 ≡ hash
  pub size : length (part_at bytes p.0) ≡ 48
  pub begins : hash_at (part_at bytes p.0) 0 ≡ hash

-- the first of these parts of the tree with that hash, by its number and position: the first of all has that number and stands at that position, and each
-- takes so many rows
pub record FirstOf {A : Type 0} (hash_of : A → Hash) (rows_in : A → ℕ) (hash : Hash) (number at : ℕ) (parts : List A) (n p : ℕ) : Type 0 where
  pub before : List A
  pub hit : A
  pub after : List A
  pub split : parts ≡ before ++ (hit ∷ after)
  pub has : hash_of hit ≡ hash
  pub none : Each (λ x. hash_of x ≢ hash) before
  pub number_is : n ≡ number + length before
  pub position : p ≡ at + 48 * sum_of rows_in before

-- ## Chunks

-- no chunk stands before the first xorb head
abbrev pub Headed : List Record → Type 0
Headed [] = Unit {0}
Headed (r ∷ rs) = same_kind r.kind kind.XorbHead ≡ false → (same_kind r.kind kind.Chunk ≡ false) × Headed rs

-- the first, by its number: its block is the last that begins before it and, in its block, its index is that of the chunks before it
pub record FirstChunk (hash : List ℕ) (blocks index : ℕ) (rs : List Record) (b : BlockNumber) (i : ChunkIndex) (p : Position) : Type 0 where
  pub first : First kind.Chunk hash rs p
  pub block : b.0 + 1 ≡ blocks + count_of kind.XorbHead first.before
  pub index_is : i.0 ≡ chunks_since index first.before

-- none of these chunks of the tree has that hash
abbrev pub NoneIn : Hash → List Chunk → Type 0
NoneIn hash chunks = Each (λ c. c.hash ≢ hash) chunks

-- the first chunk with that hash in these xorb blocks of the tree, in the order of blocks and entries: no chunk of the blocks before has it, and in its block it is
-- the first behind the head
pub record ChunkOfTree (hash : Hash) (number at : ℕ) (xorbs : List XorbBlock) (b : BlockNumber) (i : ChunkIndex) (p : Position) : Type 0 where
  pub before : List XorbBlock
  pub block : XorbBlock
  pub after : List XorbBlock
  pub split : xorbs ≡ before ++ (block ∷ after)
  pub none : Each (λ x. NoneIn hash x.chunks) before
  pub number_is : b.0 ≡ number + length before
  pub in_block : FirstOf (λ c. c.hash) (λ c. 1) hash 0 (at + 48 * sum_of (λ x. length (xorb_rows x)) before + 48) block.chunks i.0 p.0

pub record ChunkClaim : Type 0 where
  -- where no chunk stands before the first xorb head: absent exactly if no chunk has that hash
  pub absent : (hash : List ℕ) (rs : List Record) → Headed rs → chunk_in hash rs ≡ Ok None ↔ NoneHas kind.Chunk hash rs
  -- and what is found is the first
  pub first : (hash : List ℕ) (rs : List Record) (b : BlockNumber) (i : ChunkIndex) (p : Position) → Headed rs → chunk_in hash rs ≡ the_chunk b i p → FirstChunk hash 0 0 rs b i p
  -- an accepted shard is so: absent exactly if none of its chunks has that hash
  pub headed : (tag bytes : List ℕ) → Bytes tag → Bytes bytes → IsAccepted (found_in tag bytes).verdict → Headed (found_in tag bytes).records
  pub shard : (tag bytes hash : List ℕ) → Bytes tag → Bytes bytes → IsAccepted (found_in tag bytes).verdict → chunk_found tag bytes hash ≡ Ok None ↔ NoneHas kind.Chunk hash (found_in tag bytes).records
  -- what is found there begins with the hash
  pub there : (tag bytes hash : List ℕ) (b : BlockNumber) (i : ChunkIndex) (p : Position) → Bytes tag → Bytes bytes → IsHash hash → chunk_found tag bytes hash ≡ the_chunk b i p → There bytes hash p
  -- in the bytes of a tree: found exactly where the tree has its first chunk with that hash, and absent exactly if none of its chunks has it
  pub tree : (tag bytes : List ℕ) (s : Shard) (hash : Hash) (b : BlockNumber) (i : ChunkIndex) (p : Position) → Bytes tag → length tag ≡ 32 → IsHash hash → Spells tag s bytes
      → chunk_found tag bytes hash ≡ the_chunk b i p ↔ ChunkOfTree hash 0 (xorb_offset s) s.xorbs b i p
  pub none_in_tree : (tag bytes : List ℕ) (s : Shard) (hash : Hash) → Bytes tag → length tag ≡ 32 → IsHash hash → Spells tag s bytes
      → chunk_found tag bytes hash ≡ Ok None ↔ Each (λ x. NoneIn hash x.chunks) s.xorbs

-- ## Files

-- the first, by its number: the file heads before it
pub record FirstFile (hash : List ℕ) (files : ℕ) (rs : List Record) (n : FileNumber) (p : Position) : Type 0 where
  pub first : First kind.FileHead hash rs p
  pub number : n.0 ≡ files + count_of kind.FileHead first.before

-- the first file of the tree with that hash
abbrev pub FileOfTree : Hash → ℕ → ℕ → List FileBlock → FileNumber → Position → Type 0
FileOfTree hash number at files n p = FirstOf (λ f. f.hash) (λ f. length (file_rows f)) hash number at files n.0 p.0

pub record FileClaim : Type 0 where
  -- the same, in any records
  pub absent : (hash : List ℕ) (files : ℕ) (rs : List Record) → file_in hash files rs ≡ Ok None ↔ NoneHas kind.FileHead hash rs
  pub first : (hash : List ℕ) (files : ℕ) (rs : List Record) (n : FileNumber) (p : Position) → file_in hash files rs ≡ the_file n p → FirstFile hash files rs n p
  pub shard : (tag bytes hash : List ℕ) → IsAccepted (found_in tag bytes).verdict → file_found tag bytes hash ≡ Ok None ↔ NoneHas kind.FileHead hash (found_in tag bytes).records
  pub there : (tag bytes hash : List ℕ) (n : FileNumber) (p : Position) → Bytes tag → Bytes bytes → IsHash hash → file_found tag bytes hash ≡ the_file n p → There bytes hash p
  -- the first file stands behind the header
  pub tree : (tag bytes : List ℕ) (s : Shard) (hash : Hash) (n : FileNumber) (p : Position) → Bytes tag → length tag ≡ 32 → IsHash hash → Spells tag s bytes
      → file_found tag bytes hash ≡ the_file n p ↔ FileOfTree hash 0 48 s.files n p
  pub none_in_tree : (tag bytes : List ℕ) (s : Shard) (hash : Hash) → Bytes tag → length tag ≡ 32 → IsHash hash → Spells tag s bytes
      → file_found tag bytes hash ≡ Ok None ↔ Each (λ f. f.hash ≢ hash) s.files
