-- FINDING: the first chunk, or the first file head, with that hash among the records of an accepted shard, in their order; a refused shard gives its refusal.
use Rattle.std.specs.Prelude.{◌≡◌, ℕ, ◌+◌, ◌<◌, List, [], ◌∷◌, leb, length, take, drop, Option, Some, None, Result, Ok, Err}
use Rattle.std.specs.Borrow.{Bor}
use Rattle.words.specs.Checks.{pick}
use Rattle.words.specs.Record.{same_hash}
use Rattle.words.specs.declared.Position.{Position}
use Rattle.words.specs.declared.Refusal.{Refusal}
use Rattle.rules.specs.Kinds.{same_kind}
use Rattle.rules.specs.declared.Record.{Record}
use Rattle.rules.specs.declared.BlockNumber.{BlockNumber}
use Rattle.rules.specs.declared.ChunkIndex.{ChunkIndex}
use Rattle.rules.specs.declared.FileNumber.{FileNumber}
use Rattle.rules.specs.declared.Kind.{Kind}
use Rattle.rules.specs.declared.Kind.TheVariants as kind
use Rattle.layout.specs.Scan.{found_in, if_accepted}
use Rattle.finder.specs.declared.ChunkPlace.{ChunkPlace}
use Rattle.finder.specs.declared.FilePlace.{FilePlace}
use Rattle.finder.specs.declared.FoundChunkNumbers.{FoundChunkNumbers}
use Rattle.finder.specs.declared.FoundFileNumbers.{FoundFileNumbers}

-- ## Chunks

-- the place of a chunk, if there is one, or why the shard is refused
abbrev pub ChunkAnswer : Type 0
ChunkAnswer = Result (Option ChunkPlace) Refusal

-- there is one, in that block, with that index, at that position
abbrev pub the_chunk : BlockNumber → ChunkIndex → Position → ChunkAnswer
the_chunk block index at = Ok (Some (record { block = block; index = index; at = at }))

-- at one record behind a xorb head: block is the number of that head, index that of the chunks since; `later` looks at the records behind it
abbrev pub chunk_at : Kind → List ℕ → ℕ → ℕ → Record → (ℕ → ℕ → ChunkAnswer) → ChunkAnswer
chunk_at kind.Header hash block index r later = later block index
chunk_at kind.FileHead hash block index r later = later block index
chunk_at kind.Segment hash block index r later = later block index
chunk_at kind.Verification hash block index r later = later block index
chunk_at kind.Metadata hash block index r later = later block index
chunk_at kind.XorbHead hash block index r later = later (block + 1) 0
chunk_at kind.Chunk hash block index r later = pick (same_hash r.words.hash hash) (the_chunk (record { 0 = block }) (record { 0 = index }) r.at) (later block (index + 1))
chunk_at kind.Bookend hash block index r later = later block index
chunk_at kind.Footer hash block index r later = later block index

-- the first chunk with that hash behind a xorb head
unfoldable pub chunk_behind : List ℕ → ℕ → ℕ → List Record → ChunkAnswer
chunk_behind hash block index [] = Ok None
chunk_behind hash block index (r ∷ rs) = chunk_at r.kind hash block index r (λ b i. chunk_behind hash b i rs)

-- the first xorb head is that of block 0, and chunks stand behind it
unfoldable pub chunk_in : List ℕ → List Record → ChunkAnswer
chunk_in hash [] = Ok None
chunk_in hash (r ∷ rs) = pick (same_kind r.kind kind.XorbHead) (chunk_behind hash 0 0 rs) (chunk_in hash rs)

unfoldable pub chunk_found : List ℕ → List ℕ → List ℕ → ChunkAnswer
chunk_found tag bytes hash = if_accepted Err (found_in tag bytes).verdict (λ s. chunk_in hash (found_in tag bytes).records)

-- the paper's numbers for each case: absent, found at its position, or the refusal
abbrev pub chunk_numbers : ChunkAnswer → FoundChunkNumbers
chunk_numbers (Ok (Some place)) = record { at = place.at.0; said = 1; number = 0; block = place.block.0; index = place.index.0 }
chunk_numbers (Ok None) = record { at = 0; said = 0; number = 0; block = 0; index = 0 }
chunk_numbers (Err refusal) = record { at = refusal.at.0; said = 2; number = refusal.number; block = 0; index = 0 }

-- ## Files

-- the place of a file, if there is one, or why the shard is refused
abbrev pub FileAnswer : Type 0
FileAnswer = Result (Option FilePlace) Refusal

-- there is one, with that number, its head at that position
abbrev pub the_file : FileNumber → Position → FileAnswer
the_file number at = Ok (Some (record { number = number; at = at }))

-- at one record: files is the number of file heads before it
abbrev pub file_at : Kind → List ℕ → ℕ → Record → (ℕ → FileAnswer) → FileAnswer
file_at kind.Header hash files r later = later files
file_at kind.FileHead hash files r later = pick (same_hash r.words.hash hash) (the_file (record { 0 = files }) r.at) (later (files + 1))
file_at kind.Segment hash files r later = later files
file_at kind.Verification hash files r later = later files
file_at kind.Metadata hash files r later = later files
file_at kind.XorbHead hash files r later = later files
file_at kind.Chunk hash files r later = later files
file_at kind.Bookend hash files r later = later files
file_at kind.Footer hash files r later = later files

-- the first file with that hash
unfoldable pub file_in : List ℕ → ℕ → List Record → FileAnswer
file_in hash files [] = Ok None
file_in hash files (r ∷ rs) = file_at r.kind hash files r (λ n. file_in hash n rs)

unfoldable pub file_found : List ℕ → List ℕ → List ℕ → FileAnswer
file_found tag bytes hash = if_accepted Err (found_in tag bytes).verdict (λ s. file_in hash 0 (found_in tag bytes).records)

abbrev pub file_numbers : FileAnswer → FoundFileNumbers
file_numbers (Ok (Some place)) = record { at = place.at.0; said = 1; number = 0; file = place.number.0 }
file_numbers (Ok None) = record { at = 0; said = 0; number = 0; file = 0 }
file_numbers (Err refusal) = record { at = refusal.at.0; said = 2; number = refusal.number; file = 0 }

-- ## The 48 bytes at a position

-- or nothing where 48 bytes don't fit
unfoldable pub part_at : List ℕ → ℕ → List ℕ
part_at bytes at = pick (leb (at + 48) (length bytes)) (take 48 (drop at bytes)) []

-- a place in memory is a block and a number of bytes behind its start; so many bytes further
abbrev pub behind : ℕ × ℕ → ℕ → ℕ × ℕ
behind place n = (place.0, place.1 + n)

-- that part of a buffer: its bytes, and its place behind the buffer's; an empty part may be anywhere
pub record PartOf (buffer : Bor (List ℕ)) (at : ℕ) (part : Bor (List ℕ)) : Type 0 where
  pub bytes : part.now ≡ part_at buffer.now at
  pub place : 0 < length part.now → part.ref_ptr ≡ behind buffer.ref_ptr at
