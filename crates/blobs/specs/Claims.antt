-- THE CLAIMS OF THE BLOB FILES, proved in proofs/ReadClaims, ScanClaims and WriteClaims.
use Rattle.std.specs.Prelude.{◌≡◌, ◌↔◌, ℕ, ◌+◌, ◌≤◌, ◌<◌, List, [], ◌∷◌, ◌++◌, true, length, take, drop, Result, Ok, Err}
use Rattle.words.specs.Le.{Bytes}
use Rattle.words.specs.Refusals.{refused_at}
use Rattle.words.specs.declared.Refusal.{Refusal}
use Rattle.blobs.specs.declared.Parts.{Parts}
use Rattle.blobs.specs.declared.Tally.{Tally}
use Rattle.blobs.specs.Blobs.{Blob, Sound, AllSound, are_digits, bytes_in, spell_entry, entry_size, spell_all, head_of, entry_at, blob_in, put_of, buffer_of, none, scan_of}

-- ## Words for the claims

-- a list of sound blobs whose entries, one behind the other, are these bytes
pub record Spells (bs : List Blob) (s : List ℕ) : Type 0 where
  pub sound : AllSound bs
  pub spelled : spell_all bs ≡ s

-- an entry is found
abbrev pub IsFound : Result Parts Refusal → Type 0
IsFound (Ok p) = Unit {0}
IsFound (Err r) = ⊥

-- a scan has counted
abbrev pub IsCounted : Result Tally Refusal → Type 0
IsCounted (Ok t) = Unit {0}
IsCounted (Err r) = ⊥

-- the reader finds this blob at a position, and this next position
pub record Reads (s : List ℕ) (at : ℕ) (b : Blob) (next : ℕ) : Type 0 where
  pub parts : Parts
  pub found : entry_at s at ≡ Ok parts
  pub blob : blob_in s parts ≡ b
  pub behind : parts.next.0 ≡ next

-- some sound blob's entry stands at a position
pub record Stands (s : List ℕ) (at : ℕ) : Type 0 where
  pub blob : Blob
  pub after : List ℕ
  pub sound : Sound blob
  pub spelled : spell_entry blob ++ after ≡ drop at s

-- any bytes are entries of sound blobs and then a rest: nothing, or something at whose start no entry is found
pub record Fate (s : List ℕ) : Type 0 where
  pub blobs : List Blob
  pub rest : List ℕ
  pub sound : AllSound blobs
  pub cut : spell_all blobs ++ rest ≡ s
  pub ends : 0 < length rest → IsFound (entry_at rest 0) → ⊥

-- what the writer asks of a blob and a buffer of so many bytes
pub record Allowed (b : Blob) (room : ℕ) : Type 0 where
  pub size : length b.digits ≡ 64
  pub hex : are_digits b.digits ≡ true
  pub fits : entry_size b ≤ room

-- entries written one behind the other, each at the start of what is left of a buffer
abbrev pub put_all : List Blob → List ℕ → List ℕ
put_all [] buf = buf
put_all (b ∷ bs) buf = take (entry_size b) (buffer_of b buf) ++ put_all bs (drop (entry_size b) (buffer_of b buf))

-- ## The reader

pub record ReadClaim : Type 0 where
  -- an entry is found exactly where that of a sound blob stands
  pub accepts : (s : List ℕ) (at : ℕ) → Bytes s → IsFound (entry_at s at) ↔ Stands s at
  -- wherever it stands, among any bytes, what is found is its blob
  pub there : (before after : List ℕ) (b : Blob) → Sound b → Reads (before ++ spell_entry b ++ after) (length before) b (length before + entry_size b)
  -- each entry of a file is found at its position, and the next position is that of the entry behind it
  pub each : (s : List ℕ) (before : List Blob) (b : Blob) (after : List Blob) → Spells (before ++ b ∷ after) s
      → Reads s (length (spell_all before)) b (length (spell_all (before ++ b ∷ [])))
  -- at or past the end it is 24
  pub past : (s : List ℕ) (at : ℕ) → length s ≤ at → entry_at s at ≡ Err (refused_at at 24)
  -- a refusal is at the position asked for, with the number of the bytes from there on
  pub alone : (before rest : List ℕ) (r : Refusal) → entry_at rest 0 ≡ Err r → entry_at (before ++ rest) (length before) ≡ Err (refused_at (length before) r.number)
  -- the first 110 bytes alone decide what a head says
  pub head : (left : List ℕ) → head_of (take 110 left) ≡ head_of left

-- ## The scan

pub record ScanClaim : Type 0 where
  -- a buffer is accepted exactly if it is the entries of a list of sound blobs; that list is the only one, and the numbers are its own
  pub accepted : (s : List ℕ) → Bytes s → IsCounted (scan_of s) ↔ ((bs : List Blob) × Spells bs s)
  pub only : (s : List ℕ) (bs cs : List Blob) → Spells bs s → Spells cs s → bs ≡ cs
  pub totals : (s : List ℕ) (bs : List Blob) → Spells bs s → scan_of s ≡ Ok (record { entries = length bs; bytes = bytes_in bs })
  -- any bytes have a fate, and the first bad entry decides number and position
  pub fate : (s : List ℕ) → Bytes s → Fate s
  pub first : (bs : List Blob) (rest : List ℕ) (r : Refusal) → AllSound bs → 0 < length rest → entry_at rest 0 ≡ Err r
      → scan_of (spell_all bs ++ rest) ≡ Err (refused_at (length (spell_all bs)) r.number)
  -- an empty buffer is good with no entries
  pub empty : scan_of [] ≡ Ok none

-- ## The writer

pub record WriteClaim : Type 0 where
  -- written exactly if there are 64 digits and room
  pub exactly : (b : Blob) (room : ℕ) → (put_of b room ≡ Ok (entry_size b)) ↔ Allowed b room
  -- then the entry stands at the start of the buffer
  pub begins : (b : Blob) (buf : List ℕ) → Allowed b (length buf) → take (entry_size b) (buffer_of b buf) ≡ spell_entry b
  -- no byte behind it changes, and the buffer keeps its length; refused, no byte changes
  pub behind : (b : Blob) (buf : List ℕ) → drop (entry_size b) (buffer_of b buf) ≡ drop (entry_size b) buf
  pub keeps : (b : Blob) (buf : List ℕ) → length (buffer_of b buf) ≡ length buf
  pub refused : (b : Blob) (buf : List ℕ) → (Allowed b (length buf) → ⊥) → buffer_of b buf ≡ buf
  -- what was written is found there
  pub write_read : (b : Blob) (buf : List ℕ) → Sound b → entry_size b ≤ length buf → Reads (buffer_of b buf) 0 b (entry_size b)
  -- what was found, written into any buffer with room, is the same bytes again, up to the next position
  pub read_write : (s : List ℕ) (at : ℕ) (b : Blob) (next : ℕ) (buf : List ℕ) → Bytes s → Reads s at b next → entry_size b ≤ length buf
      → (put_of b (length buf) ≡ Ok (entry_size b)) × (at + entry_size b ≡ next) × (take (entry_size b) (buffer_of b buf) ≡ take (entry_size b) (drop at s))
  -- all blobs of a file, written one behind the other, are its bytes, and nothing behind them changes
  pub whole : (s : List ℕ) (bs : List Blob) (buf : List ℕ) → Spells bs s → length s ≤ length buf → put_all bs buf ≡ s ++ drop (length s) buf
  -- any sound blobs, written so into a buffer just long enough, are a file of these
  pub file : (bs : List Blob) (buf : List ℕ) → AllSound bs → length buf ≡ length (spell_all bs) → Spells bs (put_all bs buf)
