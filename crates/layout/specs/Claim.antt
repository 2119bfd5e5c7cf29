-- THE CLAIM OF THE LAYOUT, proved in proofs/Theorem for every tag of 32 bytes: bytes are accepted exactly if they are those of a sound shard;
-- that shard is the only one; and the records, the length and the totals found are its own.
use Rattle.std.specs.Prelude.{◌≡◌, ◌↔◌, ℕ, List, ◌++◌, length, take, Ok}
use Rattle.words.specs.Le.{Bytes, spell}
use Rattle.layout.specs.Scan.{Found, found_in, IsAccepted}
use Rattle.layout.specs.Layout.{Shard, Sound, footer_size, has, bytes_of, records_of, totals_of, length_of}
use Rattle.rules.specs.declared.Summary.{Summary}

-- what is to be said of a shard, and found in its bytes
abbrev pub summary_for : Shard → Summary
summary_for s = record { length = length_of s; totals = totals_of s; footer = has s.footer }

abbrev pub meaning_of : List ℕ → Shard → Found
meaning_of tag s = record { records = records_of tag s; verdict = Ok (summary_for s) }

-- a sound shard that is spelled so
pub record Spells (tag : List ℕ) (s : Shard) (bytes : List ℕ) : Type 0 where
  pub sound : Sound s
  pub spelled : bytes_of tag s ≡ bytes

pub record LayoutClaim (tag : List ℕ) : Type 0 where
  -- a shard begins with its tag, version 2 and footer size, and is as long as it says
  pub begins : (s : Shard) → take 48 (bytes_of tag s) ≡ tag ++ spell 8 2 ++ spell 8 (footer_size s)
  pub long : (s : Shard) → length (bytes_of tag s) ≡ length_of s
  -- accepted exactly if some sound shard is spelled so
  pub accepted : (bytes : List ℕ) → Bytes bytes → IsAccepted (found_in tag bytes).verdict ↔ ((s : Shard) × Spells tag s bytes)
  -- what is found is that shard's own
  pub found : (bytes : List ℕ) (s : Shard) → Spells tag s bytes → found_in tag bytes ≡ meaning_of tag s
  -- and it is the only one
  pub only : (bytes : List ℕ) (s t : Shard) → Spells tag s bytes → Spells tag t bytes → s ≡ t
