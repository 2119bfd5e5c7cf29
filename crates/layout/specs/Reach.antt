-- THE PLACES THAT READING GIVES: what is still due at least fits under the limit, and the counts are bounded by the position.
-- The start is one, and each good record leads from one to another (proofs/Reach); in all of them the numbers have room in 64 bits.
use Rattle.std.specs.Prelude.{◌≡◌, List, [], ◌∷◌, ℕ, ◌+◌, ◌*◌, ◌^◌, ◌≤◌, ◌<◌}
use Rattle.words.specs.Checks.{pick}
use Rattle.cut.specs.Format.{State, at, stopped}
use Rattle.rules.specs.Held.{held}
use Rattle.rules.specs.Rules.{limit, footer_size, bit31, bit30, nothing}
use Rattle.rules.specs.declared.Totals.{Totals}
use Rattle.rules.specs.declared.Place.{Place}
use Rattle.rules.specs.declared.Record.{Record}
use Rattle.rules.specs.declared.Due.{Due}
use Rattle.rules.specs.declared.Due.TheVariants.{Header, FileHead, Segment, Verification, Metadata, XorbHead, Chunk, Footer, End, Refused}
use Rattle.layout.specs.Scan.{scan, with_record}

-- what is still due at least fits under the limit
abbrev pub RoomBy : Due → Place → Type 0
RoomBy Header p = p.at.0 + 344 ≤ limit
RoomBy FileHead p = p.at.0 + 96 + footer_size p.footer ≤ limit
RoomBy (Segment left) p = (0 < left) × (p.at.0 + 48 * (left + pick (bit31 p.flags) p.entries 0 + pick (bit30 p.flags) 1 0) + 96 + footer_size p.footer ≤ limit)
RoomBy (Verification left) p = (0 < left) × (p.at.0 + 48 * (left + pick (bit30 p.flags) 1 0) + 96 + footer_size p.footer ≤ limit)
RoomBy Metadata p = p.at.0 + 144 + footer_size p.footer ≤ limit
RoomBy XorbHead p = p.at.0 + 48 + footer_size p.footer ≤ limit
RoomBy (Chunk left sum total) p = (0 < left) × (sum ≤ total) × (total < 2 ^ 32) × (p.at.0 + 48 * left + 48 + footer_size p.footer ≤ limit)
RoomBy Footer p = p.at.0 + 200 ≤ limit
RoomBy End p = p.at.0 ≤ limit
-- a refusal has a number
RoomBy (Refused number) p = (0 < number) × (p.at.0 ≤ limit)

-- each record counted took 48 bytes, each segment says less than 2 ^ 32, and the xorb offset is a position passed
pub record CountsWithin (at offset : ℕ) (t : Totals) : Type 0 where
  pub records : 48 * (t.files + t.segments + t.xorbs + t.chunks) ≤ at
  pub bytes : t.bytes ≤ 4294967296 * t.segments
  pub behind : offset ≤ at

pub record Reached (p : Place) : Type 0 where
  pub room : RoomBy p.due p
  pub counts : CountsWithin p.at.0 p.offset.0 p.totals

-- ## After any bytes

-- the place where reading stands, or stopped
abbrev pub place_of : State Place Place → Place
place_of (at p held) = p
place_of (stopped p) = p

-- where reading bytes ends: behind the last record, or where they are refused or break off
unfoldable pub last_place : List ℕ → List ℕ → Place
last_place tag bytes = place_of (scan tag bytes).state

-- totals with all of some records
abbrev pub totals_with : Totals → List Record → Totals
totals_with t [] = t
totals_with t (r ∷ rs) = totals_with (with_record t r) rs

-- proved in proofs/States for every tag and any bytes: the last place is a reached one, and its totals are those of the records found
pub record StateClaim (tag bytes : List ℕ) : Type 0 where
  pub reached : Reached (last_place tag bytes)
  pub totals : (last_place tag bytes).totals ≡ totals_with nothing (scan tag bytes).recs
