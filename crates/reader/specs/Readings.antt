-- WHAT A HOST SEES that feeds a reader pieces, and the claims about it, proved in proofs/ for every tag and all bytes.
use Rattle.std.specs.Prelude.{◌≡◌, ◌⊎◌, List, [], ◌∷◌, ◌++◌, ℕ, zero, suc, ◌-◌, ◌≤◌, ◌<◌, length, drop, replicate, Option, Some, None, Result, Ok, Err}
use Rattle.words.specs.Le.{Bytes}
use Rattle.words.specs.Record.{tag_at}
use Rattle.words.specs.declared.Tag.{Tag}
use Rattle.cut.specs.Format.{State, at, stopped, Run}
use Rattle.cut.specs.Calls.{joined, looked_all}
use Rattle.rules.specs.Held.{held}
use Rattle.rules.specs.Rules.{size_of, nothing}
use Rattle.rules.specs.Verdicts.{refusal_at}
use Rattle.rules.specs.declared.Place.{Place}
use Rattle.rules.specs.declared.Record.{Record}
use Rattle.words.specs.declared.Refusal.{Refusal}
use Rattle.rules.specs.declared.Due.TheVariants.{Refused}
use Rattle.layout.specs.Scan.{format, begin, scan, found_in}
use Rattle.layout.specs.Reach.{Reached, totals_with}
use Rattle.reader.specs.Stream.{emptied, tag_in, fresh, said_at, step_of, verdict_of}
use Rattle.reader.specs.declared.Reader.{Reader}
use Rattle.reader.specs.declared.Step.{Step}

-- ## Calls, as a host makes them

-- the record that a call hands out, if any
abbrev pub record_by : Result (Option Record) Refusal → List Record
record_by (Ok None) = []
record_by (Ok (Some found)) = found ∷ []
record_by (Err refusal) = []

abbrev pub handed_out : Step → List Record
handed_out s = record_by s.answer.found

-- the records handed out by some calls, and the reader after them
pub record Seen : Type 0 where
  pub records : List Record
  pub reader : Reader

abbrev pub then_seen : List Record → Seen → Seen
then_seen rs later = record { records = rs ++ later.records; reader = later.reader }

-- n calls for one piece, each with what the call before left of it
unfoldable pub offers : ℕ → Reader → List ℕ → Seen
offers zero r piece = record { records = []; reader = r }
offers (suc n) r piece = then_seen (handed_out (step_of r piece)) (offers n (step_of r piece).reader (drop (step_of r piece).answer.taken piece))

-- one piece until it is used up or refused: one call more than it has bytes is always enough (EnoughClaim)
abbrev pub fed_one : Reader → List ℕ → Seen
fed_one r piece = offers (suc (length piece)) r piece

-- pieces, one after the other
unfoldable pub fed : Reader → List (List ℕ) → Seen
fed r [] = record { records = []; reader = r }
fed r (p ∷ ps) = then_seen (fed_one r p).records (fed (fed_one r p).reader ps)

-- any calls at all: each is offered any piece
unfoldable pub called : Reader → List (List ℕ) → Seen
called r [] = record { records = []; reader = r }
called r (p ∷ ps) = then_seen (handed_out (step_of r p)) (called (step_of r p).reader ps)

-- a reader that beginning and any calls give
pub data Begun : Reader → Type 0 where
  begun : (tag : List ℕ) → Begun (fresh tag)
  after : {r : Reader} → Begun r → (piece : List ℕ) → Bytes piece → Begun (step_of r piece).reader

-- ## The reader of a state

-- the bytes so far stand first in the carry, and the rest of it is zero; a reader that has refused holds none
abbrev pub reader_of : Tag → State Place Place → Reader
reader_of four (at p h) = record { stand = record { have = length h; tag = four; place = p }; carry = h ++ replicate (200 - length h) 0 }
reader_of four (stopped p) = emptied four p

-- the records of a scan, and the reader of its state
abbrev pub seen_of : Tag → Run Place Record Place → Seen
seen_of four r = record { records = r.recs; reader = reader_of four r.state }

-- ## The claims

-- CUT: however bytes are cut into pieces, a fresh reader that is fed them has handed out the records found in the bytes, and has their verdict.
-- This holds of every list of pieces, and so after every piece.
pub record CutClaim (tag : List ℕ) (pieces : List (List ℕ)) : Type 0 where
  pub records : (fed (fresh tag) pieces).records ≡ (found_in tag (joined pieces)).records
  pub verdict : verdict_of (fed (fresh tag) pieces).reader ≡ (found_in tag (joined pieces)).verdict
  -- records and reader are those of the bytes, and so those of the whole input in one piece
  pub same : fed (fresh tag) pieces ≡ seen_of (tag_in tag) (scan tag (joined pieces))
  pub whole : fed (fresh tag) pieces ≡ fed (fresh tag) (joined pieces ∷ [])
  -- the reader's totals are those of the records that it has handed out
  pub totals : (fed (fresh tag) pieces).reader.stand.place.totals ≡ totals_with nothing (fed (fresh tag) pieces).records

-- the bytes that the calls look at: those that they take, and a byte after the end, which is refused
abbrev pub looked_at : List ℕ → List (List ℕ) → List ℕ
looked_at tag pieces = looked_all (format (tag_at tag)) (begin tag) pieces

-- ANY CALLS: whatever each call is offered, records and reader are those of the bytes that the calls look at.
pub record CallsClaim (tag : List ℕ) (pieces : List (List ℕ)) : Type 0 where
  pub records : (called (fresh tag) pieces).records ≡ (found_in tag (looked_at tag pieces)).records
  pub verdict : verdict_of (called (fresh tag) pieces).reader ≡ (found_in tag (looked_at tag pieces)).verdict
  pub same : called (fresh tag) pieces ≡ seen_of (tag_in tag) (scan tag (looked_at tag pieces))
  pub whole : called (fresh tag) pieces ≡ fed (fresh tag) (looked_at tag pieces ∷ [])
  pub totals : (called (fresh tag) pieces).reader.stand.place.totals ≡ totals_with nothing (called (fresh tag) pieces).records

-- KEPT: every begun reader is the reader of what some bytes mean, and keeps to what holds of all of these.
pub record KeptClaim (r : Reader) : Type 0 where
  pub tag : List ℕ
  pub bytes : List ℕ
  pub good : Bytes bytes
  pub same : r ≡ reader_of (tag_in tag) (scan tag bytes).state
  -- its place is one that reading gives: what is still due fits under the limit, and no number is too large for its field
  pub reached : Reached r.stand.place
  pub exact : held r.stand.place ≡ r.stand.place
  -- the totals are those of the records found
  pub totals : r.stand.place.totals ≡ totals_with nothing (scan tag bytes).recs
  -- the carry has 200 bytes, zero behind those of the record due
  pub long : length r.carry ≡ 200
  pub zeros : drop r.stand.have r.carry ≡ replicate (200 - r.stand.have) 0
  -- which are fewer than are due, and none where nothing is due
  pub fits : (r.stand.have < size_of r.stand.place) ⊎ ((size_of r.stand.place ≡ 0) × (r.stand.have ≡ 0))

-- ENOUGH: a piece is used up or refused after one call more than it has bytes; further calls with what is left change nothing.
abbrev pub EnoughClaim : Reader → List ℕ → Type 0
EnoughClaim r piece = (n : ℕ) → length piece < n → offers n r piece ≡ fed_one r piece

-- TAKES: a begun reader at which something is due takes a byte of a piece that is not empty; and no reader takes more than there is.
abbrev pub SomeTaken : Reader → List ℕ → Type 0
SomeTaken r piece = 0 < size_of r.stand.place → 0 < length piece → 0 < (step_of r piece).answer.taken

abbrev pub NoMoreTaken : Reader → List ℕ → Type 0
NoMoreTaken r piece = (step_of r piece).answer.taken ≤ length piece

-- EMPTY: an empty piece changes nothing; no byte is taken and no record handed out, and a refusal is said if there was one.
abbrev pub EmptyClaim : Reader → Type 0
EmptyClaim r = step_of r [] ≡ record { reader = r; answer = record { taken = 0; found = said_at None r.stand.place } }

-- a reader holds a refusal: it is that of its place
abbrev pub Holds : Reader → Refusal → Type 0
Holds r refusal = (r.stand.place.due ≡ Refused refusal.number) × (refusal_at refusal.number r.stand.place ≡ refusal)

-- REFUSED: of any reader and any piece, begun or not.
pub record RefusedClaim (r : Reader) (piece : List ℕ) : Type 0 where
  -- a call that refuses hands out no record
  pub none : (refusal : Refusal) → (step_of r piece).answer.found ≡ Err refusal → handed_out (step_of r piece) ≡ []
  -- its reader holds the refusal
  pub holds : (refusal : Refusal) → (step_of r piece).answer.found ≡ Err refusal → Holds (step_of r piece).reader refusal
  -- which is the verdict
  pub verdict : (refusal : Refusal) → (step_of r piece).answer.found ≡ Err refusal → verdict_of (step_of r piece).reader ≡ Err refusal
  -- and every later call, with any piece, takes nothing, changes nothing, and says the same refusal
  pub stays : (refusal : Refusal) → (step_of r piece).answer.found ≡ Err refusal
      → (later : List ℕ) → step_of (step_of r piece).reader later ≡ record { reader = (step_of r piece).reader; answer = record { taken = 0; found = Err refusal } }
  -- so does every call of a reader whose place holds a refusal
  pub again : (number : ℕ) → r.stand.place.due ≡ Refused number
      → step_of r piece ≡ record { reader = r; answer = record { taken = 0; found = Err (refusal_at number r.stand.place) } }

-- ALL OF THEM
pub record ReaderClaim : Type 0 where
  pub cut : (tag : List ℕ) (pieces : List (List ℕ)) → Bytes (joined pieces) → CutClaim tag pieces
  pub calls : (tag : List ℕ) (pieces : List (List ℕ)) → Bytes (joined pieces) → CallsClaim tag pieces
  pub kept : (r : Reader) → Begun r → KeptClaim r
  pub enough : (r : Reader) → Begun r → (piece : List ℕ) → Bytes piece → EnoughClaim r piece
  pub takes : (r : Reader) → Begun r → (piece : List ℕ) → SomeTaken r piece
  pub empty : (r : Reader) → Begun r → EmptyClaim r
  pub most : (r : Reader) (piece : List ℕ) → NoMoreTaken r piece
  pub refused : (r : Reader) (piece : List ℕ) → RefusedClaim r piece
  -- it carries at most 200 bytes
  pub few : (r : Reader) → Begun r → r.stand.have ≤ 200
