-- WHAT READING COMES TO, at an input whose bytes are known, and what is written: the scan of the whole file, unless a read failed.
use Rattle.std.specs.Prelude.{◌≡◌, ◌⊎◌, ℕ, ◌+◌, ◌-◌, ◌*◌, ◌^◌, ◌≤◌, ◌<◌, List, [], ◌++◌, Option, None, Some, IfSome, Result, Ok, Err, length, drop, codes}
use Rattle.std.specs.Io.KnownBytes.{Appends}
use Rattle.words.specs.Refusals.{refused_at, refusal_text}
use Rattle.words.specs.declared.Refusal.{Refusal}
use Rattle.blobs.specs.declared.Tally.{Tally}
use Rattle.blobs.specs.Blobs.{whole_of, scan_from, scan_of}
use Rattle.text.specs.Text.{line_of}
use Rattle.blobline.specs.declared.Entries.{Entries}
use Rattle.blobline.specs.declared.Stop.{Stop}
use Rattle.blobline.specs.declared.Stop.TheVariants as stop

-- no run has so many bytes
abbrev pub IsShort : List ℕ → Type 0
IsShort file = length file < 2 ^ 64 - 1

-- what is said of the entry at the start of the bytes that an input has left, and what it has left then
abbrev pub ReadsEntry : List ℕ → Option (List ℕ) → Result (Option ℕ) Stop → Type 0
ReadsEntry rest left (Ok None) = rest ≡ []
ReadsEntry rest left (Ok (Some n)) = (whole_of rest ≡ Ok n) × (left ≡ Some (drop (110 + n) rest))
ReadsEntry rest left (Err (stop.Refused number)) = (whole_of rest ≡ Err number) × (0 < length rest)
ReadsEntry rest left (Err stop.ReadFailed) = Unit {0}

-- the scan of a file comes to the end of these entries, having counted them: from there on it answers what it answers from the start
pub record Reached (file : List ℕ) (e : Entries) : Type 0 where
  pub within : e.end ≤ length file
  pub sum : e.tally.entries * 110 + e.tally.bytes ≡ e.end
  pub same : scan_from (length file - e.tally.entries) file e.end e.tally ≡ scan_of file

-- an entry of a file is due: the input has what is left of the file
pub record Due (file : List ℕ) (left : Option (List ℕ)) (e : Entries) : Type 0 where
  pub here : left ≡ Some (drop e.end file)
  pub reached : Reached file e

-- all entries of a file were counted, or the one behind those counted is refused, or a read failed in it
abbrev pub Ended : List ℕ → Entries → Result (Unit {0}) Stop → Type 0
Ended file e (Ok u) = (scan_of file ≡ Ok e.tally) × (e.end ≡ length file)
Ended file e (Err (stop.Refused number)) = scan_of file ≡ Err (refused_at e.end number)
Ended file e (Err stop.ReadFailed) = Reached file e

-- three lines
abbrev pub counts_of : Tally → ℕ → List ℕ
counts_of t size = line_of (codes "entries ") t.entries ++ (line_of (codes "bytes ") t.bytes ++ line_of (codes "ok ") size)

-- or one with the refusal
abbrev pub report_by : Result Tally Refusal → ℕ → List ℕ
report_by (Ok t) size = counts_of t size
report_by (Err refusal) size = refusal_text refusal ++ codes "\n"

abbrev pub report_of : List ℕ → List ℕ
report_of file = report_by (scan_of file) (length file)

-- or one that says where reading failed
abbrev pub failure_at : ℕ → List ℕ
failure_at at = line_of (codes "read failed in the entry at ") at

-- what was written behind what an output had is the report on a whole file, or that a read failed in an entry that the scan comes to
abbrev pub IsTold : List ℕ → Option (List ℕ) → Option (List ℕ) → Type 0
IsTold file old new = (Appends old new (report_of file)) ⊎ ((e : Entries) × Reached file e × Appends old new (failure_at e.end))

-- the same of the file that an input has
abbrev pub Reports : Option (List ℕ) → Option (List ℕ) → Option (List ℕ) → Type 0
Reports input old new = IfSome input (λ file. IsShort file → IsTold file old new)
