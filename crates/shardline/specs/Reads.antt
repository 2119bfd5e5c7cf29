-- WHAT READING COMES TO, at an input whose bytes are known: all of them were fed to the reader, unless a read failed.
use Rattle.std.specs.Prelude.{◌≡◌, ◌⊎◌, ℕ, ◌-◌, ◌^◌, ◌<◌, ◌≤◌, List, Option, IfSome, Result, MatchResult, length, codes}
use Rattle.std.specs.Io.KnownBytes.{Appends}
use Rattle.words.specs.Le.{Bytes}
use Rattle.layout.specs.Scan.{found_in}
use Rattle.reader.specs.Readings.{Begun, fed_one}
use Rattle.reader.specs.declared.Reader.{Reader}
use Rattle.text.specs.Text.{line_of}
use Rattle.text.specs.declared.input.ReadFailed.{ReadFailed}
use Rattle.shardline.specs.Report.{report_of}

-- all the bytes of an input, of which no run has so many, were fed to a reader; or a read failed behind some of them
abbrev pub ReadAll : Option (List ℕ) → Reader → Result Reader ReadFailed → Type 0
ReadAll input from result = IfSome input (λ bytes. length bytes < 2 ^ 64 - 1
    → MatchResult result (λ to. Bytes bytes × (Begun from → to ≡ (fed_one from bytes).reader)) (λ failed. failed.after ≤ length bytes))

-- what was written behind what an output had is the report on all the bytes of an input under a tag, or that a read failed behind some of them
abbrev pub Reports : List ℕ → Option (List ℕ) → Option (List ℕ) → Option (List ℕ) → Type 0
Reports tag input old new = IfSome input (λ bytes. length bytes < 2 ^ 64 - 1
    → (Appends old new (report_of (found_in tag bytes).verdict)) ⊎ ((n : ℕ) × (n ≤ length bytes) × Appends old new (line_of (codes "read failed after ") n)))
