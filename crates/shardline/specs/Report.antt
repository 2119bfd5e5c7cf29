-- WHAT IS WRITTEN for a verdict: seven lines, or one with the refusal.
use Rattle.std.specs.Prelude.{ℕ, List, ◌++◌, Bool, true, false, codes, Ok, Err}
use Rattle.words.specs.Refusals.{refusal_text}
use Rattle.rules.specs.declared.Summary.{Summary}
use Rattle.rules.specs.Verdicts.{Verdict}
use Rattle.text.specs.Text.{line_of}

abbrev pub footer_line : Bool → List ℕ
footer_line true = codes "footer yes\n"
footer_line false = codes "footer no\n"

abbrev pub summary_lines : Summary → List ℕ
summary_lines s =
    line_of (codes "files ") s.totals.files
    ++ (line_of (codes "segments ") s.totals.segments
    ++ (line_of (codes "xorbs ") s.totals.xorbs
    ++ (line_of (codes "chunks ") s.totals.chunks
    ++ (line_of (codes "bytes ") s.totals.bytes
    ++ (footer_line s.footer
    ++ line_of (codes "ok ") s.length)))))

abbrev pub report_of : Verdict → List ℕ
report_of (Ok summary) = summary_lines summary
report_of (Err refusal) = refusal_text refusal ++ codes "\n"
