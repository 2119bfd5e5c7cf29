-- Why and where: a refusal, of its position and its number.
use Rattle.std.specs.Prelude.{ℕ, List, ◌++◌, codes, Result, Ok, Err}
use Rattle.std.specs.Fmt.{decimal}
use Rattle.words.specs.declared.WroteNumbers.{WroteNumbers}
use Rattle.words.specs.declared.Refusal.{Refusal}

abbrev pub refused_at : ℕ → ℕ → Refusal
refused_at at number = record { at = record { 0 = at }; number = number }

-- nothing was refused
abbrev pub no_refusal : Refusal
no_refusal = refused_at 0 0

-- as it is told: `refused 3 at 0`
abbrev pub refusal_text : Refusal → List ℕ
refusal_text r = codes "refused " ++ (decimal r.number ++ (codes " at " ++ decimal r.at.0))

-- the paper's numbers for what was written: so many bytes, or 0 and the refusal
abbrev pub wrote_numbers : Result ℕ Refusal → WroteNumbers
wrote_numbers (Ok size) = record { wrote = size; at = 0; number = 0 }
wrote_numbers (Err refusal) = record { wrote = 0; at = refusal.at.0; number = refusal.number }
