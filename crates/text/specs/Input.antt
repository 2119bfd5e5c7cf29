-- HOW MANY bytes were read where that is a result, and what is written for a read that failed.
use Rattle.std.specs.Prelude.{ℕ, List, ◌++◌, codes, decimal, Result, Ok, Err}
use Rattle.text.specs.declared.input.ReadFailed.{ReadFailed}

abbrev pub count_of : Result ℕ ReadFailed → ℕ
count_of (Ok n) = n
count_of (Err e) = e.after

-- as `read failed after 48`, with no line end
abbrev pub failure_text : ReadFailed → List ℕ
failure_text e = codes "read failed after " ++ decimal e.after
