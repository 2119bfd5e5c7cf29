-- WHAT IS WRITTEN on a line: a name and a number.
use Rattle.std.specs.Prelude.{ℕ, List, ◌++◌, codes, decimal}

-- a name, a number and a line end
abbrev pub line_of : List ℕ → ℕ → List ℕ
line_of name n = name ++ (decimal n ++ codes "\n")
