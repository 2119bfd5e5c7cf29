-- Kinds of record: which of them are due, their rows in the paper's table, and the number where one is not due.
use Rattle.std.specs.Prelude.{ℕ, Bool, false, ◌||◌, List, [], ◌∷◌, ◌==◌}
use Rattle.rules.specs.declared.Kind.{Kind}
use Rattle.rules.specs.declared.Kind.TheVariants as kind
use Rattle.rules.specs.declared.Due.{Due}
use Rattle.rules.specs.declared.Due.TheVariants as due

-- which are due
abbrev pub kinds_due : Due → List Kind
kinds_due due.Header = kind.Header ∷ []
kinds_due due.FileHead = kind.FileHead ∷ kind.Bookend ∷ []
kinds_due (due.Segment left) = kind.Segment ∷ []
kinds_due (due.Verification left) = kind.Verification ∷ []
kinds_due due.Metadata = kind.Metadata ∷ []
kinds_due due.XorbHead = kind.XorbHead ∷ kind.Bookend ∷ []
kinds_due (due.Chunk left sum total) = kind.Chunk ∷ []
kinds_due due.Footer = kind.Footer ∷ []
kinds_due due.End = []
kinds_due (due.Refused number) = []

-- the rows of the paper's table, by number
abbrev pub row_of : Kind → ℕ
row_of kind.Header = 0
row_of kind.FileHead = 1
row_of kind.Segment = 2
row_of kind.Verification = 3
row_of kind.Metadata = 4
row_of kind.XorbHead = 5
row_of kind.Chunk = 6
row_of kind.Bookend = 7
row_of kind.Footer = 8

abbrev pub same_kind : Kind → Kind → Bool
same_kind k l = row_of k == row_of l

abbrev pub among : Kind → List Kind → Bool
among k [] = false
among k (l ∷ ls) = same_kind k l || among k ls

abbrev pub is_due : Due → Kind → Bool
is_due d k = among k (kinds_due d)

-- the number where a record is not due: 16, and to a writer begun with a bad tag 2 for everything
abbrev pub not_due : Due → ℕ
not_due due.Header = 16
not_due due.FileHead = 16
not_due (due.Segment left) = 16
not_due (due.Verification left) = 16
not_due due.Metadata = 16
not_due due.XorbHead = 16
not_due (due.Chunk left sum total) = 16
not_due due.Footer = 16
not_due due.End = 16
not_due (due.Refused number) = number
