-- What the fields of a place hold: the rules' numbers have no bound, the fields' have 64 bits, so each number modulo 2 ^ 64.
-- The code's promise is `r ≡ held (next_of self w)`, for every place. In the places that beginning and reading give, `held` changes nothing.
use Rattle.std.specs.Prelude.{ℕ, ◌%◌}
use Rattle.rules.specs.declared.Totals.{Totals}
use Rattle.rules.specs.declared.Place.{Place}
use Rattle.rules.specs.declared.Due.{Due}
use Rattle.rules.specs.declared.Due.TheVariants.{Header, FileHead, Segment, Verification, Metadata, XorbHead, Chunk, Footer, End, Refused}

abbrev pub in64 : ℕ → ℕ
in64 n = n % 18446744073709551616

abbrev pub held_totals : Totals → Totals
held_totals t = record { files = in64 t.files; segments = in64 t.segments; xorbs = in64 t.xorbs; chunks = in64 t.chunks; bytes = in64 t.bytes }

abbrev pub held_due : Due → Due
held_due Header = Header
held_due FileHead = FileHead
held_due (Segment left) = Segment left
held_due (Verification left) = Verification left
held_due Metadata = Metadata
held_due XorbHead = XorbHead
held_due (Chunk left sum total) = Chunk left (in64 sum) total
held_due Footer = Footer
held_due End = End
held_due (Refused number) = Refused number

unfoldable pub held : Place → Place
held p = record {
  at = record { 0 = in64 p.at.0 };
  offset = record { 0 = in64 p.offset.0 };
  totals = held_totals p.totals;
  flags = p.flags;
  entries = p.entries;
  footer = p.footer;
  due = held_due p.due;
}
