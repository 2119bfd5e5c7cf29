-- What the fields hold of the next place: only the offset that the first bookend sets depends on the position, and it is held once. Assumes nothing.
use Rattle.std.proofs.Common.{◌≡◌, ℕ, ◌+◌, ◌^◌, ◌<◌, Bool, true, false, eqb, refl, arith}
use Rattle.words.specs.Checks.{pick}
use Rattle.words.specs.Le.{long}
use Rattle.words.specs.Record.{is_ones}
use Rattle.words.specs.declared.Words.{Words}
use Rattle.rules.specs.Rules.{size_by, kind_by, plus, count_by, due_by, known_by, with_footer, with_offset, with_file, moved_to, next_of}
use Rattle.rules.specs.Held.{in64, held, held_totals, held_due}
use Rattle.rules.specs.declared.Totals.{Totals}
use Rattle.rules.specs.declared.Place.{Place}
use Rattle.rules.specs.declared.Due.{Due}
use Rattle.rules.specs.declared.Due.TheVariants.{Header, FileHead, Segment, Verification, Metadata, XorbHead, Chunk, Footer, End, Refused}

-- a place as its fields hold it, but for what is due, which the code holds already
abbrev held_as : Due → Place → Place
held_as due p = record { at = record { 0 = in64 p.at.0 }; offset = record { 0 = in64 p.offset.0 }; totals = held_totals p.totals; flags = p.flags; entries = p.entries; footer = p.footer; due = due }

module _ (x : ℕ) (t : Totals) (e : Due) (p : Place) (w : Words) where
  same_offset : (a b : ℕ) (q : Place) → a ≡ b
      → ◌≡◌ {A = Place} (record { at = record { 0 = in64 x }; offset = record { 0 = a }; totals = held_totals t; flags = q.flags; entries = q.entries; footer = q.footer; due = held_due e })
      (record { at = record { 0 = in64 x }; offset = record { 0 = b }; totals = held_totals t; flags = q.flags; entries = q.entries; footer = q.footer; due = held_due e })
  same_offset a b q h = rw h

  kept : (q : Place) → q.offset.0 < 2 ^ 64 → moved_to (in64 x) (held_totals t) (held_due e) q ≡ held_as (held_due e) (moved_to x t e q)
  kept q h = same_offset q.offset.0 (in64 q.offset.0) q (omega arith)

  past_head : (u : Bool) → (pick u (with_offset (in64 x) p) (with_file w.a w.b p)).offset.0 < 2 ^ 64
      → moved_to (in64 x) (held_totals t) (held_due e) (pick u (with_offset (in64 x) p) (with_file w.a w.b p)) ≡ held_as (held_due e) (moved_to x t e (pick u (with_offset x p) (with_file w.a w.b p)))
  past_head true h = refl
  past_head false h = kept (with_file w.a w.b p) h

  known_held : (d : Due) → (known_by d (in64 x) p w).offset.0 < 2 ^ 64
      → moved_to (in64 x) (held_totals t) (held_due e) (known_by d (in64 x) p w) ≡ held_as (held_due e) (moved_to x t e (known_by d x p w))
  known_held Header h = kept (with_footer (eqb (long w.c w.d) 200) p) h
  known_held FileHead h = past_head (is_ones w.hash) h
  known_held (Segment left) h = kept p h
  known_held (Verification left) h = kept p h
  known_held Metadata h = kept p h
  known_held XorbHead h = kept p h
  known_held (Chunk left sum total) h = kept p h
  known_held Footer h = kept p h
  known_held End h = kept p h
  known_held (Refused n) h = kept p h

-- what `next` makes, field by field, is what the fields hold of the next place
pub next_held : (p : Place) (w : Words) → (known_by p.due (in64 (p.at.0 + size_by p.due)) p w).offset.0 < 2 ^ 64
    → moved_to (in64 (p.at.0 + size_by p.due)) (held_totals (plus p.totals (count_by (kind_by p.due w) w))) (held_due (due_by p.due p w)) (known_by p.due (in64 (p.at.0 + size_by p.due)) p w)
    ≡ held (next_of p w)
unfolding held next_of
next_held p w h =
    known_held (p.at.0 + size_by p.due) (plus p.totals (count_by (kind_by p.due w) w)) (due_by p.due p w) p w p.due h
