-- Behind a head, among records, its entries come first: those in front of the first record of another kind, because each row's kind is written in the
-- layout. Assumes nothing.
use mathlib.Core.Path.{◌≡◌, refl, ap}
use mathlib.Core.Bool.{false}
use mathlib.Core.List.{List, [], ◌∷◌, ◌++◌, map, append_assoc}
use Prim.Native.Nat.{ℕ, ◌+◌}
use Rattle.rules.specs.Kinds.{same_kind}
use Rattle.rules.specs.declared.Record.{Record}
use Rattle.rules.specs.declared.Kind.{Kind}
use Rattle.rules.specs.declared.Kind.TheVariants as kind
use Rattle.layout.specs.Layout.{Segment, FileBlock, Chunk, Row, segment_row, chunk_rows, placed}
use Rattle.layout.specs.Blocks.{other_rows, entry_rows, segment_of, chunk_of, leading}

-- a file's segments stand before its other entries
pub segments_first : (f : FileBlock) (rest : List Row) → entry_rows f ++ rest ≡ map segment_row f.segments ++ (other_rows f ++ rest)
segments_first f rest = append_assoc (map segment_row f.segments) (other_rows f) rest

-- the first of these, if there is one, is of another kind
abbrev pub FirstNot : Kind → List Record → Type 0
FirstNot k [] = Unit {0}
FirstNot k (r ∷ rs) = same_kind r.kind k ≡ false

lead_none : (k : Kind) (rs : List Record) → FirstNot k rs → leading k rs ≡ []
unfolding leading
lead_none k [] h = refl
lead_none k (r ∷ rs) h = rw h

module _ (others : List Row) (behind : List Record) where
  pub lead_segments : (at : ℕ) (ss : List Segment) → ((p : ℕ) → FirstNot kind.Segment (placed p others ++ behind)) → map segment_of (leading kind.Segment (placed at (map segment_row ss ++ others) ++ behind)) ≡ ss
  unfolding leading
  lead_segments at [] h = ap (map segment_of) (lead_none kind.Segment (placed at others ++ behind) (h at))
  lead_segments at (s ∷ ss) h = ap (λ (l : List Segment). s ∷ l) (lead_segments (at + 48) ss h)

  pub lead_chunks : (at start : ℕ) (cs : List Chunk) → ((p : ℕ) → FirstNot kind.Chunk (placed p others ++ behind)) → map chunk_of (leading kind.Chunk (placed at (chunk_rows start cs ++ others) ++ behind)) ≡ cs
  unfolding leading
  lead_chunks at start [] h = ap (map chunk_of) (lead_none kind.Chunk (placed at others ++ behind) (h at))
  lead_chunks at start (c ∷ cs) h = ap (λ (l : List Chunk). c ∷ l) (lead_chunks (at + 48) (start + c.bytes) cs h)
