-- The segments and the xorb blocks found among the records of a shard are those of its tree, because a block's entries come behind its head, and no segment
-- and no xorb head stands elsewhere. Assumes nothing.
use mathlib.Core.Path.{◌≡◌, refl, ap, ◌∙◌}
use mathlib.Core.Bool.{false}
use mathlib.Core.Option.{Option, none, some}
use mathlib.Core.List.{List, [], ◌∷◌, ◌++◌, map}
use Prim.Native.Nat.{ℕ, ◌+◌, ◌*◌}
use native.Mathlib.Omega.{arith}
use lib.ListN.{length}
use Rattle.rules.specs.Kinds.{same_kind}
use Rattle.rules.specs.declared.Record.{Record}
use Rattle.rules.specs.declared.Kind.{Kind}
use Rattle.rules.specs.declared.Kind.TheVariants as kind
use Rattle.layout.specs.Layout.{Segment, FileBlock, Chunk, XorbBlock, Foot, Shard, Row, if_any, file_rows, segment_row, chunk_rows, placed, foot_record, rows_of, file_section, xorb_section, xorb_offset, footer_offset, records_of}
use Rattle.layout.specs.Blocks.{other_rows, entry_rows, file_block, xorb_block, blocks_then}
use Rattle.layout.proofs.BlockKinds.{Kinds, chunk_kinds, other_kinds}
use Rattle.layout.proofs.Leading.{FirstNot, lead_chunks}
use Rattle.finder.proofs.Standing.{placed_then}
use Rattle.finder.proofs.Sections.{file_section_lem, xorb_section_lem, file_section_kinds, xorb_section_kinds}
use Rattle.audit.specs.Audit.{PlacedSegment, placed_behind, placed_from, placed_of, placed_in, blocks_in}

-- the records behind the xorb section
abbrev foot_of : Shard → List Record
foot_of s = map (foot_record (xorb_offset s) (footer_offset s)) (if_any s.footer)

-- ## Segments

abbrev NoSegment : Kind → Type 0
NoSegment k = same_kind k kind.Segment ≡ false

placed_past : (at : ℕ) (rows : List Row) (behind : List Record) → Kinds NoSegment rows → placed_in (placed at rows ++ behind) ≡ placed_in behind
unfolding placed_in
placed_past at [] behind h = refl
placed_past at (r ∷ rs) behind (h, hs) = rw h (placed_past (at + 48) rs behind hs)

in_segments : (at : ℕ) (ss : List Segment) (others : List Row) (behind : List Record) → Kinds NoSegment others
    → placed_in (placed at (map segment_row ss ++ others) ++ behind) ≡ placed_behind at ss ++ placed_in behind
unfolding placed_in
in_segments at [] others behind h = placed_past at others behind h
in_segments at (s ∷ ss) others behind h = ap (λ (l : List PlacedSegment). record { at = at; segment = s } ∷ l) (in_segments (at + 48) ss others behind h)

in_files : (at : ℕ) (fs : List FileBlock) (end : List Row) (behind : List Record) → ((p : ℕ) → placed_in (placed p end ++ behind) ≡ []) → placed_in (placed at (blocks_then file_block fs end) ++ behind) ≡ placed_from at fs
unfolding placed_in file_rows
in_files at [] end behind h = h (at + 48)
in_files at (f ∷ fs) end behind h =
    let e : at + 48 + 48 * length (entry_rows f) ≡ at + 48 * length (file_rows f) = omega arith in
    ap placed_in (placed_then (at + 48) (entry_rows f) (blocks_then file_block fs end) behind)
    ∙ in_segments (at + 48) f.segments (other_rows f) _ (other_kinds NoSegment f refl refl)
    ∙ ap (λ (l : List PlacedSegment). placed_behind (at + 48) f.segments ++ l) (in_files (at + 48 + 48 * length (entry_rows f)) fs end behind h ∙ ap (λ (p : ℕ). placed_from p fs) e)

foot_segments : (x h : ℕ) (o : Option Foot) → placed_in (map (foot_record x h) (if_any o)) ≡ []
unfolding placed_in
foot_segments x h none = refl
foot_segments x h (some f) = refl

pub placed_are : (tag : List ℕ) (s : Shard) → placed_in (records_of tag s) ≡ placed_of s
unfolding records_of rows_of placed_in
placed_are tag s =
    ap (λ (l : List Row). placed_in (placed 48 l ++ foot_of s)) (file_section_lem s (xorb_section s))
    ∙ in_files 48 s.files (xorb_section s) (foot_of s)
    (λ p. placed_past p (xorb_section s) (foot_of s) (xorb_section_kinds NoSegment s refl refl refl) ∙ foot_segments (xorb_offset s) (footer_offset s) s.footer)

-- ## Blocks

abbrev NoBlock : Kind → Type 0
NoBlock k = same_kind k kind.XorbHead ≡ false

blocks_past : (at : ℕ) (rows : List Row) (behind : List Record) → Kinds NoBlock rows → blocks_in (placed at rows ++ behind) ≡ blocks_in behind
unfolding blocks_in
blocks_past at [] behind h = refl
blocks_past at (r ∷ rs) behind (h, hs) = rw h (blocks_past (at + 48) rs behind hs)

-- behind a block's chunks: the next head or the bookend
first_not : (xs : List XorbBlock) (behind : List Record) (p : ℕ) → FirstNot kind.Chunk (placed p (blocks_then xorb_block xs []) ++ behind)
first_not [] behind p = refl
first_not (x ∷ xs) behind p = refl

in_xorbs : (at : ℕ) (xs : List XorbBlock) (behind : List Record) → blocks_in behind ≡ [] → blocks_in (placed at (blocks_then xorb_block xs []) ++ behind) ≡ xs
unfolding blocks_in
in_xorbs at [] behind h = h
in_xorbs at (x ∷ xs) behind h =
    let rows : List Row = chunk_rows 0 x.chunks in
    ap (λ (l : List Chunk). record { hash = x.hash; disk = x.disk; chunks = l } ∷ blocks_in (placed (at + 48) (rows ++ blocks_then xorb_block xs []) ++ behind))
    (lead_chunks (blocks_then xorb_block xs []) behind (at + 48) 0 x.chunks (first_not xs behind))
    ∙ ap (λ (l : List XorbBlock). x ∷ l)
    (ap blocks_in (placed_then (at + 48) rows (blocks_then xorb_block xs []) behind) ∙ blocks_past (at + 48) rows _ (chunk_kinds NoBlock 0 x.chunks refl) ∙ in_xorbs (at + 48 + 48 * length rows) xs behind h)

foot_blocks : (x h : ℕ) (o : Option Foot) → blocks_in (map (foot_record x h) (if_any o)) ≡ []
unfolding blocks_in
foot_blocks x h none = refl
foot_blocks x h (some f) = refl

pub blocks_are : (tag : List ℕ) (s : Shard) → blocks_in (records_of tag s) ≡ s.xorbs
unfolding records_of rows_of blocks_in
blocks_are tag s =
    ap blocks_in (placed_then 48 (file_section s) (xorb_section s) (foot_of s))
    ∙ blocks_past 48 (file_section s) _ (file_section_kinds NoBlock s refl refl refl refl refl)
    ∙ ap (λ (l : List Row). blocks_in (placed (48 + 48 * length (file_section s)) l ++ foot_of s)) (xorb_section_lem s)
    ∙ in_xorbs _ s.xorbs (foot_of s) (foot_blocks (xorb_offset s) (footer_offset s) s.footer)
