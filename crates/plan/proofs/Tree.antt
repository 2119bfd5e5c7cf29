-- The segments found behind the file head of a number are those of the tree's file of that number, because a block's segments come first behind its
-- head, and no file head stands elsewhere. Assumes nothing.
use mathlib.Core.Path.{◌≡◌, refl, ap, ◌∙◌}
use mathlib.Core.Bool.{false}
use mathlib.Core.Option.{Option, none, some}
use mathlib.Core.List.{List, [], ◌∷◌, ◌++◌, map}
use Prim.Native.Nat.{ℕ, zero, suc, ◌+◌}
use Rattle.rules.specs.Kinds.{same_kind}
use Rattle.rules.specs.declared.Record.{Record}
use Rattle.rules.specs.declared.Kind.{Kind}
use Rattle.rules.specs.declared.Kind.TheVariants as kind
use Rattle.layout.specs.Layout.{Hash, FileBlock, Foot, Shard, Row, if_any, members, verification_row, metadata_row, placed, foot_record, rows_of, xorb_section, xorb_offset, footer_offset, records_of}
use Rattle.layout.specs.Blocks.{other_rows, entry_rows, file_block, blocks_then, segment_of, leading}
use Rattle.layout.specs.Scan.{Found, found_in}
use Rattle.layout.proofs.Last.{Spelling}
use Rattle.layout.proofs.BlockKinds.{Kinds, entry_kinds}
use Rattle.layout.proofs.Leading.{FirstNot, segments_first, lead_segments}
use Rattle.finder.proofs.Standing.{placed_then}
use Rattle.finder.proofs.Sections.{file_section_lem, xorb_section_kinds}
use Rattle.plan.specs.Plan.{segments_at, segments_in}

-- ## Behind a head

-- verifications, metadata, the next head or the bookend
first_not : (vs ms : List Hash) (fs : List FileBlock) (end : List Row) (behind : List Record) (p : ℕ) → FirstNot kind.Segment (placed p ((map verification_row vs ++ map metadata_row ms) ++ blocks_then file_block fs end) ++ behind)
first_not [] [] [] end behind p = refl
first_not [] [] (f ∷ fs) end behind p = refl
first_not [] (m ∷ ms) fs end behind p = refl
first_not (v ∷ vs) ms fs end behind p = refl

lead_file : (at : ℕ) (f : FileBlock) (fs : List FileBlock) (end : List Row) (behind : List Record) → map segment_of (leading kind.Segment (placed at (entry_rows f ++ blocks_then file_block fs end) ++ behind)) ≡ f.segments
lead_file at f fs end behind =
    ap (λ (l : List Row). map segment_of (leading kind.Segment (placed at l ++ behind))) (segments_first f (blocks_then file_block fs end))
    ∙ lead_segments (other_rows f ++ blocks_then file_block fs end) behind at f.segments (first_not (members f.verifications) (if_any f.metadata) fs end behind)

-- ## In a section

abbrev NoHead : Kind → Type 0
NoHead k = same_kind k kind.FileHead ≡ false

heads_past : (n at : ℕ) (xs : List Row) (behind : List Record) → Kinds NoHead xs → segments_in n (placed at xs ++ behind) ≡ segments_in n behind
unfolding segments_in
heads_past n at [] behind h = refl
heads_past n at (x ∷ xs) behind (h, hs) = rw h (heads_past n (at + 48) xs behind hs)

in_files : (n at : ℕ) (fs : List FileBlock) (end : List Row) (behind : List Record) → ((p m : ℕ) → segments_in m (placed p end ++ behind) ≡ none)
    → segments_in n (placed at (blocks_then file_block fs end) ++ behind) ≡ segments_at n fs
unfolding segments_in
in_files n at [] end behind h = h (at + 48) n
in_files zero at (f ∷ fs) end behind h = ap some (lead_file (at + 48) f fs end behind)
in_files (suc n) at (f ∷ fs) end behind h =
    ap (segments_in n) (placed_then (at + 48) (entry_rows f) (blocks_then file_block fs end) behind)
    ∙ heads_past n (at + 48) (entry_rows f) _ (entry_kinds NoHead f refl refl refl)
    ∙ in_files n _ fs end behind h

-- ## In a shard

no_foot : (n x h : ℕ) (o : Option Foot) → segments_in n (map (foot_record x h) (if_any o)) ≡ none
unfolding segments_in
no_foot n x h none = refl
no_foot n x h (some f) = refl

pub in_shard : (tag : List ℕ) (s : Shard) (n : ℕ) → segments_in n (records_of tag s) ≡ segments_at n s.files
unfolding records_of rows_of segments_in
in_shard tag s n =
    let foot : List Record = map (foot_record (xorb_offset s) (footer_offset s)) (if_any s.footer) in
    ap (λ (l : List Row). segments_in n (placed 48 l ++ foot)) (file_section_lem s (xorb_section s))
    ∙ in_files n 48 s.files (xorb_section s) foot
    (λ p m. heads_past m p (xorb_section s) foot (xorb_section_kinds NoHead s refl refl refl) ∙ no_foot m (xorb_offset s) (footer_offset s) s.footer)

-- and so in the bytes that spell it
pub in_bytes : (tag bytes : List ℕ) (s : Shard) (n : ℕ) → Spelling tag bytes s → segments_in n (found_in tag bytes).records ≡ segments_at n s.files
in_bytes tag bytes s n o = ap (λ (f : Found). segments_in n f.records) o.found ∙ in_shard tag s n
