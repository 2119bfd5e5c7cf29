-- The two sections row by row, and what their rows are: no chunk and no xorb head stands in the first, no file head in the second, because each row's
-- kind is written in the layout. Assumes nothing.
use mathlib.Core.Path.{◌≡◌, refl, ap, ◌∙◌}
use mathlib.Core.List.{List, [], ◌∷◌, ◌++◌, append_assoc}
use Rattle.rules.specs.declared.Kind.{Kind}
use Rattle.rules.specs.declared.Kind.TheVariants as kind
use Rattle.layout.specs.Layout.{Shard, Row, joined, file_rows, xorb_rows, bookend, file_section, xorb_section}
use Rattle.layout.specs.Blocks.{BlockRows, file_block, xorb_block, blocks_then}
use Rattle.layout.proofs.BlockKinds.{Kinds, kinds_then, file_kinds, xorb_kinds}

blocks_are : {B : Type 0} (k : BlockRows B) (bs : List B) (end : List Row) → joined (λ b. k.head b ∷ k.entries b) bs ++ (bookend ∷ end) ≡ blocks_then k bs end
blocks_are k [] end = refl
blocks_are k (b ∷ bs) end =
    append_assoc (k.head b ∷ k.entries b) (joined (λ b. k.head b ∷ k.entries b) bs) (bookend ∷ end) ∙ ap (λ (l : List Row). k.head b ∷ (k.entries b ++ l)) (blocks_are k bs end)

pub file_section_lem : (s : Shard) (end : List Row) → file_section s ++ end ≡ blocks_then file_block s.files end
unfolding file_section file_rows
file_section_lem s end = append_assoc (joined file_rows s.files) (bookend ∷ []) end ∙ blocks_are file_block s.files end

pub xorb_section_lem : (s : Shard) → xorb_section s ≡ blocks_then xorb_block s.xorbs []
unfolding xorb_section xorb_rows
xorb_section_lem s = blocks_are xorb_block s.xorbs []

-- ## Their kinds

module _ (P : Kind → Type 0) where
  pub file_section_kinds : (s : Shard) → P kind.FileHead → P kind.Segment → P kind.Verification → P kind.Metadata → P kind.Bookend → Kinds P (file_section s)
  unfolding file_section
  file_section_kinds s h g v m b = kinds_then P (joined file_rows s.files) (bookend ∷ []) (file_kinds P s.files h g v m) (b, tt)

  pub xorb_section_kinds : (s : Shard) → P kind.XorbHead → P kind.Chunk → P kind.Bookend → Kinds P (xorb_section s)
  unfolding xorb_section
  xorb_section_kinds s h c b = kinds_then P (joined xorb_rows s.xorbs) (bookend ∷ []) (xorb_kinds P s.xorbs h c) (b, tt)
