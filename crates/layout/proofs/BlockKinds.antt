-- What kinds the rows of blocks have: what holds of each kind that a block may have holds of all its rows, because each row's kind is written in the
-- layout. Assumes nothing.
use mathlib.Core.List.{List, [], ◌∷◌, ◌++◌, map}
use Prim.Native.Nat.{ℕ, ◌+◌}
use Rattle.rules.specs.declared.Kind.{Kind}
use Rattle.rules.specs.declared.Kind.TheVariants as kind
use Rattle.layout.specs.Layout.{FileBlock, XorbBlock, Chunk, Row, Each, joined, members, if_any, segment_row, verification_row, metadata_row, file_rows, chunk_rows, xorb_rows}
use Rattle.layout.specs.Blocks.{other_rows, entry_rows}
use Rattle.layout.proofs.Lists.{each_append}

module _ (P : Kind → Type 0) where
  abbrev pub Kinds : List Row → Type 0
  Kinds rs = Each (λ r. P r.kind) rs

  pub kinds_then : (xs ys : List Row) → Kinds xs → Kinds ys → Kinds (xs ++ ys)
  kinds_then xs ys hx hy = each_append (λ (r : Row). P r.kind) xs ys hx hy

  kinds_map : {A : Type 0} (f : A → Row) (xs : List A) → ((x : A) → P (f x).kind) → Kinds (map f xs)
  kinds_map f [] h = tt
  kinds_map f (x ∷ xs) h = (h x, kinds_map f xs h)

  kinds_joined : {A : Type 0} (f : A → List Row) (xs : List A) → ((x : A) → Kinds (f x)) → Kinds (joined f xs)
  kinds_joined f [] h = tt
  kinds_joined f (x ∷ xs) h = kinds_then (f x) (joined f xs) (h x) (kinds_joined f xs h)

  -- ## File blocks

  -- behind the segments
  pub other_kinds : (f : FileBlock) → P kind.Verification → P kind.Metadata → Kinds (other_rows f)
  other_kinds f v m = kinds_then (map verification_row (members f.verifications)) _ (kinds_map verification_row (members f.verifications) (λ x. v)) (kinds_map metadata_row (if_any f.metadata) (λ x. m))

  pub entry_kinds : (f : FileBlock) → P kind.Segment → P kind.Verification → P kind.Metadata → Kinds (entry_rows f)
  entry_kinds f s v m = kinds_then (map segment_row f.segments) _ (kinds_map segment_row f.segments (λ x. s)) (other_kinds f v m)

  pub file_kinds : (fs : List FileBlock) → P kind.FileHead → P kind.Segment → P kind.Verification → P kind.Metadata → Kinds (joined file_rows fs)
  unfolding file_rows
  file_kinds fs h s v m = kinds_joined file_rows fs (λ f. (h, entry_kinds f s v m))

  -- ## Xorb blocks

  pub chunk_kinds : (start : ℕ) (cs : List Chunk) → P kind.Chunk → Kinds (chunk_rows start cs)
  chunk_kinds start [] c = tt
  chunk_kinds start (k ∷ cs) c = (c, chunk_kinds (start + k.bytes) cs c)

  pub xorb_kinds : (xs : List XorbBlock) → P kind.XorbHead → P kind.Chunk → Kinds (joined xorb_rows xs)
  unfolding xorb_rows
  xorb_kinds xs h c = kinds_joined xorb_rows xs (λ x. (h, chunk_kinds 0 x.chunks c))
