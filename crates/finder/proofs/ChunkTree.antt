-- Finding a chunk in the tree, block by block and chunk by chunk, comes to what is found among the shard's records, because a block's chunks stand behind its
-- head and no chunk and no xorb head stands elsewhere. Assumes nothing.
use Rattle.std.specs.Prelude.{Ok, None}
use mathlib.Core.Path.{◌≡◌, refl, ap, ◌∙◌}
use mathlib.Core.Bool.{false}
use mathlib.Core.Option.{Option, none, some}
use mathlib.Core.List.{List, [], ◌∷◌, ◌++◌, map}
use Prim.Native.Nat.{ℕ, ◌+◌, ◌*◌}
use native.Mathlib.Omega.{arith}
use lib.ListN.{length}
use Rattle.words.specs.Checks.{pick}
use Rattle.words.specs.Record.{same_hash}
use Rattle.rules.specs.Kinds.{same_kind}
use Rattle.rules.specs.declared.Record.{Record}
use Rattle.rules.specs.declared.Kind.{Kind}
use Rattle.rules.specs.declared.Kind.TheVariants as kind
use Rattle.layout.specs.Layout.{Hash, Chunk, XorbBlock, Foot, Shard, Row, if_any, chunk_rows, file_section, xorb_section, rows_of, xorb_offset, footer_offset, placed, foot_record, records_of}
use Rattle.layout.specs.Blocks.{xorb_block, blocks_then}
use Rattle.layout.proofs.BlockKinds.{Kinds}
use Rattle.finder.specs.Find.{ChunkAnswer, the_chunk, chunk_behind, chunk_in}
use Rattle.finder.proofs.Among.{among}
use Rattle.finder.proofs.Standing.{placed_then}
use Rattle.finder.proofs.Sections.{xorb_section_lem, file_section_kinds}

-- ## In the tree

-- the first among chunks of a block that stand from a position on, else what comes later
abbrev pub among_chunks : Hash → ℕ → ℕ → ℕ → List Chunk → ChunkAnswer → ChunkAnswer
among_chunks hash block index at cs later = among (λ c. c.hash) (λ c. 1) hash (λ i p. the_chunk (record { 0 = block }) (record { 0 = i }) (record { 0 = p })) later index at cs

-- the first among blocks that stand from a position on
abbrev pub among_blocks : Hash → ℕ → ℕ → List XorbBlock → ChunkAnswer
among_blocks hash block at [] = Ok None
among_blocks hash block at (x ∷ xs) = among_chunks hash block 0 (at + 48) x.chunks (among_blocks hash (block + 1) (at + 48 + 48 * length x.chunks) xs)

-- ## Among records

-- behind rows of these kinds no block has begun
abbrev pub NoHead : Kind → Type 0
NoHead k = same_kind k kind.XorbHead ≡ false

heads_past : (hash : Hash) (at : ℕ) (rows : List Row) (behind : List Record) → Kinds NoHead rows → chunk_in hash (placed at rows ++ behind) ≡ chunk_in hash behind
unfolding chunk_in
heads_past hash at [] behind h = refl
heads_past hash at (r ∷ rs) behind (h, hs) = rw h (heads_past hash (at + 48) rs behind hs)

module _ (hash : Hash) (behind : List Record) where
  -- the chunks of a block, where it is known what comes behind them
  in_chunks : (block index at start : ℕ) (cs : List Chunk) (rows : List Row) (later : ℕ → ChunkAnswer)
      → ((i p : ℕ) → chunk_behind hash block i (placed p rows ++ behind) ≡ later p)
      → chunk_behind hash block index (placed at (chunk_rows start cs ++ rows) ++ behind) ≡ among_chunks hash block index at cs (later (at + 48 * length cs))
  unfolding chunk_behind
  in_chunks block index at start [] rows later h = h index at ∙ ap later (omega arith)
  in_chunks block index at start (c ∷ cs) rows later h =
      let e : at + 48 + 48 * length cs ≡ at + 48 * length (c ∷ cs) = omega arith in
      ap (pick (same_hash c.hash hash) (the_chunk (record { 0 = block }) (record { 0 = index }) (record { 0 = at })))
      (in_chunks block (index + 1) (at + 48) (start + c.bytes) cs rows later h ∙ ap (λ (p : ℕ). among_chunks hash block (index + 1) (at + 48) cs (later p)) e)

  module _ (none_behind : (b i : ℕ) → chunk_behind hash b i behind ≡ Ok None) where
    -- blocks behind a block
    in_blocks : (block index at : ℕ) (xs : List XorbBlock) → chunk_behind hash block index (placed at (blocks_then xorb_block xs []) ++ behind) ≡ among_blocks hash (block + 1) at xs
    unfolding chunk_behind
    in_blocks block index at [] = none_behind block index
    in_blocks block index at (x ∷ xs) = in_chunks (block + 1) 0 (at + 48) 0 x.chunks (blocks_then xorb_block xs []) (λ p. among_blocks hash (block + 1 + 1) p xs) (λ i p. in_blocks (block + 1) i p xs)

    -- the first block of all, and those behind it
    in_section : (at : ℕ) (xs : List XorbBlock) → chunk_in hash behind ≡ Ok None → chunk_in hash (placed at (blocks_then xorb_block xs []) ++ behind) ≡ among_blocks hash 0 at xs
    unfolding chunk_in
    in_section at [] none_here = none_here
    in_section at (x ∷ xs) none_here = in_chunks 0 0 (at + 48) 0 x.chunks (blocks_then xorb_block xs []) (λ p. among_blocks hash 1 p xs) (λ i p. in_blocks 0 i p xs)

-- ## In a shard

none_behind_foot : (hash : Hash) (x h b i : ℕ) (o : Option Foot) → chunk_behind hash b i (map (foot_record x h) (if_any o)) ≡ Ok None
unfolding chunk_behind
none_behind_foot hash x h b i none = refl
none_behind_foot hash x h b i (some f) = refl

none_in_foot : (hash : Hash) (x h : ℕ) (o : Option Foot) → chunk_in hash (map (foot_record x h) (if_any o)) ≡ Ok None
unfolding chunk_in
none_in_foot hash x h none = refl
none_in_foot hash x h (some f) = refl

pub chunk_in_shard : (tag : List ℕ) (s : Shard) (hash : Hash) → chunk_in hash (records_of tag s) ≡ among_blocks hash 0 (xorb_offset s) s.xorbs
unfolding records_of rows_of xorb_offset chunk_in
chunk_in_shard tag s hash =
    let foot : List Record = map (foot_record (xorb_offset s) (footer_offset s)) (if_any s.footer) in
    ap (chunk_in hash) (placed_then 48 (file_section s) (xorb_section s) foot)
    ∙ heads_past hash 48 (file_section s) _ (file_section_kinds NoHead s refl refl refl refl refl)
    ∙ ap (λ (l : List Row). chunk_in hash (placed (xorb_offset s) l ++ foot)) (xorb_section_lem s)
    ∙ in_section hash foot (λ b i. none_behind_foot hash (xorb_offset s) (footer_offset s) b i s.footer) (xorb_offset s) s.xorbs (none_in_foot hash (xorb_offset s) (footer_offset s) s.footer)
