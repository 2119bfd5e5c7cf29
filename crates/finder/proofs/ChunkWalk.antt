-- The walk over xorb blocks and their chunks, step by step: what is still to come gives the answer for the whole, because what was passed had not that
-- hash and each row is read where it stands. Assumes nothing.
use Rattle.std.specs.Prelude.{None, Ok}
use mathlib.Core.Path.{◌≡◌, sym, ap, ◌∙◌, subst}
use mathlib.Core.Bool.{true, false}
use mathlib.Core.List.{List, [], ◌∷◌, ◌++◌}
use Prim.Native.Nat.{ℕ, ◌+◌, ◌-◌, ◌*◌, ◌≤◌, ◌<◌}
use native.Mathlib.Omega.{arith}
use lib.ListN.{length}
use Rattle.words.specs.Record.{hash_at, words_at, same_hash, is_ones}
use Rattle.words.specs.declared.Words.{Words}
use Rattle.rules.specs.Rules.{limit}
use Rattle.layout.specs.Layout.{Chunk, XorbBlock, Row, Each, chunk_rows, SoundXorb}
use Rattle.layout.specs.Blocks.{xorb_block, blocks_then, Stand}
use Rattle.finder.specs.Find.{ChunkAnswer, the_chunk}
use Rattle.finder.proofs.ChunkTree.{among_chunks, among_blocks}
use Rattle.finder.proofs.Heads.{xorb_heads, Head, at_bookend, at_head}

-- what is still to come at a position where a head is due, behind so many blocks
pub record BlocksLeft (bytes hash : List ℕ) (answer : ChunkAnswer) (at block : ℕ) : Type 0 where
  pub xorbs : List XorbBlock
  pub sound : Each SoundXorb xorbs
  pub stand : Stand bytes at (blocks_then xorb_block xorbs [])
  pub says : among_blocks hash block at xorbs ≡ answer
  pub room : at + 48 ≤ length bytes
  pub few : 48 * block ≤ at
  pub short : length bytes ≤ limit

-- what is still to come inside a block: so many of its chunks, and the blocks behind it
pub record ChunksLeft (bytes hash : List ℕ) (answer : ChunkAnswer) (at block index left : ℕ) : Type 0 where
  pub chunks : List Chunk
  pub start : ℕ
  pub xorbs : List XorbBlock
  pub count : length chunks ≡ left
  pub sound : Each SoundXorb xorbs
  pub stand : Stand bytes at (chunk_rows start chunks ++ blocks_then xorb_block xorbs [])
  pub says : among_chunks hash block index at chunks (among_blocks hash (block + 1) (at + 48 * length chunks) xorbs) ≡ answer
  pub room : at + 48 ≤ length bytes
  pub few : 48 * (block + 1) ≤ at
  pub short : length bytes ≤ limit

-- a record is there
chunk_room : (bytes : List ℕ) (at start : ℕ) (cs : List Chunk) (xs : List XorbBlock) → Stand bytes at (chunk_rows start cs ++ blocks_then xorb_block xs []) → at + 48 ≤ length bytes
chunk_room bytes at start [] [] (w, l, t) = l
chunk_room bytes at start [] (x ∷ xs) (w, l, t) = l
chunk_room bytes at start (c ∷ cs) xs (w, l, t) = l

module _ (bytes hash : List ℕ) (answer : ChunkAnswer) (at b : ℕ) where
  -- ## Where a head is due

  module _ (c : BlocksLeft bytes hash answer at b) where
    -- what is known of the blocks that are left
    abbrev Says : List XorbBlock → Type 0
    Says xs = among_blocks hash b at xs ≡ answer

    module _ (w : Words) (read : w ≡ words_at bytes at) where
      -- the bookend: there is none
      pub none_left : is_ones w.hash ≡ true → Ok None ≡ answer
      none_left o = subst Says (at_bookend xorb_heads bytes at [] w read c.xorbs c.sound c.stand o) c.says

      -- another head: its chunks come first
      pub next_block : is_ones w.hash ≡ false → ChunksLeft bytes hash answer (at + 48) b 0 (w.b - 0)
      next_block o =
          let h : Head xorb_heads bytes at [] w read c.xorbs = at_head xorb_heads bytes at [] w read c.xorbs c.sound c.stand o in
          let says : Says (h.block ∷ h.others) = subst Says h.are c.says in
          record {
            chunks = h.block.chunks;
            start = 0;
            xorbs = h.others;
            count = omega (arith, ap (λ (v : Words). v.b) h.words);
            sound = h.sound;
            stand = h.stand;
            says = says;
            room = chunk_room bytes (at + 48) 0 h.block.chunks h.others h.stand;
            few = omega (arith, c.few);
            short = c.short;
          }

  -- ## Inside a block

  abbrev Left : List Chunk → ℕ → List XorbBlock → List Row
  Left cs start xs = chunk_rows start cs ++ blocks_then xorb_block xs []

  abbrev Comes : List Chunk → ℕ → List XorbBlock → Type 0
  Comes cs i xs = among_chunks hash b i at cs (among_blocks hash (b + 1) (at + 48 * length cs) xs) ≡ answer

  -- behind the last chunk of a block a head is due
  pub block_over : (i n : ℕ) → n ≤ i → ChunksLeft bytes hash answer at b i (n - i) → BlocksLeft bytes hash answer at (b + 1)
  block_over i n l c = go c.chunks c.count c.stand c.says
    where
      go : (cs : List Chunk) → length cs ≡ n - i → Stand bytes at (Left cs c.start c.xorbs) → Comes cs i c.xorbs → BlocksLeft bytes hash answer at (b + 1)
      go [] m t a =
          let e : at + 48 * 0 ≡ at = omega arith in
          record { xorbs = c.xorbs; sound = c.sound; stand = t; says = subst (λ (p : ℕ). among_blocks hash (b + 1) p c.xorbs ≡ answer) e a; room = c.room; few = c.few; short = c.short }
      go (k ∷ cs) m t a = absurd (omega arith)

  -- the chunk has that hash
  pub hit : (i n : ℕ) (h : List ℕ) → i < n → ChunksLeft bytes hash answer at b i (n - i) → h ≡ hash_at bytes at → same_hash h hash ≡ true
      → the_chunk (record { 0 = b }) (record { 0 = i }) (record { 0 = at }) ≡ answer
  hit i n h l c e q = go c.chunks c.count c.stand c.says
    where
      go : (cs : List Chunk) → length cs ≡ n - i → Stand bytes at (Left cs c.start c.xorbs) → Comes cs i c.xorbs → the_chunk (record { 0 = b }) (record { 0 = i }) (record { 0 = at }) ≡ answer
      go [] m t a = absurd (omega arith)
      go (k ∷ cs) m (r, x, t) a =
          let d : same_hash k.hash hash ≡ true = sym (ap (λ (v : List ℕ). same_hash v hash) (e ∙ ap (λ (v : Words). v.hash) r)) ∙ q in
          rw d at a

  -- it has another one
  pub next_chunk : (i n : ℕ) (h : List ℕ) → i < n → ChunksLeft bytes hash answer at b i (n - i) → h ≡ hash_at bytes at → same_hash h hash ≡ false
      → ChunksLeft bytes hash answer (at + 48) b (i + 1) (n - (i + 1))
  next_chunk i n h l c e q = go c.chunks c.count c.stand c.says
    where
      go : (cs : List Chunk) → length cs ≡ n - i → Stand bytes at (Left cs c.start c.xorbs) → Comes cs i c.xorbs → ChunksLeft bytes hash answer (at + 48) b (i + 1) (n - (i + 1))
      go [] m t a = absurd (omega arith)
      go (k ∷ cs) m (r, x, t) a =
          let d : same_hash k.hash hash ≡ false = sym (ap (λ (v : List ℕ). same_hash v hash) (e ∙ ap (λ (v : Words). v.hash) r)) ∙ q in
          let f : at + 48 * length (k ∷ cs) ≡ at + 48 + 48 * length cs = omega arith in
          record {
            chunks = cs;
            start = c.start + k.bytes;
            xorbs = c.xorbs;
            count = omega arith;
            sound = c.sound;
            stand = t;
            says = subst (λ (p : ℕ). among_chunks hash b (i + 1) (at + 48) cs (among_blocks hash (b + 1) p c.xorbs) ≡ answer) f (rw d at a);
            room = chunk_room bytes (at + 48) (c.start + k.bytes) cs c.xorbs t;
            few = omega (arith, c.few);
            short = c.short;
          }
