-- What is found in the tree's blocks is the first chunk with that hash, and nothing exactly if none of their chunks has it, because that holds in each block
-- and the blocks come one behind the other. Assumes nothing.
use Rattle.std.specs.Prelude.{Ok, None}
use mathlib.Core.Path.{◌≡◌, refl, sym, ap, ◌∙◌, subst}
use mathlib.Core.Logic.{◌↔◌}
use mathlib.Core.List.{List, [], ◌∷◌, ◌++◌, append-nil}
use Prim.Native.Nat.{ℕ, ◌+◌, ◌*◌}
use native.Mathlib.Omega.{arith}
use lib.ListN.{length}
use Rattle.words.specs.Record.{IsHash}
use Rattle.words.specs.declared.Position.{Position}
use Rattle.rules.specs.declared.BlockNumber.{BlockNumber}
use Rattle.rules.specs.declared.ChunkIndex.{ChunkIndex}
use Rattle.layout.specs.Layout.{Hash, Chunk, XorbBlock, Each, sum_of, xorb_rows, SoundChunk, SoundXorb}
use Rattle.layout.proofs.Lists.{each_second}
use Rattle.finder.specs.Find.{ChunkAnswer, the_chunk}
use Rattle.finder.specs.Claims.{FirstOf, NoneIn, ChunkOfTree}
use Rattle.finder.specs.declared.ChunkPlace.{ChunkPlace}
use Rattle.finder.proofs.Among.{Looked, passed, found, look, passes, hits}
use Rattle.finder.proofs.Heads.{length_chunks}
use Rattle.finder.proofs.ChunkTree.{among_blocks}

-- the rows of a block: its head and its chunks
rows_are : (x : XorbBlock) → length (xorb_rows x) ≡ 1 + length x.chunks
unfolding xorb_rows
rows_are x = omega (arith, length_chunks 0 x.chunks)

abbrev rows_in : List XorbBlock → ℕ
rows_in xs = sum_of (λ x. length (xorb_rows x)) xs

module _ (hash : Hash) where
  abbrev NoneInAll : List XorbBlock → Type 0
  NoneInAll xs = Each (λ x. NoneIn hash x.chunks) xs

  -- ## What an answer says

  -- the two ways in which a search ends
  data Ends (number at : ℕ) (xs : List XorbBlock) : ChunkAnswer → Type 0 where
    absent : NoneInAll xs → Ends number at xs (Ok None)
    hit : (b : BlockNumber) (i : ChunkIndex) (p : Position) → ChunkOfTree hash number at xs b i p → Ends number at xs (the_chunk b i p)

  -- a block without such a chunk, and what the search behind it comes to
  behind : (number at next : ℕ) (x : XorbBlock) (xs : List XorbBlock) {r : ChunkAnswer} → next ≡ at + 48 * length (xorb_rows x) → NoneIn hash x.chunks → Ends (number + 1) next xs r → Ends number at (x ∷ xs) r
  behind number at next x xs e n (absent ns) = absent (n, ns)
  behind number at next x xs e n (hit b i p f) =
      let q : next + 48 * rows_in f.before + 48 ≡ at + 48 * rows_in (x ∷ f.before) + 48 = omega arith in
      hit b i p (record {
        before = x ∷ f.before;
        block = f.block;
        after = f.after;
        split = ap (λ (l : List XorbBlock). x ∷ l) f.split;
        none = (n, f.none);
        number_is = omega (arith, f.number_is);
        in_block = subst (λ (o : ℕ). FirstOf (λ (c : Chunk). c.hash) (λ c. 1) hash 0 o f.block.chunks i.0 p.0) q f.in_block;
      })

  -- one block, and what is known of the search behind it
  block_ends : (number at : ℕ) (x : XorbBlock) (xs : List XorbBlock) {later r : ChunkAnswer}
      → Looked (λ (c : Chunk). c.hash) (λ c. 1) hash (λ i p. the_chunk (record { 0 = number }) (record { 0 = i }) (record { 0 = p })) later 0 (at + 48) x.chunks r
      → Ends (number + 1) (at + 48 + 48 * length x.chunks) xs later → Ends number at (x ∷ xs) r
  block_ends number at x xs (passed n) e = behind number at (at + 48 + 48 * length x.chunks) x xs (omega (arith, rows_are x)) n e
  block_ends number at x xs (found i p f) e =
      let q : at + 48 ≡ at + 48 * 0 + 48 = omega arith in
      hit (record { 0 = number }) (record { 0 = i }) (record { 0 = p }) (record {
        before = [];
        block = x;
        after = xs;
        split = refl;
        none = tt;
        number_is = omega arith;
        in_block = subst (λ (o : ℕ). FirstOf (λ (c : Chunk). c.hash) (λ c. 1) hash 0 o x.chunks i p) q f;
      })

  if_hit : {number at : ℕ} {xs : List XorbBlock} {r : ChunkAnswer} (b : BlockNumber) (i : ChunkIndex) (p : Position) → Ends number at xs r → r ≡ the_chunk b i p → ChunkOfTree hash number at xs b i p
  if_hit b i p (absent n) e = absurd (cc)
  if_hit b i p (hit b' i' p' f) e =
      let q : ◌≡◌ {A = ChunkPlace} (record { block = b'; index = i'; at = p' }) (record { block = b; index = i; at = p }) = cc in
      let eb : b' ≡ b = ap (λ (x : ChunkPlace). x.block) q in
      let ei : i' ≡ i = ap (λ (x : ChunkPlace). x.index) q in
      let ep : p' ≡ p = ap (λ (x : ChunkPlace). x.at) q in
      rw (eb, ei, ep) at f

  if_absent : {number at : ℕ} {xs : List XorbBlock} {r : ChunkAnswer} → Ends number at xs r → r ≡ Ok None → NoneInAll xs
  if_absent (absent n) e = n
  if_absent (hit b i p f) e = absurd (cc)

  module _ (is : IsHash hash) where
    ends : (number at : ℕ) (xs : List XorbBlock) → Each SoundXorb xs → Ends number at xs (among_blocks hash number at xs)
    ends number at [] s = absent tt
    ends number at (x ∷ xs) (s, ss) = block_ends number at x xs (look _ _ hash _ _ SoundChunk (λ c k. k.hash) is 0 (at + 48) x.chunks s.chunks) (ends (number + 1) _ xs ss)

    -- ## What gives an answer

    -- blocks without such a chunk are passed over
    past : (number at : ℕ) (xs ys : List XorbBlock) → Each SoundXorb (xs ++ ys) → NoneInAll xs → among_blocks hash number at (xs ++ ys) ≡ among_blocks hash (number + length xs) (at + 48 * rows_in xs) ys
    past number at [] ys s n =
        let e : number ≡ number + 0 = omega arith in
        let f : at ≡ at + 48 * 0 = omega arith in
        ap (λ (m : ℕ). among_blocks hash m at ys) e ∙ ap (λ (p : ℕ). among_blocks hash (number + 0) p ys) f
    past number at (x ∷ xs) ys (s, ss) (n, ns) =
        let e : number + 1 + length xs ≡ number + length (x ∷ xs) = omega arith in
        let f : at + 48 + 48 * length x.chunks + 48 * rows_in xs ≡ at + 48 * rows_in (x ∷ xs) = omega (arith, rows_are x) in
        passes _ (λ x. 1) hash _ _ SoundChunk (λ c k. k.hash) is 0 (at + 48) x.chunks s.chunks n
        ∙ past (number + 1) (at + 48 + 48 * length x.chunks) xs ys ss ns
        ∙ ap (λ (m : ℕ). among_blocks hash m (at + 48 + 48 * length x.chunks + 48 * rows_in xs) ys) e
        ∙ ap (λ (p : ℕ). among_blocks hash (number + length (x ∷ xs)) p ys) f

    module _ (number at : ℕ) (xs : List XorbBlock) (s : Each SoundXorb xs) where
      from_first : (b : BlockNumber) (i : ChunkIndex) (p : Position) → ChunkOfTree hash number at xs b i p → among_blocks hash number at xs ≡ the_chunk b i p
      from_first b i p f =
          let t : Each SoundXorb (f.before ++ (f.block ∷ f.after)) = subst (Each SoundXorb) f.split s in
          let k : SoundXorb f.block = (each_second SoundXorb f.before (f.block ∷ f.after) t).0 in
          let e : ◌≡◌ {A = BlockNumber} (record { 0 = number + length f.before }) b = ap (λ (n : ℕ). record { 0 = n }) (sym f.number_is) in
          ap (among_blocks hash number at) f.split
          ∙ past number at f.before (f.block ∷ f.after) t f.none
          ∙ hits _ _ hash _ _ SoundChunk (λ c k. k.hash) is 0 _ f.block.chunks i.0 p.0 k.chunks f.in_block
          ∙ ap (λ (n : BlockNumber). the_chunk n i p) e

      from_none : NoneInAll xs → among_blocks hash number at xs ≡ Ok None
      from_none n =
          let e : xs ++ [] ≡ xs = append-nil xs in
          ap (among_blocks hash number at) (sym e) ∙ past number at xs [] (subst (Each SoundXorb) (sym e) s) n

      -- ## Both

      pub chunk_if : (b : BlockNumber) (i : ChunkIndex) (p : Position) → among_blocks hash number at xs ≡ the_chunk b i p ↔ ChunkOfTree hash number at xs b i p
      chunk_if b i p = (if_hit b i p (ends number at xs s), from_first b i p)

      pub none_if : among_blocks hash number at xs ≡ Ok None ↔ NoneInAll xs
      none_if = (if_absent (ends number at xs s), from_none)
