-- What stands where a head is due: the bookend if its hash is all ones, else the head of the next block with that block's entries behind it, because no
-- sound block has a hash of all ones and a head says how many entries follow it. Of files and of xorbs alike. Assumes nothing.
use mathlib.Core.Path.{◌≡◌, refl, sym, ap, ◌∙◌, subst}
use mathlib.Core.Bool.{true, false, true≢false}
use mathlib.Core.List.{List, [], ◌∷◌, ◌++◌}
use Prim.Native.Nat.{ℕ, ◌+◌, ◌*◌, ◌≤◌}
use native.Mathlib.Omega.{arith}
use lib.ListN.{length}
use Rattle.words.specs.Record.{words_at, is_ones}
use Rattle.words.specs.declared.Words.{Words}
use Rattle.words.proofs.Records.{ones_false}
use Rattle.rules.specs.Rules.{further_records}
use Rattle.layout.specs.Layout.{Chunk, Row, Each, file_rows, chunk_rows, SoundFile, SoundXorb}
use Rattle.layout.specs.Blocks.{BlockRows, file_block, xorb_block, blocks_then, Stand}
use Rattle.layout.proofs.FilesForth.{length_file, further}
use Rattle.finder.proofs.Standing.{stand_behind}

-- ## The two kinds

-- no head is all ones, and its numbers say how many entries there are
pub record Heads {B : Type 0} (k : BlockRows B) (Sound : B → Type 0) (count : Words → ℕ) : Type 0 where
  pub not_ones : (b : B) → Sound b → is_ones (k.head b).words.hash ≡ false
  pub counts : (b : B) → Sound b → length (k.entries b) ≡ count (k.head b).words

pub file_heads : Heads file_block SoundFile (λ w. further_records w.a w.b)
unfolding file_rows
file_heads = record { not_ones = λ f h. ones_false f.hash h.hash h.not_ones; counts = λ f h. omega (arith, length_file f, further f h.matched) }

pub length_chunks : (start : ℕ) (cs : List Chunk) → length (chunk_rows start cs) ≡ length cs
length_chunks start [] = refl
length_chunks start (c ∷ cs) = omega (arith, length_chunks (start + c.bytes) cs)

pub xorb_heads : Heads xorb_block SoundXorb (λ w. w.b)
xorb_heads = record { not_ones = λ x h. ones_false x.hash h.hash h.not_ones; counts = λ x h. length_chunks 0 x.chunks }

-- ## Blocks from a position on, and what is behind their bookend

module _ {B : Type 0} {k : BlockRows B} {Sound : B → Type 0} {count : Words → ℕ} (heads : Heads k Sound count) (bytes : List ℕ) (at : ℕ) (later : List Row) where
  pub head_room : (bs : List B) → Stand bytes at (blocks_then k bs later) → at + 48 ≤ length bytes
  head_room [] (r, l, t) = l
  head_room (b ∷ bs) (r, l, t) = l

  module _ (w : Words) (read : w ≡ words_at bytes at) where
    -- the head of the first of them, and the others
    pub record Head (bs : List B) : Type 0 where
      pub block : B
      pub others : List B
      pub are : bs ≡ block ∷ others
      pub words : w ≡ (k.head block).words
      pub is_sound : Sound block
      pub sound : Each Sound others
      pub stand : Stand bytes (at + 48) (k.entries block ++ blocks_then k others later)
      pub entries : length (k.entries block) ≡ count w

    pub at_bookend : (bs : List B) → Each Sound bs → Stand bytes at (blocks_then k bs later) → is_ones w.hash ≡ true → bs ≡ []
    at_bookend [] s t e = refl
    at_bookend (b ∷ bs) (h, hs) (r, l, t) e = absurd (true≢false (sym e ∙ ap (λ (v : Words). is_ones v.hash) (read ∙ r) ∙ heads.not_ones b h))

    pub at_head : (bs : List B) → Each Sound bs → Stand bytes at (blocks_then k bs later) → is_ones w.hash ≡ false → Head bs
    at_head [] s (r, l, t) e = absurd (true≢false (sym (ap (λ (v : Words). is_ones v.hash) (read ∙ r)) ∙ e))
    at_head (b ∷ bs) (h, hs) (r, l, t) e = record {
      block = b;
      others = bs;
      are = refl;
      words = read ∙ r;
      is_sound = h;
      sound = hs;
      stand = t;
      entries = heads.counts b h ∙ sym (ap count (read ∙ r));
    }

    -- the next head is due behind its entries
    pub next_due : (bs : List B) (h : Head bs) (p : ℕ) → p ≡ at + 48 + 48 * count w → Stand bytes p (blocks_then k h.others later)
    next_due bs h p e =
        let q : at + 48 + 48 * length (k.entries h.block) ≡ p = omega (arith, h.entries) in
        subst (λ (x : ℕ). Stand bytes x (blocks_then k h.others later)) q (stand_behind bytes (at + 48) (k.entries h.block) (blocks_then k h.others later) h.stand)
