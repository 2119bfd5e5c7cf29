-- The lengths of a block's chunks from one index up to another add up to the difference of two byte starts, because each chunk starts where the one before
-- it ended. Assumes nothing.
use mathlib.Core.Path.{◌≡◌, refl, sym, ap, ◌∙◌}
use mathlib.Core.Bool.{Bool, true, false, ◌&&◌}
use mathlib.Core.List.{List, [], ◌∷◌, ◌++◌}
use Prim.Native.Nat.{ℕ, zero, suc, ◌+◌, ◌-◌, ◌*◌, ◌≤◌, ◌<◌}
use native.Mathlib.Omega.{arith}
use lib.Dec.{eqb, leb, ltb}
use lib.ListN.{length, take, drop}
use lib.Seq.{take-nil, take_all}
use borrow.Author.Tests.{leb-true, ltb-true, ltb-false, eqb-true, eqb-false, eq-eqb, ne_eqb}
use Rattle.words.specs.Checks.{pick}
use Rattle.words.specs.Record.{words_at}
use Rattle.words.specs.declared.Words.{Words}
use Rattle.words.proofs.Parts.{words_there}
use Rattle.layout.specs.Layout.{Chunk, XorbBlock, Row, bytes_in, chunk_rows, xorb_head_row}
use Rattle.layout.specs.Blocks.{Stand, segment_of}
use Rattle.audit.specs.Audit.{bytes_between, is_true_of}

-- the chunks before an index, those from there up to another, and those before the other
between : (start end : ℕ) (cs : List Chunk) → start ≤ end → bytes_in (take start cs) + bytes_between start end cs ≡ bytes_in (take end cs)
between zero end cs h = let e : end - 0 ≡ end = omega arith in rw e (omega arith)
between (suc s) end [] h = rw (take-nil {A = Chunk} end, take-nil {A = Chunk} (end - suc s)) (omega arith)
between (suc s) zero (c ∷ cs) h = absurd (omega arith)
between (suc s) (suc e) (c ∷ cs) h =
    let k : suc e - suc s ≡ e - s = omega arith in
    rw k (omega (arith, between s e cs (omega arith)))

module _ (bytes : List ℕ) (others : List Row) where
  -- a chunk's byte start is the sum of the lengths before it
  starts : (at start i : ℕ) (cs : List Chunk) → Stand bytes at (chunk_rows start cs ++ others) → i < length cs → (words_at bytes (at + 48 * i)).a ≡ start + bytes_in (take i cs)
  starts at start i [] h l = absurd (omega arith)
  starts at start zero (c ∷ cs) (w, r, t) l =
      let e : at + 48 * 0 ≡ at = omega arith in
      let f : start ≡ start + bytes_in (take 0 (c ∷ cs)) = omega arith in
      ap (λ (p : ℕ). (words_at bytes p).a) e ∙ ap (λ (v : Words). v.a) w ∙ f
  starts at start (suc i) (c ∷ cs) (w, r, t) l =
      let e : at + 48 * suc i ≡ at + 48 + 48 * i = omega arith in
      let f : start + c.bytes + bytes_in (take i cs) ≡ start + bytes_in (take (suc i) (c ∷ cs)) = omega arith in
      ap (λ (p : ℕ). (words_at bytes p).a) e ∙ starts (at + 48) (start + c.bytes) i cs t (omega arith) ∙ f

-- equal after the same was added
same_after : (a b c d : ℕ) → a + c ≡ d → eqb (a + b) d ≡ eqb b c
same_after a b c d h = go (eqb b c) refl
  where
    go : (t : Bool) → eqb b c ≡ t → eqb (a + b) d ≡ t
    go true e = eq-eqb (a + b) d (omega (arith, eqb-true b c e))
    go false e = ne_eqb (a + b) d (λ (q : a + b ≡ d). eqb-false b c e (omega arith))

-- ## A block whose chunks stand at a position

-- what is before an index, and the test, by a block's head and the bytes of its chunks
abbrev before_by : Words → List ℕ → ℕ → ℕ
before_by head part i = pick (ltb i head.b) (words_at part (48 * i)).a head.c

abbrev pub true_by : Words → List ℕ → Words → Bool
true_by head part w = leb w.d head.b && eqb (before_by head part w.c + w.b) (before_by head part w.d)

module _ (bytes : List ℕ) (at : ℕ) (x : XorbBlock) (others : List Row) (stand : Stand bytes at (chunk_rows 0 x.chunks ++ others)) where
  module _ (head : Words) (is : head ≡ (xorb_head_row x).words) (part : List ℕ) (there : part ≡ take (at + 48 * head.b - at) (drop at bytes)) where
    count : head.b ≡ length x.chunks
    count = ap (λ (v : Words). v.b) is

    -- it is the sum of the lengths before it
    before : (i : ℕ) → i ≤ length x.chunks → before_by head part i ≡ bytes_in (take i x.chunks)
    before i l = go (ltb i head.b) refl
      where
        go : (b : Bool) → ltb i head.b ≡ b → pick b (words_at part (48 * i)).a head.c ≡ bytes_in (take i x.chunks)
        go true e =
            let m : i < head.b = ltb-true _ _ e in
            ap (λ (bs : List ℕ). (words_at bs (48 * i)).a) there
            ∙ ap (λ (v : Words). v.a) (words_there (at + 48 * head.b - at) bytes at (48 * i) (at + 48 * i) (omega arith) refl)
            ∙ starts bytes others at 0 i x.chunks stand (omega (arith, count))
            ∙ omega arith
        go false e = ap (λ (v : Words). v.c) is ∙ sym (ap bytes_in (take_all i x.chunks (omega (arith, count, ltb-false _ _ e))))

    -- so what must be added to the one to come to the other is the sum between
    differ : (start end : ℕ) → start < end → end ≤ length x.chunks → before_by head part start + bytes_between start end x.chunks ≡ before_by head part end
    differ start end l n = omega (arith, before start (omega arith), before end n, between start end x.chunks (omega arith))

    -- the test in the bytes is the test in the tree
    pub true_is : (w : Words) → w.c < w.d → true_by head part w ≡ is_true_of x (segment_of w)
    true_is w l = ap (λ (n : ℕ). leb w.d n && eqb (before_by head part w.c + w.b) (before_by head part w.d)) count ∙ go (leb w.d (length x.chunks)) refl
      where
        go : (b : Bool) → leb w.d (length x.chunks) ≡ b → (b && eqb (before_by head part w.c + w.b) (before_by head part w.d)) ≡ (b && eqb w.b (bytes_between w.c w.d x.chunks))
        go false q = refl
        go true q = same_after (before_by head part w.c) w.b (bytes_between w.c w.d x.chunks) (before_by head part w.d) (differ w.c w.d l (leb-true _ _ q))
