-- From the tree to the rules, xorb blocks: the rows of sound xorbs are good, one after the other,
-- because each chunk starts at the sum of those before it and their sum is the head's. Assumes nothing.
use mathlib.Core.Path.{◌≡◌, refl, ap}
use mathlib.Core.Bool.{true, ◌||◌}
use mathlib.Core.List.{List, [], ◌∷◌, ◌++◌}
use Prim.Native.Nat.{ℕ, suc, ◌+◌, ◌*◌, ◌^◌, ◌≤◌, ◌<◌}
use native.Mathlib.Omega.{arith}
use lib.ListN.{length, length-append}
use lib.Dec.{eqb, leb, ltb, lit<}
use borrow.Author.Tests.{eq-eqb, le-leb}
use Rattle.words.specs.declared.Words.{Words}
use Rattle.words.specs.declared.Tag.{Tag}
use Rattle.words.proofs.Records.{ones_false}
use Rattle.rules.specs.Rules.{limit, fits, fault_of, kind_of, chunks_from, counts, next_of}
use Rattle.rules.specs.declared.Totals.{Totals}
use Rattle.rules.specs.declared.Place.{Place}
use Rattle.rules.specs.declared.Due.{Due}
use Rattle.rules.specs.declared.Due.TheVariants.{XorbHead, Chunk}
use Rattle.rules.specs.Rules as rules
use Rattle.rules.specs.declared.Kind.TheVariants as kind
use Rattle.layout.specs.Layout.{joined, XorbBlock, sum_of, Each, Row, row, bytes_in, xorb_head_row, chunk_rows, xorb_rows, SoundChunk, SoundXorb}
use Rattle.layout.specs.Layout as tree
use Rattle.layout.proofs.Checks.{pass3, last_or, none_or}
use Rattle.layout.proofs.Places.{due_at, onward, onward_then, onward_none, many_suc, less_one, into_xorb}
use Rattle.layout.proofs.Rows.{Good, Goes, stay, goes_append, goes_from, goes_to, goes_cons}

chunk_good : (tag : Tag) (p : Place) (c : tree.Chunk) (n sum total : ℕ) → SoundChunk c → sum + c.bytes ≤ total → (n ≡ 0 → sum + c.bytes ≡ total) → total < 2 ^ 32
    → Good tag (due_at (Chunk (suc n) sum total) p) (row kind.Chunk c.hash sum c.bytes 0 0)
unfolding fault_of kind_of
chunk_good tag p c n sum total h l e t = record {
  size = refl;
  whole = record { hash = h.hash; a = omega arith; b = omega arith; c = lit< tt; d = lit< tt };
  fault = pass3 (eqb sum sum) (leb (sum + c.bytes) total) (ltb 1 (suc n) || eqb (sum + c.bytes) total) 11 11 11
      (eq-eqb sum sum refl) (le-leb (sum + c.bytes) total l) (last_or n (sum + c.bytes) total e);
  kind = refl;
}

pub chunk_next : (p : Place) (w : Words) (n sum total : ℕ)
    → next_of (due_at (Chunk (suc n) sum total) p) w ≡ due_at (chunks_from n (sum + w.b) total) (onward 48 (counts 0 0 0 1 0) XorbHead p)
unfolding next_of
chunk_next p w n sum total = ap (λ (k : ℕ). onward 48 (counts 0 0 0 1 0) (chunks_from k (sum + w.b) total) p) (less_one n)

no_bytes : (cs : List tree.Chunk) → length cs ≡ 0 → bytes_in cs ≡ 0
no_bytes [] e = refl
no_bytes (c ∷ cs) e = absurd (omega arith)

chunks_go : (tag : Tag) (p : Place) (cs : List tree.Chunk) (sum total : ℕ) → Each SoundChunk cs → sum + bytes_in cs ≡ total → total < 2 ^ 32
    → Goes tag (due_at (chunks_from (length cs) sum total) p) (chunk_rows sum cs) (onward (48 * length cs) (counts 0 0 0 (length cs) 0) XorbHead p)
chunks_go tag p [] sum total hs e t = stay tag (onward_none XorbHead p)
chunks_go tag p (c ∷ cs) sum total (h, hs) e t =
    let q : Place = onward 48 (counts 0 0 0 1 0) XorbHead p in
    let r : Row = row kind.Chunk c.hash sum c.bytes 0 0 in
    goes_from tag _ (due_at (Chunk (suc (length cs)) sum total) p) _ _ (ap (λ (x : Due). due_at x p) (many_suc (length cs) (λ left. Chunk left sum total) XorbHead))
    (goes_cons tag _ (due_at (chunks_from (length cs) (sum + c.bytes) total) q) _ r (chunk_rows (sum + c.bytes) cs)
    (chunk_good tag p c (length cs) sum total h (omega arith) (λ z. let y : bytes_in cs ≡ 0 = no_bytes cs z in omega arith) t) (chunk_next p r.words (length cs) sum total)
    (goes_to tag _ _ _ _ (chunks_go tag q cs (sum + c.bytes) total hs (omega arith) t)
    (onward_then 48 (48 * length cs) (48 * suc (length cs)) (counts 0 0 0 1 0) (counts 0 0 0 (length cs) 0) (counts 0 0 0 (suc (length cs)) 0) XorbHead XorbHead p (omega arith) (omega arith))))

pub length_chunks : (sum : ℕ) (cs : List tree.Chunk) → length (chunk_rows sum cs) ≡ length cs
length_chunks sum [] = refl
length_chunks sum (c ∷ cs) = ap suc (length_chunks (sum + c.bytes) cs)

pub length_xorb : (x : XorbBlock) → length (xorb_rows x) ≡ suc (length x.chunks)
unfolding xorb_rows
length_xorb x = ap suc (length_chunks 0 x.chunks)

xorb_good : (tag : Tag) (p : Place) (x : XorbBlock) → SoundXorb x
    → p.at.0 + 48 * length (xorb_rows x) + 48 + rules.footer_size p.footer ≤ limit → Good tag (due_at XorbHead p) (xorb_head_row x)
unfolding fault_of kind_of
xorb_good tag p x h l = record {
  size = refl;
  whole = record { hash = h.hash; a = lit< tt; b = omega (arith, length_xorb x); c = h.bytes; d = h.disk };
  fault = rw (ones_false x.hash h.hash h.not_ones)
      (pass3 true (fits p.at.0 (length x.chunks) (48 + rules.footer_size p.footer)) (ltb 0 (length x.chunks) || eqb (bytes_in x.chunks) 0) 7 6 11
      refl
      (le-leb (p.at.0 + 48 + 48 * length x.chunks + (48 + rules.footer_size p.footer)) limit (omega (arith, length_xorb x)))
      (none_or (length x.chunks) (bytes_in x.chunks) (no_bytes x.chunks)));
  kind = rw (ones_false x.hash h.hash h.not_ones);
}

xorb_next : (p : Place) (x : XorbBlock) → SoundXorb x → next_of (due_at XorbHead p) (xorb_head_row x).words ≡ into_xorb (length x.chunks) (bytes_in x.chunks) p
unfolding next_of
xorb_next p x h = rw (ones_false x.hash h.hash h.not_ones)

xorb_go : (tag : Tag) (p : Place) (x : XorbBlock) → SoundXorb x
    → p.at.0 + 48 * length (xorb_rows x) + 48 + rules.footer_size p.footer ≤ limit
    → Goes tag (due_at XorbHead p) (xorb_rows x) (onward (48 * length (xorb_rows x)) (counts 0 0 1 (length x.chunks) 0) XorbHead p)
unfolding xorb_rows
xorb_go tag p x h l =
    let n : ℕ = length x.chunks in
    let k : length (xorb_rows x) ≡ suc n = length_xorb x in
    let q : Place = onward 48 (counts 0 0 1 0 0) XorbHead p in
    goes_cons tag _ (due_at (chunks_from n 0 (bytes_in x.chunks)) q) _ (xorb_head_row x) _ (xorb_good tag p x h l) (xorb_next p x h)
    (goes_to tag _ _ _ _ (chunks_go tag q x.chunks 0 (bytes_in x.chunks) h.chunks (omega arith) h.bytes)
    (onward_then 48 (48 * n) (48 * length (xorb_rows x)) (counts 0 0 1 0 0) (counts 0 0 0 n 0) (counts 0 0 1 n 0) XorbHead XorbHead p (omega arith) (omega arith)))

abbrev pub xorb_totals : List XorbBlock → Totals
xorb_totals xs = counts 0 0 (length xs) (sum_of (λ x. length x.chunks) xs) 0

pub xorbs_go : (tag : Tag) (p : Place) (xs : List XorbBlock) → Each SoundXorb xs
    → p.at.0 + 48 * length (joined xorb_rows xs) + 48 + rules.footer_size p.footer ≤ limit
    → Goes tag (due_at XorbHead p) (joined xorb_rows xs) (onward (48 * length (joined xorb_rows xs)) (xorb_totals xs) XorbHead p)
xorbs_go tag p [] hs l = stay tag (onward_none XorbHead p)
xorbs_go tag p (x ∷ xs) (h, hs) l =
    let k : length (xorb_rows x ++ joined xorb_rows xs) ≡ length (xorb_rows x) + length (joined xorb_rows xs) = length-append (xorb_rows x) (joined xorb_rows xs) in
    let q : Place = onward (48 * length (xorb_rows x)) (counts 0 0 1 (length x.chunks) 0) XorbHead p in
    goes_append tag _ q _ (xorb_rows x) _ (xorb_go tag p x h (omega arith))
    (goes_to tag _ _ _ (joined xorb_rows xs) (xorbs_go tag q xs hs (omega arith))
    (onward_then (48 * length (xorb_rows x)) (48 * length (joined xorb_rows xs)) (48 * length (xorb_rows x ++ joined xorb_rows xs))
    (counts 0 0 1 (length x.chunks) 0) (xorb_totals xs) (xorb_totals (x ∷ xs)) XorbHead XorbHead p (omega arith) (omega arith)))
