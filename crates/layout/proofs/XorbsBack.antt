-- From the rules to the tree, xorb blocks: good rows from a xorb head to the end are those of sound xorbs, and a bookend,
-- because each head says how many rows are its own. Assumes nothing.
use mathlib.Core.Path.{◌≡◌, refl, sym, ap, ap₂, ◌∙◌}
use mathlib.Core.Bool.{Bool, true, false, ◌&&◌, ◌||◌}
use mathlib.Core.List.{List, [], ◌∷◌, ◌++◌, append_assoc}
use Prim.Native.Nat.{ℕ, zero, suc, ◌+◌, ◌*◌, ◌≤◌, ◌<◌}
use native.Mathlib.Omega.{arith}
use lib.ListN.{length, length-append}
use lib.Dec.{eqb, leb, ltb, lit<}
use borrow.Author.Tests.{leb-true, eqb-true}
use Rattle.words.specs.Checks.{pick}
use Rattle.words.specs.Record.{IsHash, is_ones}
use Rattle.words.specs.declared.Words.{Words}
use Rattle.words.specs.declared.Tag.{Tag}
use Rattle.words.proofs.Zeros.{and_left, and_right}
use Rattle.words.proofs.Records.{false_ones}
use Rattle.words.proofs.Checks.{passed}
use Rattle.rules.specs.Rules.{limit, fits, fault_of, kind_of, chunks_from, counts, nothing, plus, next_of}
use Rattle.rules.specs.declared.Totals.{Totals}
use Rattle.rules.specs.declared.Place.{Place}
use Rattle.rules.specs.declared.Due.{Due}
use Rattle.rules.specs.declared.Due.TheVariants.{XorbHead, Chunk}
use Rattle.rules.specs.Rules as rules
use Rattle.rules.specs.declared.Kind.TheVariants as kind
use Rattle.layout.specs.Layout.{joined, XorbBlock, Each, Row, row, bytes_in, xorb_head_row, chunk_rows, xorb_rows, bookend, SoundChunk, SoundXorb}
use Rattle.layout.specs.Layout as tree
use Rattle.layout.proofs.Checks.{or_last, or_none}
use Rattle.layout.proofs.XorbsForth.{chunk_next, length_xorb}
use Rattle.layout.proofs.Entries.{Ended, not_yet}
use Rattle.layout.proofs.Places.{due_at, onward, onward_then, onward_none, many_suc, past_xorbs, into_xorb, after_xorb_head}
use Rattle.layout.proofs.FilesBack.{bookend_is}
use Rattle.layout.proofs.Rows.{Good, row_same, Goes, stepped, goes_from}

-- ## Chunks

record ChunkSays (n sum total : ℕ) (r : Row) : Type 0 where
  is : r ≡ row kind.Chunk r.words.hash sum r.words.b 0 0
  sound : IsHash r.words.hash
  last : n ≡ 0 → sum + r.words.b ≡ total

chunk_says : (tag : Tag) (n sum total : ℕ) (p : Place) (r : Row) → Good tag (due_at (Chunk (suc n) sum total) p) r → ChunkSays n sum total r
unfolding fault_of kind_of
chunk_says tag n sum total p r g =
    let w : Words = r.words in
    let (e1, z1) = passed (eqb w.c 0 && eqb w.d 0) 7 _ (lit< tt) g.fault in
    let (e2, z2) = passed (eqb w.a sum) 11 _ (lit< tt) z1 in
    let (e3, z3) = passed (leb (sum + w.b) total) 11 _ (lit< tt) z2 in
    let (e4, z4) = passed (ltb 1 (suc n) || eqb (sum + w.b) total) 11 0 (lit< tt) z3 in
    record {
      is = row_same w.hash (sym g.kind) (eqb-true _ _ e2) refl (eqb-true _ _ (and_left _ _ e1)) (eqb-true _ _ (and_right (eqb w.c 0) _ e1));
      sound = g.whole.hash;
      last = or_last n (sum + w.b) total e4;
    }

record ChunksBack (tag : Tag) (n sum total : ℕ) (p q : Place) (rows : List Row) : Type 0 where
  chunks : List tree.Chunk
  count : length chunks ≡ n
  sound : Each SoundChunk chunks
  sums : sum + bytes_in chunks ≡ total
  totals : Totals
  rest : List Row
  rows_are : rows ≡ chunk_rows sum chunks ++ rest
  goes : Goes tag (onward (48 * n) totals XorbHead p) rest q

chunks_back : (tag : Tag) (n sum total : ℕ) (p q : Place) (rows : List Row) → Ended q → (n ≡ 0 → sum ≡ total)
    → Goes tag (due_at (chunks_from n sum total) p) rows q → ChunksBack tag n sum total p q rows
chunks_back tag zero sum total p q rows z e t =
    let e0 : sum ≡ total = e refl in
    record {
      chunks = [];
      count = refl;
      sound = tt;
      sums = omega arith;
      totals = nothing;
      rest = rows;
      rows_are = refl;
      goes = goes_from tag _ _ q rows (sym (onward_none XorbHead p)) t;
    }
chunks_back tag (suc n) sum total p q [] z e t =
    absurd (not_yet tag (Chunk (suc n) sum total) p q refl (goes_from tag _ _ q [] (ap (λ (x : Due). due_at x p) (sym (many_suc n (λ left. Chunk left sum total) XorbHead))) t) z)
chunks_back tag (suc n) sum total p q (r ∷ rs) z e t =
    let (g, t1) = stepped tag (due_at (Chunk (suc n) sum total) p) q r rs (goes_from tag _ _ q (r ∷ rs) (ap (λ (x : Due). due_at x p) (sym (many_suc n (λ left. Chunk left sum total) XorbHead))) t) in
    let says : ChunkSays n sum total r = chunk_says tag n sum total p r g in
    let b : ℕ = r.words.b in
    let c : Totals = counts 0 0 0 1 0 in
    let o : ChunksBack tag n (sum + b) total (onward 48 c XorbHead p) q rs = chunks_back tag n (sum + b) total (onward 48 c XorbHead p) q rs z says.last (goes_from tag _ _ q rs (sym (chunk_next p r.words n sum total)) t1) in
    let y : sum + b + bytes_in o.chunks ≡ total = o.sums in
    record {
      chunks = record { hash = r.words.hash; bytes = b } ∷ o.chunks;
      count = ap suc o.count;
      sound = (record { hash = says.sound }, o.sound);
      sums = omega arith;
      totals = plus c o.totals;
      rest = o.rest;
      rows_are = ap₂ (λ (x : Row) (y : List Row). x ∷ y) says.is o.rows_are;
      goes = goes_from tag _ _ q o.rest (sym (onward_then 48 (48 * n) (48 * suc n) c o.totals (plus c o.totals) XorbHead XorbHead p (omega arith) (refl, refl, refl, refl, refl))) o.goes;
    }

-- ## One xorb

-- what a good xorb head says
record XorbHeadSays (p : Place) (r : Row) : Type 0 where
  is : r ≡ row kind.XorbHead r.words.hash 0 r.words.b r.words.c r.words.d
  room : p.at.0 + 48 + 48 * r.words.b + (48 + rules.footer_size p.footer) ≤ limit
  none : r.words.b ≡ 0 → r.words.c ≡ 0

xorb_says : (tag : Tag) (p : Place) (r : Row) → is_ones r.words.hash ≡ false → Good tag (due_at XorbHead p) r → XorbHeadSays p r
unfolding fault_of kind_of
xorb_says tag p r n g =
    let w : Words = r.words in
    let f : rules.xorb_head_fault (due_at XorbHead p) w ≡ 0 = ap (λ (t : Bool). pick t (rules.bookend_fault w) (rules.xorb_head_fault (due_at XorbHead p) w)) (sym n) ∙ g.fault in
    let k : kind.XorbHead ≡ r.kind = ap (λ (t : Bool). pick t kind.Bookend kind.XorbHead) (sym n) ∙ g.kind in
    let (e1, z1) = passed (eqb w.a 0) 7 _ (lit< tt) f in
    let (e2, z2) = passed (fits p.at.0 w.b (48 + rules.footer_size p.footer)) 6 _ (lit< tt) z1 in
    let (e3, z3) = passed (ltb 0 w.b || eqb w.c 0) 11 0 (lit< tt) z2 in
    record {
      is = row_same w.hash (sym k) (eqb-true _ _ e1) refl refl refl;
      room = leb-true _ _ e2;
      none = or_none w.b w.c e3;
    }

-- the two ways on from a xorb head
xorb_past : (tag : Tag) (t : Bool) (p q : Place) (r : Row) (rs : List Row) → is_ones r.words.hash ≡ t → Goes tag (next_of (due_at XorbHead p) r.words) rs q
    → Goes tag (pick t (past_xorbs p) (into_xorb r.words.b r.words.c p)) rs q
unfolding next_of
xorb_past tag t p q r rs n g = goes_from tag _ _ q rs (ap (λ (b : Bool). pick b (past_xorbs p) (into_xorb r.words.b r.words.c p)) (sym n) ∙ sym (after_xorb_head (due_at XorbHead p) r.words)) g

record XorbBack (tag : Tag) (p q : Place) (r : Row) (rs : List Row) : Type 0 where
  xorb : XorbBlock
  sound : SoundXorb xorb
  totals : Totals
  rest : List Row
  rows_are : r ∷ rs ≡ xorb_rows xorb ++ rest
  room : p.at.0 + 48 * length (xorb_rows xorb) + 48 + rules.footer_size p.footer ≤ limit
  goes : Goes tag (onward (48 * length (xorb_rows xorb)) totals XorbHead p) rest q

xorb_back : (tag : Tag) (p q : Place) (r : Row) (rs : List Row) → Ended q → is_ones r.words.hash ≡ false → Goes tag (due_at XorbHead p) (r ∷ rs) q → XorbBack tag p q r rs
unfolding xorb_rows
xorb_back tag p q r rs z n t =
    let (g, t0) = stepped tag (due_at XorbHead p) q r rs t in
    let says : XorbHeadSays p r = xorb_says tag p r n g in
    let b : ℕ = r.words.b in
    let c : Totals = counts 0 0 1 0 0 in
    let p1 : Place = onward 48 c XorbHead p in
    let o : ChunksBack tag b 0 r.words.c p1 q rs = chunks_back tag b 0 r.words.c p1 q rs z (λ e. sym (says.none e)) (xorb_past tag false p q r rs n t0) in
    let x : XorbBlock = record { hash = r.words.hash; disk = r.words.d; chunks = o.chunks } in
    let u : Totals = plus c o.totals in
    let k : length (xorb_rows x) ≡ suc (length o.chunks) = length_xorb x in
    let kb : length o.chunks ≡ b = o.count in
    let y : 0 + bytes_in o.chunks ≡ r.words.c = o.sums in
    let s : bytes_in o.chunks ≡ r.words.c = omega arith in
    let head : r ≡ xorb_head_row x = says.is ∙ row_same r.words.hash refl refl (sym kb) (sym s) refl in
    record {
      xorb = x;
      sound = record { hash = g.whole.hash; not_ones = false_ones r.words.hash n; disk = g.whole.d; chunks = o.sound; bytes = omega (arith, g.whole.c) };
      totals = u;
      rest = o.rest;
      rows_are = ap₂ (λ (x : Row) (y : List Row). x ∷ y) head o.rows_are;
      room = omega arith;
      goes = goes_from tag _ _ q o.rest (sym (onward_then 48 (48 * b) (48 * length (xorb_rows x)) c o.totals u XorbHead XorbHead p (omega arith) (refl, refl, refl, refl, refl))) o.goes;
    }

-- ## The section's bookend

second_bookend_of : (tag : Tag) (p : Place) (r : Row) → is_ones r.words.hash ≡ true → Good tag (due_at XorbHead p) r → r ≡ bookend
unfolding fault_of kind_of
second_bookend_of tag p r o g = bookend_is r g.whole o
    (ap (λ (t : Bool). pick t (rules.bookend_fault r.words) (rules.xorb_head_fault (due_at XorbHead p) r.words)) (sym o) ∙ g.fault)
    (ap (λ (t : Bool). pick t kind.Bookend kind.XorbHead) (sym o) ∙ g.kind)

-- ## All xorbs

pub record XorbsBack (tag : Tag) (p q : Place) (rows : List Row) : Type 0 where
  pub xorbs : List XorbBlock
  pub sound : Each SoundXorb xorbs
  pub totals : Totals
  pub rest : List Row
  pub rows_are : rows ≡ joined xorb_rows xorbs ++ (bookend ∷ rest)
  pub room : p.at.0 + 48 * length (joined xorb_rows xorbs) + 48 + rules.footer_size p.footer ≤ limit
  pub goes : Goes tag (past_xorbs (onward (48 * length (joined xorb_rows xorbs)) totals XorbHead p)) rest q

xorbs_more : (tag : Tag) (p q : Place) (r : Row) (rs : List Row) (o : XorbBack tag p q r rs)
    → XorbsBack tag (onward (48 * length (xorb_rows o.xorb)) o.totals XorbHead p) q o.rest → XorbsBack tag p q (r ∷ rs)
xorbs_more tag p q r rs o m =
    let x : XorbBlock = o.xorb in
    let xs : List XorbBlock = m.xorbs in
    let k : length (xorb_rows x ++ joined xorb_rows xs) ≡ length (xorb_rows x) + length (joined xorb_rows xs) = length-append (xorb_rows x) (joined xorb_rows xs) in
    record {
      xorbs = x ∷ xs;
      sound = (o.sound, m.sound);
      totals = plus o.totals m.totals;
      rest = m.rest;
      rows_are = o.rows_are ∙ ap (λ (y : List Row). xorb_rows x ++ y) m.rows_are ∙ sym (append_assoc (xorb_rows x) (joined xorb_rows xs) (bookend ∷ m.rest));
      room = omega arith;
      goes = goes_from tag _ _ q m.rest (ap past_xorbs (sym (onward_then (48 * length (xorb_rows x)) (48 * length (joined xorb_rows xs)) (48 * length (xorb_rows x ++ joined xorb_rows xs))
          o.totals m.totals (plus o.totals m.totals) XorbHead XorbHead p (omega arith) (refl, refl, refl, refl, refl)))) m.goes;
    }

xorb_shorter : (x : XorbBlock) (r : Row) (rs rest : List Row) → r ∷ rs ≡ xorb_rows x ++ rest → length rest < length (r ∷ rs)
xorb_shorter x r rs rest e =
    let y : length (r ∷ rs) ≡ length (xorb_rows x) + length rest = ap length e ∙ length-append (xorb_rows x) rest in
    omega (arith, length_xorb x)

-- k is above the number of rows
pub xorbs_back : (tag : Tag) (k : ℕ) (p q : Place) (rows : List Row) → length rows < k → Ended q → p.at.0 + 48 + rules.footer_size p.footer ≤ limit
    → Goes tag (due_at XorbHead p) rows q → XorbsBack tag p q rows
xorbs_back tag zero p q rows l z room t = absurd (omega arith)
xorbs_back tag (suc k) p q [] l z room t = absurd (not_yet tag XorbHead p q refl t z)
xorbs_back tag (suc k) p q (r ∷ rs) l z room t = go (is_ones r.words.hash) refl (xorbs_back tag k)
  where
    go : (b : Bool) → is_ones r.words.hash ≡ b
        → ((p q : Place) (rows : List Row) → length rows < k → Ended q → p.at.0 + 48 + rules.footer_size p.footer ≤ limit → Goes tag (due_at XorbHead p) rows q → XorbsBack tag p q rows)
        → XorbsBack tag p q (r ∷ rs)
    go true n ih =
        let (g, t1) = stepped tag (due_at XorbHead p) q r rs t in
        record {
          xorbs = [];
          sound = tt;
          totals = nothing;
          rest = rs;
          rows_are = ap (λ (x : Row). x ∷ rs) (second_bookend_of tag p r n g);
          room = omega arith;
          goes = goes_from tag _ _ q rs (ap past_xorbs (sym (onward_none XorbHead p))) (xorb_past tag true p q r rs n t1);
        }
    go false n ih =
        let o : XorbBack tag p q r rs = xorb_back tag p q r rs z n t in
        let s : length o.rest < length (r ∷ rs) = xorb_shorter o.xorb r rs o.rest o.rows_are in
        xorbs_more tag p q r rs o (ih (onward (48 * length (xorb_rows o.xorb)) o.totals XorbHead p) q o.rest (omega arith) z (omega (arith, o.room)) o.goes)
