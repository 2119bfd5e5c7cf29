-- The entries of a file block, forth and back: segments and verifications are two kinds of entry, and the flags say whether
-- verifications and a metadata record are due. Assumes nothing.
use mathlib.Core.Path.{◌≡◌, refl, sym, ap, ◌∙◌}
use mathlib.Core.Option.{Option, none, some}
use mathlib.Core.Bool.{Bool, true, false}
use mathlib.Core.List.{List, [], ◌∷◌, ◌++◌, map}
use Prim.Native.Nat.{ℕ, suc, ◌*◌}
use native.Mathlib.Omega.{arith}
use lib.ListN.{length}
use lib.Dec.{eqb, ltb, lit<}
use borrow.Author.Tests.{ltb-true, eqb-true, lt-ltb}
use Rattle.words.specs.Checks.{pick}
use Rattle.words.specs.Record.{IsHash, Whole, tail_zero}
use Rattle.words.specs.declared.Words.{Words}
use Rattle.words.specs.declared.Tag.{Tag}
use Rattle.words.proofs.Checks.{passed}
use Rattle.rules.specs.Rules.{bit31, bit30, plain_fault, fault_of, kind_of, many, after_verifications, after_segments, counts, nothing, count_by, next_of}
use Rattle.rules.specs.declared.Place.{Place}
use Rattle.rules.specs.declared.Kind.{Kind}
use Rattle.rules.specs.declared.Due.{Due}
use Rattle.rules.specs.declared.Due.TheVariants.{FileHead, Segment, Verification, Metadata}
use Rattle.rules.specs.declared.Kind.TheVariants as kind
use Rattle.layout.specs.Layout.{Hash, has, if_any, members, sum_of, Each, Row, row, segment_row, verification_row, metadata_row, SoundSegment, Matched}
use Rattle.layout.specs.Layout as tree
use Rattle.layout.proofs.Checks.{tail_zero_lem}
use Rattle.layout.proofs.Entries.{Ended, not_yet, Entry, entries_go, EntriesBack, entries_back}
use Rattle.layout.proofs.Places.{due_at, onward, onward_none, less_one}
use Rattle.layout.proofs.Rows.{Good, row_same, Goes, stay, stepped, goes_from, goes_cons}

-- ## Segments

pub segment_good : (tag : Tag) (n : ℕ) (p : Place) (s : tree.Segment) → SoundSegment s → Good tag (due_at (Segment n) p) (segment_row s)
unfolding fault_of kind_of
segment_good tag n p s h = record {
  size = refl;
  whole = record { hash = h.xorb; a = lit< tt; b = h.bytes; c = omega (arith, h.start_end, h.end); d = h.end };
  fault = rw (lt-ltb s.start s.end h.start_end);
  kind = refl;
}

pub segment_of_lem : (tag : Tag) (n : ℕ) (p : Place) (r : Row) → Good tag (due_at (Segment n) p) r → (s : tree.Segment) × (r ≡ segment_row s) × SoundSegment s
unfolding fault_of kind_of
segment_of_lem tag n p r g =
    let w : Words = r.words in
    let (e1, z1) = passed (eqb w.a 0) 7 _ (lit< tt) g.fault in
    let (e2, z2) = passed (ltb w.c w.d) 10 0 (lit< tt) z1 in (
      record { xorb = w.hash; bytes = w.b; start = w.c; end = w.d },
      row_same w.hash (sym g.kind) (eqb-true _ _ e1) refl refl refl,
      record { xorb = g.whole.hash; bytes = g.whole.b; start_end = ltb-true _ _ e2; end = g.whole.d },
    )

pub segment_next : (n : ℕ) (p : Place) (w : Words)
    → next_of (due_at (Segment (suc n)) p) w
    ≡ due_at (many n Segment (after_segments p.flags p.entries)) (onward 48 (count_by kind.Segment w) (after_segments p.flags p.entries) p)
unfolding next_of
segment_next n p w = ap (λ (k : ℕ). onward 48 (count_by kind.Segment w) (many k Segment (after_segments p.flags p.entries)) p) (less_one n)

abbrev pub segments : (tag : Tag) → Entry tag tree.Segment SoundSegment
segments tag = record {
  one = Segment;
  after = λ p. after_segments p.flags p.entries;
  count = count_by kind.Segment;
  row = segment_row;
  total = λ ss. counts 0 (length ss) 0 0 (sum_of (λ s. s.bytes) ss);
  size = λ n. refl;
  keeps = λ size more due p. refl;
  none = refl;
  adds = λ s ss. (refl, omega arith, refl, refl, refl);
  next = segment_next;
  good = segment_good tag;
  back = segment_of_lem tag;
}

-- ## Verifications

pub plain_whole : (h : Hash) → IsHash h → Whole (record { hash = h; a = 0; b = 0; c = 0; d = 0 })
plain_whole h k = record { hash = k; a = lit< tt; b = lit< tt; c = lit< tt; d = lit< tt }

-- a row with nothing but a hash
plain_of : (k : Kind) (r : Row) → Whole r.words → plain_fault r.words ≡ 0 → k ≡ r.kind → (h : Hash) × (r ≡ row k h 0 0 0 0) × IsHash h
plain_of k r w f e =
    let (e1, z1) = passed (tail_zero r.words) 7 0 (lit< tt) f in
    let (a, b, c, d) = tail_zero_lem r.words e1 in
    (r.words.hash, row_same r.words.hash (sym e) a b c d, w.hash)

verification_good : (tag : Tag) (n : ℕ) (p : Place) (h : Hash) → IsHash h → Good tag (due_at (Verification n) p) (verification_row h)
unfolding fault_of kind_of
verification_good tag n p h k = record { size = refl; whole = plain_whole h k; fault = refl; kind = refl }

verification_of : (tag : Tag) (n : ℕ) (p : Place) (r : Row) → Good tag (due_at (Verification n) p) r → (h : Hash) × (r ≡ verification_row h) × IsHash h
unfolding fault_of kind_of
verification_of tag n p r g = plain_of kind.Verification r g.whole g.fault g.kind

verification_next : (n : ℕ) (p : Place) (w : Words)
    → next_of (due_at (Verification (suc n)) p) w ≡ due_at (many n Verification (after_verifications p.flags)) (onward 48 nothing (after_verifications p.flags) p)
unfolding next_of
verification_next n p w = ap (λ (k : ℕ). onward 48 nothing (many k Verification (after_verifications p.flags)) p) (less_one n)

abbrev verifications : (tag : Tag) → Entry tag Hash IsHash
verifications tag = record {
  one = Verification;
  after = λ p. after_verifications p.flags;
  count = λ w. nothing;
  row = verification_row;
  total = λ hs. nothing;
  size = λ n. refl;
  keeps = λ size more due p. refl;
  none = refl;
  adds = λ h hs. (refl, refl, refl, refl, refl);
  next = verification_next;
  good = verification_good tag;
  back = verification_of tag;
}

-- the verifications, if bit 31 says that there are any
pub verifications_go : (tag : Tag) (p : Place) (v : Option (List Hash)) → bit31 p.flags ≡ has v → Matched v p.entries → Each IsHash (members v)
    → Goes tag (due_at (after_segments p.flags p.entries) p) (map verification_row (members v)) (onward (48 * length (members v)) nothing (after_verifications p.flags) p)
verifications_go tag p none e m ks =
    let d : Due = after_verifications p.flags in
    goes_from tag _ (due_at d p) _ [] (ap (λ (t : Bool). due_at (pick t (many p.entries Verification d) d) p) e) (stay tag (onward_none d p))
verifications_go tag p (some hs) e m ks =
    let d : Due = after_verifications p.flags in
    goes_from tag _ (due_at (many (length hs) Verification d) p) _ (map verification_row hs)
    (ap (λ (t : Bool). due_at (pick t (many p.entries Verification d) d) p) e ∙ ap (λ (n : ℕ). due_at (many n Verification d) p) (sym m))
    (entries_go (verifications tag) p hs ks)

pub record VerificationsBack (tag : Tag) (p q : Place) (rows : List Row) : Type 0 where
  pub hashes : Option (List Hash)
  pub bit : has hashes ≡ bit31 p.flags
  pub matched : Matched hashes p.entries
  pub sound : Each IsHash (members hashes)
  pub rest : List Row
  pub rows_are : rows ≡ map verification_row (members hashes) ++ rest
  pub goes : Goes tag (onward (48 * length (members hashes)) nothing (after_verifications p.flags) p) rest q

pub verifications_back : (tag : Tag) (p q : Place) (rows : List Row) → Ended q → Goes tag (due_at (after_segments p.flags p.entries) p) rows q → VerificationsBack tag p q rows
verifications_back tag p q rows z t = go (bit31 p.flags) refl t
  where
    d : Due
    d = after_verifications p.flags

    go : (b : Bool) → bit31 p.flags ≡ b → Goes tag (due_at (pick b (many p.entries Verification d) d) p) rows q → VerificationsBack tag p q rows
    go true e t =
        let o : EntriesBack (verifications tag) p.entries p q rows = entries_back (verifications tag) p.entries p q rows z t in
        record {
          hashes = some o.entries;
          bit = sym e;
          matched = o.count;
          sound = o.sound;
          rest = o.rest;
          rows_are = o.rows_are;
          goes = goes_from tag _ _ q o.rest (ap (λ (n : ℕ). onward (48 * n) nothing d p) o.count) o.goes;
        }
    go false e t =
        record { hashes = none; bit = sym e; matched = tt; sound = tt; rest = rows; rows_are = refl; goes = goes_from tag _ _ q rows (sym (onward_none d p)) t }

-- ## Metadata

metadata_good : (tag : Tag) (p : Place) (h : Hash) → IsHash h → Good tag (due_at Metadata p) (metadata_row h)
unfolding fault_of kind_of
metadata_good tag p h k = record { size = refl; whole = plain_whole h k; fault = refl; kind = refl }

metadata_of : (tag : Tag) (p : Place) (r : Row) → Good tag (due_at Metadata p) r → (h : Hash) × (r ≡ metadata_row h) × IsHash h
unfolding fault_of kind_of
metadata_of tag p r g = plain_of kind.Metadata r g.whole g.fault g.kind

metadata_next : (p : Place) (w : Words) → next_of (due_at Metadata p) w ≡ onward 48 nothing FileHead p
unfolding next_of
metadata_next p w = refl

-- the metadata record, if bit 30 says that there is one
pub metadata_go : (tag : Tag) (p : Place) (m : Option Hash) → bit30 p.flags ≡ has m → Each IsHash (if_any m)
    → Goes tag (due_at (after_verifications p.flags) p) (map metadata_row (if_any m)) (onward (48 * length (if_any m)) nothing FileHead p)
metadata_go tag p none e ks =
    goes_from tag _ (due_at FileHead p) _ [] (ap (λ (t : Bool). due_at (pick t Metadata FileHead) p) e) (stay tag (onward_none FileHead p))
metadata_go tag p (some h) e ks =
    goes_from tag _ (due_at Metadata p) _ (metadata_row h ∷ []) (ap (λ (t : Bool). due_at (pick t Metadata FileHead) p) e)
    (goes_cons tag _ (onward 48 nothing FileHead p) _ (metadata_row h) [] (metadata_good tag p h ks.0) (metadata_next p (metadata_row h).words) (stay tag refl))

pub record MetadataBack (tag : Tag) (p q : Place) (rows : List Row) : Type 0 where
  pub hash : Option Hash
  pub bit : has hash ≡ bit30 p.flags
  pub sound : Each IsHash (if_any hash)
  pub rest : List Row
  pub rows_are : rows ≡ map metadata_row (if_any hash) ++ rest
  pub goes : Goes tag (onward (48 * length (if_any hash)) nothing FileHead p) rest q

pub metadata_back : (tag : Tag) (p q : Place) (rows : List Row) → Ended q → Goes tag (due_at (after_verifications p.flags) p) rows q → MetadataBack tag p q rows
metadata_back tag p q rows z t = go (bit30 p.flags) refl rows t
  where
    go : (b : Bool) → bit30 p.flags ≡ b → (rows : List Row) → Goes tag (due_at (pick b Metadata FileHead) p) rows q → MetadataBack tag p q rows
    go false e rows t = record { hash = none; bit = sym e; sound = tt; rest = rows; rows_are = refl; goes = goes_from tag _ _ q rows (sym (onward_none FileHead p)) t }
    go true e [] t = absurd (not_yet tag Metadata p q refl t z)
    go true e (r ∷ rs) t =
        let (g, t1) = stepped tag (due_at Metadata p) q r rs t in
        let (h, x, k) = metadata_of tag p r g in
        record { hash = some h; bit = sym e; sound = (k, tt); rest = rs; rows_are = ap (λ (y : Row). y ∷ rs) x; goes = goes_from tag _ _ q rs (sym (metadata_next p r.words)) t1 }
