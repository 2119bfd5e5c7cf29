-- From the tree to the rules, file blocks: the rows of sound files that agree are good, one after the other,
-- because a head says as many further records as its block has. Assumes nothing.
use mathlib.Core.Path.{◌≡◌, refl, ap, ◌∙◌}
use mathlib.Core.Option.{Option, none, some}
use mathlib.Core.Bool.{true, ◌&&◌}
use mathlib.Core.List.{List, [], ◌∷◌, ◌++◌, map}
use Prim.Native.Nat.{ℕ, suc, ◌+◌, ◌*◌, ◌≤◌}
use native.Mathlib.Omega.{arith}
use lib.ListN.{length, length-append, length-map}
use lib.Dec.{eqb, lit<}
use borrow.Author.Tests.{le-leb}
use Rattle.words.specs.declared.Tag.{Tag}
use Rattle.words.proofs.Records.{ones_false}
use Rattle.rules.specs.Rules.{limit, no_other_bit, further_records, agrees, fits, fault_of, kind_of, many, after_verifications, after_segments, counts, nothing, with_file, next_of}
use Rattle.rules.specs.declared.Totals.{Totals}
use Rattle.rules.specs.declared.Place.{Place}
use Rattle.rules.specs.declared.Due.TheVariants.{FileHead, Segment}
use Rattle.rules.specs.Rules as rules
use Rattle.layout.specs.Layout.{joined, Hash, FileBlock, has, if_any, members, sum_of, Each, flags_of, file_head_row, segment_row, verification_row, file_rows, Matched, SoundFile}
use Rattle.layout.specs.Layout as tree
use Rattle.layout.proofs.FileEntries.{segments, verifications_go, metadata_go}
use Rattle.layout.proofs.Checks.{pass3}
use Rattle.layout.proofs.Flags.{flags_by, flags_31, flags_30, flags_other, flags_lt, AgreeFrom, agree_head, agree_tail}
use Rattle.layout.proofs.Entries.{entries_go}
use Rattle.layout.proofs.Places.{due_at, onward, onward_then, onward_none, into_file}
use Rattle.layout.proofs.Rows.{Good, Goes, stay, goes_append, goes_to, goes_cons}

pub length_file : (f : FileBlock) → length (file_rows f) ≡ suc (length f.segments + (length (members f.verifications) + length (if_any f.metadata)))
unfolding file_rows
length_file f = simp (length-append, length-map)

pub further : (f : FileBlock) → Matched f.verifications (length f.segments)
    → further_records (flags_of f) (length f.segments) ≡ length f.segments + (length (members f.verifications) + length (if_any f.metadata))
further f m = go f.verifications f.metadata m
  where
    n : ℕ
    n = length f.segments

    go : (v : Option (List Hash)) (u : Option Hash) → Matched v n → further_records (flags_by (has v) (has u)) n ≡ n + (length (members v) + length (if_any u))
    go none none m = omega arith
    go none (some u) m = omega arith
    go (some v) none m = omega (arith, m)
    go (some v) (some u) m = omega (arith, m)

file_good : (tag : Tag) (p : Place) (f : FileBlock) → SoundFile f → agrees p (flags_of f) ≡ true
    → p.at.0 + 48 * length (file_rows f) + 96 + rules.footer_size p.footer ≤ limit → Good tag (due_at FileHead p) (file_head_row f)
unfolding fault_of kind_of
file_good tag p f h a l = record {
  size = refl;
  whole = record { hash = h.hash; a = flags_lt (has f.verifications) (has f.metadata); b = omega (arith, length_file f); c = lit< tt; d = lit< tt };
  fault = rw (ones_false f.hash h.hash h.not_ones)
      (pass3 (no_other_bit (flags_of f) && eqb 0 0 && eqb 0 0) (agrees p (flags_of f)) (fits p.at.0 (further_records (flags_of f) (length f.segments)) (96 + rules.footer_size p.footer)) 7 9 6
      (rw (flags_other (has f.verifications) (has f.metadata)))
      a
      (le-leb (p.at.0 + 48 + 48 * further_records (flags_of f) (length f.segments) + (96 + rules.footer_size p.footer)) limit (omega (arith, length_file f, further f h.matched))));
  kind = rw (ones_false f.hash h.hash h.not_ones);
}

file_next : (p : Place) (f : FileBlock) → SoundFile f → next_of (due_at FileHead p) (file_head_row f).words ≡ into_file (flags_of f) (length f.segments) p
unfolding next_of
file_next p f h = rw (ones_false f.hash h.hash h.not_ones)

file_go : (tag : Tag) (p : Place) (f : FileBlock) → SoundFile f → agrees p (flags_of f) ≡ true
    → p.at.0 + 48 * length (file_rows f) + 96 + rules.footer_size p.footer ≤ limit
    → Goes tag (due_at FileHead p) (file_rows f)
    (onward (48 * length (file_rows f)) (counts 1 (length f.segments) 0 0 (sum_of (λ g. g.bytes) f.segments)) FileHead (with_file (flags_of f) (length f.segments) p))
unfolding file_rows
file_go tag p f h a l =
    let n : ℕ = length f.segments in
    let v : ℕ = length (members f.verifications) in
    let m : ℕ = length (if_any f.metadata) in
    let b : ℕ = sum_of (λ (g : tree.Segment). g.bytes) f.segments in
    let w : Place = with_file (flags_of f) n p in
    let p1 : Place = onward 48 (counts 1 0 0 0 0) FileHead w in
    let p2 : Place = onward (48 * n) (counts 0 n 0 0 b) FileHead p1 in
    let p3 : Place = onward (48 * v) nothing FileHead p2 in
    let e2 : p2 ≡ onward (48 + 48 * n) (counts 1 n 0 0 b) FileHead w = onward_then 48 (48 * n) (48 + 48 * n) (counts 1 0 0 0 0) (counts 0 n 0 0 b) (counts 1 n 0 0 b) FileHead FileHead w refl (omega arith) in
    let e3 : p3 ≡ onward (48 + 48 * n + 48 * v) (counts 1 n 0 0 b) FileHead w = ap (onward (48 * v) nothing FileHead) e2
    ∙ onward_then (48 + 48 * n) (48 * v) (48 + 48 * n + 48 * v) (counts 1 n 0 0 b) nothing (counts 1 n 0 0 b) FileHead FileHead w refl (omega arith) in
    let k : length (file_rows f) ≡ suc (n + (v + m)) = length_file f in
    let e4 : onward (48 * m) nothing FileHead p3 ≡ onward (48 * length (file_rows f)) (counts 1 n 0 0 b) FileHead w = ap (onward (48 * m) nothing FileHead) e3
    ∙ onward_then (48 + 48 * n + 48 * v) (48 * m) (48 * length (file_rows f)) (counts 1 n 0 0 b) nothing (counts 1 n 0 0 b) FileHead FileHead w (omega arith) (omega arith) in
    goes_cons tag _ (due_at (many n Segment (after_segments (flags_of f) n)) p1) _ (file_head_row f) _ (file_good tag p f h a l) (file_next p f h)
    (goes_append tag _ (due_at (after_segments (flags_of f) n) p2) _ (map segment_row f.segments) _ (entries_go (segments tag) p1 f.segments h.segments)
    (goes_append tag _ (due_at (after_verifications (flags_of f)) p3) _ (map verification_row (members f.verifications)) _
    (verifications_go tag p2 f.verifications (flags_31 (has f.verifications) (has f.metadata)) h.matched h.verifications)
    (goes_to tag _ _ _ _ (metadata_go tag p3 f.metadata (flags_30 (has f.verifications) (has f.metadata)) h.metadata) e4)))

abbrev pub file_totals : List FileBlock → Totals
file_totals fs = counts (length fs) (sum_of (λ f. length f.segments) fs) 0 0 (sum_of (λ f. sum_of (λ g. g.bytes) f.segments) fs)

-- the last file's flags and entries are remembered
pub record FilesGo (tag : Tag) (p : Place) (fs : List FileBlock) : Type 0 where
  pub flags : ℕ
  pub entries : ℕ
  pub goes : Goes tag (due_at FileHead p) (joined file_rows fs) (onward (48 * length (joined file_rows fs)) (file_totals fs) FileHead (with_file flags entries p))

pub files_go : (tag : Tag) (p : Place) (fs : List FileBlock) → Each SoundFile fs → AgreeFrom p.totals.files p.flags fs
    → p.at.0 + 48 * length (joined file_rows fs) + 96 + rules.footer_size p.footer ≤ limit → FilesGo tag p fs
files_go tag p [] hs a l = record { flags = p.flags; entries = p.entries; goes = stay tag (onward_none FileHead p) }
files_go tag p (f ∷ fs) (h, hs) a l =
    let n : ℕ = length f.segments in
    let b : ℕ = sum_of (λ (g : tree.Segment). g.bytes) f.segments in
    let k : length (file_rows f ++ joined file_rows fs) ≡ length (file_rows f) + length (joined file_rows fs) = length-append (file_rows f) (joined file_rows fs) in
    let q : Place = onward (48 * length (file_rows f)) (counts 1 n 0 0 b) FileHead (with_file (flags_of f) n p) in
    let o : FilesGo tag q fs = files_go tag q fs hs (agree_tail p.totals.files p.flags f fs a) (omega arith) in
    record {
      flags = o.flags;
      entries = o.entries;
      goes = goes_append tag _ q _ (file_rows f) _ (file_go tag p f h (agree_head p.totals.files p.flags f fs a) (omega arith))
          (goes_to tag _ _ _ (joined file_rows fs) o.goes
          (onward_then (48 * length (file_rows f)) (48 * length (joined file_rows fs)) (48 * length (file_rows f ++ joined file_rows fs))
          (counts 1 n 0 0 b) (file_totals fs) (file_totals (f ∷ fs)) FileHead FileHead (with_file o.flags o.entries p) (omega arith) (omega arith)));
    }
