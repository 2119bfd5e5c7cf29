-- The walk over file heads and their segments, step by step: what is still to come gives the answer for the whole, because those passed were not false and
-- are counted. Assumes nothing.
use Rattle.std.specs.Prelude.{Result, Ok, Err, Option, Some, None}
use Rattle.words.specs.declared.Refusal.{Refusal}
use mathlib.Core.Path.{◌≡◌, refl, sym, ap, ◌∙◌, subst}
use mathlib.Core.Bool.{Bool, true, false}
use mathlib.Core.List.{List, [], ◌∷◌, ◌++◌, map}
use Prim.Native.Nat.{ℕ, ◌+◌, ◌-◌, ◌*◌, ◌≤◌, ◌<◌}
use native.Mathlib.Omega.{arith}
use lib.ListN.{length}
use Rattle.words.specs.Record.{words_at, is_ones}
use Rattle.words.specs.declared.Words.{Words}
use Rattle.rules.specs.Rules.{limit, further_records}
use Rattle.layout.specs.Layout.{Segment, FileBlock, XorbBlock, Row, Each, file_rows, segment_row, SoundSegment, SoundFile}
use Rattle.layout.specs.Blocks.{other_rows, file_block, blocks_then, Stand, segment_of}
use Rattle.layout.proofs.FilesForth.{length_file}
use Rattle.layout.proofs.Leading.{segments_first}
use Rattle.finder.proofs.Heads.{file_heads, Head, head_room, at_bookend, at_head, next_due}
use Rattle.audit.specs.Audit.{PlacedSegment, first_false, false_at, placed_behind, placed_from}
use Rattle.audit.specs.declared.Counts.{Counts}
use Rattle.audit.specs.Walk.{compared_in, XorbsAt, Comparable, Compares}
use Rattle.audit.proofs.Counting.{audit_from, pass_unlisted, pass_true, stop_false}

-- at a position so many segments of a file, of which the next head is due at another; then files; so many segments of either kind came before
pub record SegmentsLeft (bytes : List ℕ) (from : ℕ) (answer : Result Counts Refusal) (next at left listed unlisted : ℕ) : Type 0 where
  pub xorbs : List XorbBlock
  pub there : XorbsAt bytes from xorbs
  pub segments : List Segment
  pub others : List Row
  pub count : length segments ≡ left
  pub sound : Each SoundSegment segments
  pub rows : Stand bytes at (map segment_row segments ++ others)
  pub files : List FileBlock
  pub later : List Row
  pub files_sound : Each SoundFile files
  pub stand : Stand bytes next (blocks_then file_block files later)
  pub says : audit_from xorbs listed unlisted (placed_behind at segments ++ placed_from next files) ≡ answer
  pub few : 48 * (listed + unlisted) ≤ at
  pub before : at + 48 * left ≤ next
  pub short : length bytes ≤ limit

-- ## Where a head is due

module _ (bytes : List ℕ) (from : ℕ) (answer : Result Counts Refusal) (at l u : ℕ) (c : SegmentsLeft bytes from answer at at 0 l u) where
  -- what is known of the files that are left
  abbrev Says : List FileBlock → Type 0
  Says fs = audit_from c.xorbs l u (placed_from at fs) ≡ answer

  says : Says c.files
  says = go c.segments c.count c.says
    where
      go : (ss : List Segment) → length ss ≡ 0 → audit_from c.xorbs l u (placed_behind at ss ++ placed_from at c.files) ≡ answer → Says c.files
      go [] n a = a
      go (s ∷ ss) n a = absurd (omega arith)

  pub file_room : at + 48 ≤ length bytes
  file_room = head_room file_heads bytes at c.later c.files c.stand

  module _ (w : Words) (read : w ≡ words_at bytes at) where
    -- the bookend: these are the counts
    pub all_passed : is_ones w.hash ≡ true → Ok (record { listed = l; unlisted = u }) ≡ answer
    unfolding first_false
    all_passed e =
        let n : l ≡ l + 0 = omega arith in
        let m : u ≡ u + 0 = omega arith in
        ap (λ (x : ℕ). Ok (record { listed = x; unlisted = u })) n ∙ ap (λ (x : ℕ). Ok (record { listed = l + 0; unlisted = x })) m
        ∙ subst Says (at_bookend file_heads bytes at c.later w read c.files c.files_sound c.stand e) says

    -- a head: its segments come first
    pub into_file_lem : is_ones w.hash ≡ false → SegmentsLeft bytes from answer (at + 48 * (1 + further_records w.a w.b)) (at + 48) (w.b - 0) l u
    unfolding file_rows
    into_file_lem e =
        let h : Head file_heads bytes at c.later w read c.files = at_head file_heads bytes at c.later w read c.files c.files_sound c.stand e in
        let ss : List Segment = h.block.segments in
        let k : length (file_rows h.block) ≡ 1 + further_records w.a w.b = omega (arith, h.entries) in
        record {
          xorbs = c.xorbs;
          there = c.there;
          segments = ss;
          others = other_rows h.block ++ blocks_then file_block h.others c.later;
          count = omega (arith, ap (λ (v : Words). v.b) h.words);
          sound = h.is_sound.segments;
          rows = subst (Stand bytes (at + 48)) (segments_first h.block (blocks_then file_block h.others c.later)) h.stand;
          files = h.others;
          later = c.later;
          files_sound = h.sound;
          stand = next_due file_heads bytes at c.later w read c.files h (at + 48 * (1 + further_records w.a w.b)) (omega arith);
          says = subst (λ (x : ℕ). audit_from c.xorbs l u (placed_behind (at + 48) ss ++ placed_from (at + 48 * x) h.others) ≡ answer) k (subst Says h.are says);
          few = omega (arith, c.few);
          before = omega (arith, length_file h.block, k, ap (λ (v : Words). v.b) h.words);
          short = c.short;
        }

-- ## At a segment

module _ (bytes : List ℕ) (from : ℕ) (answer : Result Counts Refusal) (next at i n l u : ℕ) where
  -- behind the last one of its file
  pub file_over : n ≤ i → SegmentsLeft bytes from answer next at (n - i) l u → (p : ℕ) → p ≡ next → SegmentsLeft bytes from answer p p 0 l u
  file_over z c p e = rw e (record {
    xorbs = c.xorbs;
    there = c.there;
    segments = [];
    others = [];
    count = refl;
    sound = tt;
    rows = tt;
    files = c.files;
    later = c.later;
    files_sound = c.files_sound;
    stand = c.stand;
    says = go c.segments c.count c.says;
    few = omega (arith, c.few, c.before);
    before = omega arith;
    short = c.short;
  })
    where
      go : (ss : List Segment) → length ss ≡ n - i → audit_from c.xorbs l u (placed_behind at ss ++ placed_from next c.files) ≡ answer → audit_from c.xorbs l u (placed_from next c.files) ≡ answer
      go [] k a = a
      go (s ∷ ss) k a = absurd (omega arith)

  module _ (more : i < n) (c : SegmentsLeft bytes from answer next at (n - i) l u) where
    -- the first of them, and the others
    record First : Type 0 where
      segment : Segment
      segments : List Segment
      count : length segments ≡ n - (i + 1)
      is_sound : SoundSegment segment
      sound : Each SoundSegment segments
      words : words_at bytes at ≡ (segment_row segment).words
      room : at + 48 ≤ length bytes
      rows : Stand bytes (at + 48) (map segment_row segments ++ c.others)
      says : audit_from c.xorbs l u (record { at = at; segment = segment } ∷ (placed_behind (at + 48) segments ++ placed_from next c.files)) ≡ answer

    first : First
    first = go c.segments c.count c.sound c.rows c.says
      where
        go : (ss : List Segment) → length ss ≡ n - i → Each SoundSegment ss → Stand bytes at (map segment_row ss ++ c.others)
            → audit_from c.xorbs l u (placed_behind at ss ++ placed_from next c.files) ≡ answer → First
        go [] k h t a = absurd (omega arith)
        go (s ∷ ss) k (h, hs) (w, r, t) a = record { segment = s; segments = ss; count = omega arith; is_sound = h; sound = hs; words = w; room = r; rows = t; says = a }

    pub segment_room : at + 48 ≤ length bytes
    segment_room = first.room

    module _ (w : Words) (read : w ≡ words_at bytes at) where
      pub comparable : Comparable bytes from w
      comparable =
          let d = first.is_sound.start_end in
          record { blocks = c.xorbs; there = c.there; start_end = rw (read ∙ first.words) d; short = c.short }

      module _ (r : Option Bool) (q : Compares bytes from w r) where
        -- what is answered for what was read is answered for the segment in the tree
        is : r ≡ compared_in c.xorbs first.segment
        is = q c.xorbs c.there ∙ ap (λ (v : Words). compared_in c.xorbs (segment_of v)) (read ∙ first.words)

        pub false_one : r ≡ Some false → Err (false_at at) ≡ answer
        false_one e = sym (stop_false c.xorbs l u _ _ (sym e ∙ is)) ∙ first.says

        -- it is passed, and counted
        abbrev Passed : ℕ → ℕ → Type 0
        Passed m v = SegmentsLeft bytes from answer next (at + 48) (n - (i + 1)) m v

        abbrev rest : List PlacedSegment
        rest = placed_behind (at + 48) first.segments ++ placed_from next c.files

        passed : (m v : ℕ) → m + v ≡ l + u + 1 → audit_from c.xorbs l u (record { at = at; segment = first.segment } ∷ rest) ≡ audit_from c.xorbs m v rest → Passed m v
        passed m v k e = record {
          xorbs = c.xorbs;
          there = c.there;
          segments = first.segments;
          others = c.others;
          count = first.count;
          sound = first.sound;
          rows = first.rows;
          files = c.files;
          later = c.later;
          files_sound = c.files_sound;
          stand = c.stand;
          says = sym e ∙ first.says;
          few = omega (arith, c.few);
          before = omega (arith, c.before);
          short = c.short;
        }

        pub next_unlisted : r ≡ None → (k : Counts) → k ≡ record { listed = l; unlisted = u + 1 } → (p : ℕ) → p ≡ at + 48 → SegmentsLeft bytes from answer next p (n - (i + 1)) k.listed k.unlisted
        next_unlisted e k y p q = rw (q, y) (passed l (u + 1) (omega arith) (pass_unlisted c.xorbs l u _ _ (sym e ∙ is)))

        pub next_true : r ≡ Some true → (k : Counts) → k ≡ record { listed = l + 1; unlisted = u } → (p : ℕ) → p ≡ at + 48 → SegmentsLeft bytes from answer next p (n - (i + 1)) k.listed k.unlisted
        next_true e k y p q = rw (q, y) (passed (l + 1) u (omega arith) (pass_true c.xorbs l u _ _ (sym e ∙ is)))
