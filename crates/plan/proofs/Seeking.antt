-- The walk over file heads, step by step: what is still to come has the file that is sought, because each head says how many records follow it.
-- Assumes nothing.
use Rattle.std.specs.Prelude.{Result, Option, Ok, Err, None}
use mathlib.Core.Path.{◌≡◌, sym, ap, ◌∙◌, subst}
use mathlib.Core.Bool.{true, false}
use mathlib.Core.Option.{some}
use mathlib.Core.List.{List, ◌∷◌, ◌++◌, map}
use Prim.Native.Nat.{ℕ, zero, suc, ◌+◌, ◌-◌, ◌*◌, ◌≤◌, ◌<◌}
use native.Mathlib.Nat.{sub-zero}
use native.Mathlib.Omega.{arith}
use lib.ListN.{length, take, drop}
use Rattle.words.specs.Le.{Bytes}
use Rattle.words.specs.Record.{words_at, is_ones}
use Rattle.words.specs.declared.Words.{Words}
use Rattle.rules.specs.Rules.{limit, further_records}
use Rattle.rules.specs.Verdicts.{verdict_at}
use Rattle.rules.specs.declared.Place.{Place}
use Rattle.words.specs.declared.Refusal.{Refusal}
use Rattle.rules.specs.declared.Summary.{Summary}
use Rattle.rules.specs.Verdicts.{Verdict}
use Rattle.layout.specs.Layout.{Segment, FileBlock, Row, Each, segment_row, rows_of, xorb_section, SoundFile}
use Rattle.layout.specs.Blocks.{other_rows, file_block, blocks_then, Stand, segment_of}
use Rattle.layout.specs.Scan.{found_in, IsAccepted}
use Rattle.layout.specs.Reach.{last_place}
use Rattle.layout.proofs.Leading.{segments_first}
use Rattle.finder.proofs.Sections.{file_section_lem}
use Rattle.finder.proofs.Heads.{file_heads, Head, head_room, at_bookend, at_head, next_due}
use Rattle.finder.proofs.Begin.{Accepted, accepted, verdict_is}
use Rattle.plan.specs.Plan.{segments_at, segments_in}
use Rattle.plan.specs.Walk.{Seeks}
use Rattle.plan.specs.declared.segments.Segments.{Segments}
use Rattle.plan.proofs.Records.{records, stand_within, stand_read}
use Rattle.plan.proofs.Tree.{in_bytes}

-- what is still to come at a position, with so many files to pass: files, a bookend, and the rest
pub record HeadsLeft (tag bytes : List ℕ) (file at left : ℕ) : Type 0 where
  pub accepted : IsAccepted (found_in tag bytes).verdict
  pub files : List FileBlock
  pub later : List Row
  pub sound : Each SoundFile files
  pub stand : Stand bytes at (blocks_then file_block files later)
  pub says : segments_in file (found_in tag bytes).records ≡ segments_at left files
  pub short : length bytes ≤ limit

-- one file is passed
one_passed : (n : ℕ) → 0 < n → (f : FileBlock) (fs : List FileBlock) → segments_at n (f ∷ fs) ≡ segments_at (n - 1) fs
one_passed zero z f fs = absurd (omega arith)
one_passed (suc n) z f fs = let k : suc n - 1 ≡ n = omega arith in rw k

module _ (tag bytes : List ℕ) (file at left : ℕ) (c : HeadsLeft tag bytes file at left) where
  -- a record is there
  pub heads_room : at + 48 ≤ length bytes
  heads_room = head_room file_heads bytes at c.later c.files c.stand

  -- what is known of the files that are left
  abbrev Says : List FileBlock → Type 0
  Says fs = segments_in file (found_in tag bytes).records ≡ segments_at left fs

  module _ (w : Words) (read : w ≡ words_at bytes at) where
    -- the bookend: there is no such file
    pub no_head : is_ones w.hash ≡ true → Seeks tag bytes file (Ok None)
    no_head e = (c.accepted, subst Says (at_bookend file_heads bytes at c.later w read c.files c.sound c.stand e) c.says)

    module _ (e : is_ones w.hash ≡ false) where
      head : Head file_heads bytes at c.later w read c.files
      head = at_head file_heads bytes at c.later w read c.files c.sound c.stand e

      says : Says (head.block ∷ head.others)
      says = subst Says head.are c.says

      -- its segments are behind it
      abbrev segments : List Segment
      segments = head.block.segments

      abbrev others : List Row
      others = other_rows head.block ++ blocks_then file_block head.others c.later

      count : w.b ≡ length segments
      count = ap (λ (v : Words). v.b) head.words

      rows : Stand bytes (at + 48) (map segment_row segments ++ others)
      rows = subst (Stand bytes (at + 48)) (segments_first head.block (blocks_then file_block head.others c.later)) head.stand

      pub segments_room : at + 48 + 48 * w.b ≤ length bytes
      segments_room = stand_within bytes (at + 48) w.b segments others heads_room count rows

      pub head_hit : left ≡ 0 → (part : List ℕ) → part ≡ take (at + 48 + 48 * w.b - (at + 48)) (drop (at + 48) bytes)
          → IsAccepted (found_in tag bytes).verdict × (segments_in file (found_in tag bytes).records ≡ some (map segment_of (records part)))
      head_hit z part e = (
        c.accepted,
        says ∙ ap (λ (m : ℕ). segments_at m (head.block ∷ head.others)) z ∙ ap some (sym (stand_read bytes (at + 48) w.b segments others heads_room count rows part e)),
      )

      -- another one is sought: the next head is behind its records
      pub next_head : (m others_left : ℕ) → 0 < left → m ≡ further_records w.a w.b → others_left ≡ left - 1 → HeadsLeft tag bytes file (at + 48 * (1 + m)) others_left
      next_head m others_left z u e = rw e (record {
        accepted = c.accepted;
        files = head.others;
        later = c.later;
        sound = head.sound;
        stand = next_due file_heads bytes at c.later w read c.files head (at + 48 * (1 + m)) (omega arith);
        says = says ∙ one_passed left z head.block head.others;
        short = c.short;
      })

-- ## Where it begins

heads_begin : (tag bytes : List ℕ) (file : ℕ) → Bytes tag → Bytes bytes → IsAccepted (found_in tag bytes).verdict → HeadsLeft tag bytes file 48 file
unfolding rows_of
heads_begin tag bytes file t b y =
    let a : Accepted tag bytes = accepted tag bytes t b y in
    record {
      accepted = y;
      files = a.shard.files;
      later = xorb_section a.shard;
      sound = a.spelling.spells.sound.files;
      stand = subst (Stand bytes 48) (file_section_lem a.shard (xorb_section a.shard)) a.rows.2;
      says = in_bytes tag bytes a.shard file a.spelling;
      short = a.short;
    }

-- by the verdict at the last place
module _ (tag bytes : List ℕ) (p : Place) (v : Verdict) (last : p ≡ last_place tag bytes) (said : v ≡ verdict_at p) where
  pub seek_refused : (r : Refusal) → v ≡ Err r → (file : ℕ) (x : Result (Option Segments) Refusal) → x ≡ Err r → Seeks tag bytes file x
  seek_refused r e file x q = rw q (sym (verdict_is tag bytes p v last said) ∙ e)

  pub seek_begins : (file : ℕ) → Bytes tag → Bytes bytes → (s : Summary) → v ≡ Ok s → HeadsLeft tag bytes file 48 (file - 0)
  seek_begins file t b s e = rw sub-zero (heads_begin tag bytes file t b (subst IsAccepted (sym e ∙ verdict_is tag bytes p v last said) tt))
