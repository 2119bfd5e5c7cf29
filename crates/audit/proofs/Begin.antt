-- Where the walk begins: the files of an accepted shard stand from 48 on and its xorbs from the offset of the last place on, and the answer is that of the
-- tree. Assumes nothing.
use Rattle.std.specs.Prelude.{Result, Ok, Err}
use mathlib.Core.Path.{◌≡◌, refl, sym, ap, ◌∙◌, subst}
use mathlib.Core.List.{List, []}
use Prim.Native.Nat.{ℕ}
use native.Mathlib.Omega.{arith}
use Rattle.words.specs.Le.{Bytes}
use Rattle.rules.specs.Verdicts.{verdict_at}
use Rattle.rules.specs.declared.Place.{Place}
use Rattle.words.specs.declared.Refusal.{Refusal}
use Rattle.rules.specs.declared.Summary.{Summary}
use Rattle.rules.specs.Verdicts.{Verdict}
use Rattle.layout.specs.Layout.{XorbBlock, Shard, rows_of, file_section, xorb_section, xorb_offset, records_of}
use Rattle.layout.specs.Blocks.{Stand}
use Rattle.layout.specs.Scan.{Found, found_in, if_accepted}
use Rattle.layout.specs.Reach.{last_place}
use Rattle.layout.proofs.Answers.{if_refused}
use Rattle.layout.proofs.Last.{Spelling}
use Rattle.finder.proofs.Standing.{stand_behind}
use Rattle.finder.proofs.Sections.{file_section_lem, xorb_section_lem}
use Rattle.finder.proofs.Begin.{Accepted, verdict_is, by_verdict}
use Rattle.audit.specs.Audit.{PlacedSegment, audit_in, placed_of, audit_for, placed_in, blocks_in, audit_of}
use Rattle.audit.specs.declared.Counts.{Counts}
use Rattle.audit.proofs.Tree.{placed_are, blocks_are}
use Rattle.audit.proofs.Counting.{none_before}
use Rattle.audit.proofs.Turns.{SegmentsLeft}

module _ (tag bytes : List ℕ) where
  pub audit_refused : (r : Refusal) → (found_in tag bytes).verdict ≡ Err r → audit_of tag bytes ≡ Err r
  unfolding audit_of
  audit_refused r e = if_refused Err (found_in tag bytes).verdict _ r e

  pub audit_shard : (s : Shard) → Spelling tag bytes s → audit_of tag bytes ≡ audit_for s
  unfolding audit_of
  audit_shard s o =
      ap (λ (f : Found). if_accepted Err f.verdict (λ t. audit_in (blocks_in f.records) (placed_in f.records))) o.found
      ∙ ap (λ (l : List PlacedSegment). audit_in (blocks_in (records_of tag s)) l) (placed_are tag s)
      ∙ ap (λ (l : List XorbBlock). audit_in l (placed_of s)) (blocks_are tag s)

  begins : Accepted tag bytes → SegmentsLeft bytes (last_place tag bytes).offset.0 (audit_of tag bytes) 48 48 0 0 0
  unfolding rows_of xorb_offset
  begins a =
      let s : Shard = a.shard in
      record {
        xorbs = s.xorbs;
        there = record {
          sound = a.spelling.spells.sound.xorbs;
          stand = rw (a.spelling.offset, ← xorb_section_lem s) (stand_behind bytes 48 (file_section s) (xorb_section s) a.rows.2);
        };
        segments = [];
        others = [];
        count = refl;
        sound = tt;
        rows = tt;
        files = s.files;
        later = xorb_section s;
        files_sound = a.spelling.spells.sound.files;
        stand = subst (Stand bytes 48) (file_section_lem s (xorb_section s)) a.rows.2;
        says = none_before s.xorbs (placed_of s) ∙ sym (audit_shard s a.spelling);
        few = omega arith;
        before = omega arith;
        short = a.short;
      }

  -- by the verdict at the last place
  module _ (p : Place) (v : Verdict) (last : p ≡ last_place tag bytes) (said : v ≡ verdict_at p) where
    pub refused_so : (r : Refusal) → v ≡ Err r → (x : Result Counts Refusal) → x ≡ Err r → x ≡ audit_of tag bytes
    refused_so r e x q = q ∙ sym (audit_refused r (sym (verdict_is tag bytes p v last said) ∙ e))

    pub begins_so : Bytes tag → Bytes bytes → (s : Summary) → v ≡ Ok s → SegmentsLeft bytes p.offset.0 (audit_of tag bytes) 48 48 0 0 0
    begins_so t b s e = rw last (begins (by_verdict tag bytes p v last said t b s e))
