-- Where the walks begin: the rows of an accepted shard stand in its bytes, the file section from 48 on and the xorb section from the offset of the last
-- place on, because accepted bytes are those of a sound shard. Assumes nothing.
use Rattle.std.specs.Prelude.{Ok, Err}
use mathlib.Core.Path.{◌≡◌, sym, ap, ◌∙◌, subst}
use mathlib.Core.List.{List, []}
use Prim.Native.Nat.{ℕ, ◌≤◌}
use native.Mathlib.Omega.{arith}
use lib.ListN.{length}
use Rattle.words.specs.Le.{Bytes}
use Rattle.rules.specs.Rules.{limit}
use Rattle.rules.specs.declared.Place.{Place}
use Rattle.rules.specs.Verdicts.{verdict_at}
use Rattle.words.specs.declared.Refusal.{Refusal}
use Rattle.rules.specs.declared.Summary.{Summary}
use Rattle.rules.specs.Verdicts.{Verdict}
use Rattle.layout.specs.Layout.{Shard, rows_of, file_section, xorb_section, xorb_offset}
use Rattle.layout.specs.Blocks.{file_block, xorb_block, blocks_then, Stand}
use Rattle.layout.specs.Reach.{last_place}
use Rattle.layout.specs.Scan.{Found, found_in, IsAccepted, if_accepted}
use Rattle.layout.proofs.Answers.{if_refused}
use Rattle.layout.proofs.Last.{tag_size, Spelling, tree_of}
use Rattle.whole.proofs.Turns.{verdict_said}
use Rattle.finder.specs.Find.{chunk_in, chunk_found, file_in, file_found}
use Rattle.finder.proofs.Standing.{stand_behind, stand_shard}
use Rattle.finder.proofs.Heads.{file_heads, xorb_heads, head_room}
use Rattle.finder.proofs.Sections.{file_section_lem, xorb_section_lem}
use Rattle.finder.proofs.ChunkTree.{among_blocks, chunk_in_shard}
use Rattle.finder.proofs.ChunkWalk.{BlocksLeft}
use Rattle.finder.proofs.FileTree.{among_files, file_in_shard}
use Rattle.finder.proofs.FileWalk.{FilesLeft}

-- ## The shard of accepted bytes

-- what is found in the bytes of a tree is what is found in the tree
pub chunk_spelled : (tag bytes hash : List ℕ) (s : Shard) → Spelling tag bytes s → chunk_found tag bytes hash ≡ among_blocks hash 0 (xorb_offset s) s.xorbs
unfolding chunk_found
chunk_spelled tag bytes hash s o = ap (λ (f : Found). if_accepted Err f.verdict (λ s. chunk_in hash f.records)) o.found ∙ chunk_in_shard tag s hash

pub file_spelled : (tag bytes hash : List ℕ) (s : Shard) → Spelling tag bytes s → file_found tag bytes hash ≡ among_files hash 0 48 s.files
unfolding file_found
file_spelled tag bytes hash s o = ap (λ (f : Found). if_accepted Err f.verdict (λ s. file_in hash 0 f.records)) o.found ∙ file_in_shard tag s hash

-- the tree that they spell
pub record Accepted (tag bytes : List ℕ) : Type 0 where
  pub shard : Shard
  pub spelling : Spelling tag bytes shard
  pub rows : Stand bytes 0 (rows_of tag shard)
  pub short : length bytes ≤ limit

pub accepted : (tag bytes : List ℕ) → Bytes tag → Bytes bytes → IsAccepted (found_in tag bytes).verdict → Accepted tag bytes
accepted tag bytes t b a =
    let (s, o) = tree_of tag (tag_size tag bytes a) t bytes b a in
    record { shard = s; spelling = o; rows = stand_shard tag bytes s t o.spells; short = omega (arith, o.size, o.spells.sound.short) }

-- ## The walks

chunks_begin : (tag bytes hash : List ℕ) → Accepted tag bytes → BlocksLeft bytes hash (chunk_found tag bytes hash) (last_place tag bytes).offset.0 0
unfolding rows_of xorb_offset
chunks_begin tag bytes hash a =
    let s : Shard = a.shard in
    let t : Stand bytes (xorb_offset s) (blocks_then xorb_block s.xorbs []) = subst (Stand bytes (xorb_offset s)) (xorb_section_lem s) (stand_behind bytes 48 (file_section s) (xorb_section s) a.rows.2) in
    subst (λ (p : ℕ). BlocksLeft bytes hash (chunk_found tag bytes hash) p 0) (sym a.spelling.offset) (record {
      xorbs = s.xorbs;
      sound = a.spelling.spells.sound.xorbs;
      stand = t;
      says = sym (chunk_spelled tag bytes hash s a.spelling);
      room = head_room xorb_heads bytes (xorb_offset s) [] s.xorbs t;
      few = omega arith;
      short = a.short;
    })

files_begin : (tag bytes hash : List ℕ) → Accepted tag bytes → FilesLeft bytes hash (file_found tag bytes hash) 48 0
unfolding rows_of
files_begin tag bytes hash a =
    let s : Shard = a.shard in
    let t : Stand bytes 48 (blocks_then file_block s.files (xorb_section s)) = subst (Stand bytes 48) (file_section_lem s (xorb_section s)) a.rows.2 in
    record {
      files = s.files;
      later = xorb_section s;
      sound = a.spelling.spells.sound.files;
      stand = t;
      says = sym (file_spelled tag bytes hash s a.spelling);
      room = head_room file_heads bytes 48 (xorb_section s) s.files t;
      few = omega arith;
      short = a.short;
    }

-- ## By the verdict at the last place

module _ (tag bytes : List ℕ) (p : Place) (v : Verdict) (last : p ≡ last_place tag bytes) (said : v ≡ verdict_at p) where
  pub verdict_is : v ≡ (found_in tag bytes).verdict
  verdict_is = verdict_said tag bytes p v last said

  pub by_verdict : Bytes tag → Bytes bytes → (s : Summary) → v ≡ Ok s → Accepted tag bytes
  by_verdict t b s e = accepted tag bytes t b (subst IsAccepted (sym e ∙ verdict_is) tt)

  module _ (hash : List ℕ) where
    -- a refused shard gives its refusal
    pub chunk_refused : (r : Refusal) → v ≡ Err r → Err r ≡ chunk_found tag bytes hash
    unfolding chunk_found
    chunk_refused r e = sym (if_refused Err (found_in tag bytes).verdict _ r (sym verdict_is ∙ e))

    pub file_refused : (r : Refusal) → v ≡ Err r → Err r ≡ file_found tag bytes hash
    unfolding file_found
    file_refused r e = sym (if_refused Err (found_in tag bytes).verdict _ r (sym verdict_is ∙ e))

    -- an accepted one is walked
    pub chunks_from_lem : Bytes tag → Bytes bytes → (s : Summary) → v ≡ Ok s → BlocksLeft bytes hash (chunk_found tag bytes hash) p.offset.0 0
    chunks_from_lem t b s e = rw last (chunks_begin tag bytes hash (by_verdict t b s e))

    pub files_from : Bytes tag → Bytes bytes → (s : Summary) → v ≡ Ok s → FilesLeft bytes hash (file_found tag bytes hash) 48 0
    files_from t b s e = files_begin tag bytes hash (by_verdict t b s e)
