-- The walk over file blocks, step by step: what is still to come gives the answer for the whole, because what was passed had not that hash and each
-- head says how many records follow it. Assumes nothing.
use Rattle.std.specs.Prelude.{Ok, None}
use mathlib.Core.Path.{◌≡◌, sym, ap, ◌∙◌, subst}
use mathlib.Core.Bool.{true, false}
use mathlib.Core.List.{List, ◌∷◌}
use Prim.Native.Nat.{ℕ, ◌+◌, ◌*◌, ◌≤◌}
use native.Mathlib.Omega.{arith}
use lib.ListN.{length}
use Rattle.words.specs.Record.{words_at, same_hash, is_ones}
use Rattle.words.specs.declared.Words.{Words}
use Rattle.rules.specs.Rules.{limit, further_records}
use Rattle.layout.specs.Layout.{FileBlock, Row, Each, file_rows, SoundFile}
use Rattle.layout.specs.Blocks.{file_block, blocks_then, Stand}
use Rattle.finder.specs.Find.{FileAnswer, the_file}
use Rattle.finder.proofs.FileTree.{among_files}
use Rattle.finder.proofs.Heads.{file_heads, Head, head_room, at_bookend, at_head, next_due}

-- what is still to come at a position, behind so many files
pub record FilesLeft (bytes hash : List ℕ) (answer : FileAnswer) (at number : ℕ) : Type 0 where
  pub files : List FileBlock
  pub later : List Row
  pub sound : Each SoundFile files
  pub stand : Stand bytes at (blocks_then file_block files later)
  pub says : among_files hash number at files ≡ answer
  pub room : at + 48 ≤ length bytes
  pub few : 48 * number ≤ at
  pub short : length bytes ≤ limit

module _ (bytes hash : List ℕ) (answer : FileAnswer) (at n : ℕ) (c : FilesLeft bytes hash answer at n) where
  -- what is known of the files that are left
  abbrev Says : List FileBlock → Type 0
  Says fs = among_files hash n at fs ≡ answer

  module _ (w : Words) (read : w ≡ words_at bytes at) where
    -- the bookend: there is none
    pub no_file_left : is_ones w.hash ≡ true → Ok None ≡ answer
    no_file_left e = subst Says (at_bookend file_heads bytes at c.later w read c.files c.sound c.stand e) c.says

    module _ (e : is_ones w.hash ≡ false) where
      head : Head file_heads bytes at c.later w read c.files
      head = at_head file_heads bytes at c.later w read c.files c.sound c.stand e

      says : Says (head.block ∷ head.others)
      says = subst Says head.are c.says

      same : same_hash w.hash hash ≡ same_hash head.block.hash hash
      same = ap (λ (v : Words). same_hash v.hash hash) head.words

      -- a head with that hash
      pub file_hit_lem : same_hash w.hash hash ≡ true → the_file (record { 0 = n }) (record { 0 = at }) ≡ answer
      file_hit_lem q = rw (sym same ∙ q) at says

      -- a head with another one: the next is behind its records
      pub next_file : (m : ℕ) → same_hash w.hash hash ≡ false → m ≡ further_records w.a w.b → FilesLeft bytes hash answer (at + 48 * (1 + m)) (n + 1)
      unfolding file_rows
      next_file m q u =
          let p : at + 48 * length (file_rows head.block) ≡ at + 48 * (1 + m) = omega (arith, head.entries) in
          let k : among_files hash (n + 1) (at + 48 * length (file_rows head.block)) head.others ≡ answer = rw (sym same ∙ q) at says in
          let t : Stand bytes (at + 48 * (1 + m)) (blocks_then file_block head.others c.later) = next_due file_heads bytes at c.later w read c.files head (at + 48 * (1 + m)) (omega arith) in
          record {
            files = head.others;
            later = c.later;
            sound = head.sound;
            stand = t;
            says = subst (λ (x : ℕ). among_files hash (n + 1) x head.others ≡ answer) p k;
            room = head_room file_heads bytes (at + 48 * (1 + m)) c.later head.others t;
            few = omega (arith, c.few);
            short = c.short;
          }
