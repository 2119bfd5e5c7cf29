-- The walk over xorb heads, step by step: the first block of that hash is among those still to come, because those passed had another one and each head
-- says how many chunks follow it. Assumes nothing.
use Rattle.std.specs.Prelude.{Option, Some, None}
use mathlib.Core.Path.{◌≡◌, refl, sym, ap, ◌∙◌}
use mathlib.Core.Bool.{Bool, true, false}
use mathlib.Core.Option.{some}
use mathlib.Core.List.{List, []}
use Prim.Native.Nat.{ℕ, ◌+◌, ◌-◌, ◌*◌, ◌≤◌, ◌<◌}
use lib.ListN.{length, take, drop}
use Rattle.words.specs.Checks.{pick}
use Rattle.words.specs.Record.{words_at, same_hash, is_ones}
use Rattle.words.specs.declared.Words.{Words}
use Rattle.layout.specs.Layout.{XorbBlock}
use Rattle.layout.specs.Blocks.{segment_of}
use Rattle.finder.proofs.Heads.{xorb_heads, Head, head_room, at_bookend, at_head, next_due}
use Rattle.audit.specs.Walk.{compared_with, compared_in, XorbsAt, Compares}
use Rattle.audit.proofs.Sums.{true_by, true_is}

-- blocks stand at a position, and whatever stood where the walk began, these give its answer
pub record BlocksLeft (bytes : List ℕ) (from at : ℕ) (segment : Words) : Type 0 where
  pub some_left : (xs : List XorbBlock) × XorbsAt bytes at xs
  pub says : (ys : List XorbBlock) → XorbsAt bytes from ys → (xs : List XorbBlock) × XorbsAt bytes at xs × (compared_in ys (segment_of segment) ≡ compared_in xs (segment_of segment))

pub left_begins : (bytes : List ℕ) (from : ℕ) (segment : Words) (xs : List XorbBlock) → XorbsAt bytes from xs → BlocksLeft bytes from from segment
left_begins bytes from segment xs h = record { some_left = (xs, h); says = λ ys b. (ys, b, refl) }

module _ (bytes : List ℕ) (from at : ℕ) (segment : Words) (c : BlocksLeft bytes from at segment) where
  abbrev answer : List XorbBlock → Option Bool
  answer xs = compared_in xs (segment_of segment)

  -- a record is there
  pub left_room : at + 48 ≤ length bytes
  left_room = let (xs, h) = c.some_left in head_room xorb_heads bytes at [] xs h.stand

  module _ (head : Words) (read : head ≡ words_at bytes at) where
    -- the bookend: it is not listed
    pub not_listed : is_ones head.hash ≡ true → Compares bytes from segment None
    unfolding compared_in
    not_listed o ys b = let (xs, h, e) = c.says ys b in sym (e ∙ ap answer (at_bookend xorb_heads bytes at [] head read xs h.sound h.stand o))

    module _ (o : is_ones head.hash ≡ false) where
      this : (xs : List XorbBlock) → XorbsAt bytes at xs → Head xorb_heads bytes at [] head read xs
      this xs h = at_head xorb_heads bytes at [] head read xs h.sound h.stand o

      -- the others stand behind its chunks
      behind : (xs : List XorbBlock) (h : XorbsAt bytes at xs) → XorbsAt bytes (at + 48 + 48 * head.b) (this xs h).others
      behind xs h = record { sound = (this xs h).sound; stand = next_due xorb_heads bytes at [] head read xs (this xs h) (at + 48 + 48 * head.b) refl }

      pub chunks_room : at + 48 + 48 * head.b + 48 ≤ length bytes
      chunks_room = let (xs, h) = c.some_left in head_room xorb_heads bytes (at + 48 + 48 * head.b) [] (this xs h).others (behind xs h).stand

      -- whether it is the one that is named
      named : (b : Bool) → same_hash head.hash segment.hash ≡ b → (xs : List XorbBlock) (h : XorbsAt bytes at xs)
          → answer xs ≡ pick b (compared_with (some (this xs h).block) (segment_of segment)) (answer (this xs h).others)
      unfolding compared_in
      named true q xs h =
          let k : same_hash (this xs h).block.hash segment.hash ≡ true = sym (ap (λ (v : Words). same_hash v.hash segment.hash) (this xs h).words) ∙ q in
          ap answer (this xs h).are ∙ rw k refl
      named false q xs h =
          let k : same_hash (this xs h).block.hash segment.hash ≡ false = sym (ap (λ (v : Words). same_hash v.hash segment.hash) (this xs h).words) ∙ q in
          ap answer (this xs h).are ∙ rw k refl

      -- it is: this block decides
      pub decided : same_hash head.hash segment.hash ≡ true → segment.c < segment.d → (part : List ℕ) → part ≡ take (at + 48 + 48 * head.b - (at + 48)) (drop (at + 48) bytes)
          → (b : Bool) → b ≡ true_by head part segment → Compares bytes from segment (Some b)
      decided q d part there b g ys s =
          let (xs, h, e) = c.says ys s in
          ap (λ (t : Bool). Some t) (g ∙ true_is bytes (at + 48) (this xs h).block _ (this xs h).stand head (this xs h).words part there segment d)
          ∙ sym (e ∙ named true q xs h)

      -- it is not: the next head is behind its chunks
      pub next_block : same_hash head.hash segment.hash ≡ false → BlocksLeft bytes from (at + 48 + 48 * head.b) segment
      next_block q = record {
        some_left = (let (xs, h) = c.some_left in ((this xs h).others, behind xs h));
        says = λ ys b. (let (xs, h, e) = c.says ys b in ((this xs h).others, behind xs h, e ∙ named false q xs h));
      }
