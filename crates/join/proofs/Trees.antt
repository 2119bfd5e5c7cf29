-- Joining trees is appending lists, so that a tree with nothing in it changes nothing and the grouping makes no difference; and a part of a sound tree is
-- sound. Assumes nothing.
use mathlib.Core.Path.{◌≡◌, refl, sym}
use mathlib.Core.Option.{Option, none}
use mathlib.Core.List.{List, [], ◌∷◌, ◌++◌, append-nil}
use Prim.Native.Nat.{◌≤◌}
use native.Mathlib.Omega.{arith}
use lib.ListN.{length}
use Rattle.layout.specs.Layout.{FileBlock, XorbBlock, Foot, Shard, Sound, SoundFile, SoundXorb, joined, file_rows, xorb_rows, length_of}
use Rattle.layout.proofs.ShardForth.{length_of_lem}
use Rattle.layout.proofs.Lists.{each_first, each_second, joined_append}
use Rattle.join.specs.Claims.{join_tree}
use Rattle.join.specs.Groups.{tree_of}
use Rattle.join.proofs.Agreement.{agree_first, agree_second}
use Rattle.join.proofs.Sections.{length_both}

shard_same : {f g : List FileBlock} {x y : List XorbBlock} {o p : Option Foot} → f ≡ g → x ≡ y → o ≡ p → ◌≡◌ {A = Shard} (record { files = f; xorbs = x; footer = o }) (record { files = g; xorbs = y; footer = p })
shard_same a b c = rw (a, b, c)

-- ## The tree with nothing in it

abbrev pub smallest : Shard
smallest = record { files = []; xorbs = []; footer = none }

pub length_smallest : length_of smallest ≡ 144
length_smallest = length_of_lem smallest

pub smallest_sound : Sound smallest
smallest_sound = record { files = tt; agree = tt; xorbs = tt; footer = tt; short = omega (arith, length_smallest) }

pub smallest_before : (s : Shard) → s.footer ≡ none → join_tree smallest s ≡ s
smallest_before s e = shard_same refl refl (sym e)

pub smallest_behind : (s : Shard) → s.footer ≡ none → join_tree s smallest ≡ s
smallest_behind s e = shard_same (append-nil s.files) (append-nil s.xorbs) (sym e)

-- a shard of 144 bytes is it
no_files : (fs : List FileBlock) → length (joined file_rows fs) ≡ 0 → fs ≡ []
unfolding file_rows
no_files [] e = refl
no_files (f ∷ fs) e = absurd (omega arith)

no_xorbs : (xs : List XorbBlock) → length (joined xorb_rows xs) ≡ 0 → xs ≡ []
unfolding xorb_rows
no_xorbs [] e = refl
no_xorbs (x ∷ xs) e = absurd (omega arith)

pub is_smallest : (s : Shard) → s.footer ≡ none → length_of s ≡ 144 → s ≡ smallest
is_smallest s e l = shard_same (no_files s.files (omega (arith, length_of_lem s))) (no_xorbs s.xorbs (omega (arith, length_of_lem s))) e

-- ## Parts of a sound tree

long_enough : (s : Shard) → 144 ≤ length_of s
long_enough s = omega (arith, length_of_lem s)

pub sound_first : (s t : Shard) → s.footer ≡ none → t.footer ≡ none → Sound (join_tree s t) → Sound s
sound_first s t es et k = record {
  files = each_first SoundFile s.files t.files k.files;
  agree = agree_first s.files t.files k.agree;
  xorbs = each_first SoundXorb s.xorbs t.xorbs k.xorbs;
  footer = rw es tt;
  short = omega (arith, k.short, length_both s t es et, long_enough t);
}

pub sound_second : (s t : Shard) → s.footer ≡ none → t.footer ≡ none → Sound (join_tree s t) → Sound t
sound_second s t es et k = record {
  files = each_second SoundFile s.files t.files k.files;
  agree = agree_second s.files t.files k.agree;
  xorbs = each_second SoundXorb s.xorbs t.xorbs k.xorbs;
  footer = rw et tt;
  short = omega (arith, k.short, length_both s t es et, long_enough s);
}

-- ## Any number of trees

pub tree_one : (s : Shard) → s.footer ≡ none → tree_of (s ∷ []) ≡ s
tree_one s e = shard_same (append-nil s.files) (append-nil s.xorbs) (sym e)

pub tree_both : (ss ts : List Shard) → tree_of (ss ++ ts) ≡ join_tree (tree_of ss) (tree_of ts)
tree_both ss ts = shard_same (joined_append (λ (s : Shard). s.files) ss ts) (joined_append (λ (s : Shard). s.xorbs) ss ts) refl
