-- The sections of two shards, cut out of their bytes and put together, are the sections of the tree of both, because each lies where the lengths say.
-- Assumes nothing.
use mathlib.Core.Path.{◌≡◌, refl, sym, ap, ap₂, ◌∙◌}
use mathlib.Core.Option.{none}
use mathlib.Core.List.{List, ◌++◌, append_assoc}
use Prim.Native.Nat.{ℕ, ◌+◌, ◌-◌}
use native.Mathlib.Omega.{arith}
use lib.ListN.{length, take, drop, length-append}
use lib.Seq.{take_at, drop_at, take_all}
use Rattle.words.specs.Le.{part}
use Rattle.words.proofs.Records.{length_words}
use Rattle.layout.specs.Layout.{Shard, joined, file_rows, xorb_rows, spell_rows, xorb_offset, length_of, footer_size, bytes_of}
use Rattle.layout.proofs.ShardForth.{length_files, length_of_lem}
use Rattle.layout.proofs.Theorem.{length_rows}
use Rattle.layout.proofs.Lists.{joined_append, spell_append}
use Rattle.layout.proofs.Last.{Spelling}
use Rattle.join.specs.Join.{joined_at, joined_bytes}
use Rattle.join.specs.Claims.{join_tree}
use Rattle.join.proofs.Spelled.{head_bytes, file_bytes, end_bytes, xorb_bytes, in_order, bytes_are}

-- ## Cut out of the bytes

module _ (head end : List ℕ) (h : length head ≡ 48) (e : length end ≡ 48) where
  length_in_order : (files xorbs : List ℕ) → length (in_order head end files xorbs) ≡ 144 + length files + length xorbs
  length_in_order files xorbs = simp length-append (omega arith)

  module _ (files xorbs : List ℕ) where
    front : take (length files + 96 - 48) (in_order head end files xorbs) ≡ head ++ files
    front =
        ap (take (length files + 96 - 48)) (sym (append_assoc head files (end ++ (xorbs ++ end))))
        ∙ take_at (head ++ files) (end ++ (xorbs ++ end)) (length files + 96 - 48) (length-append head files ∙ omega arith)

    middle : part 48 (length files + 96) (in_order head end files xorbs) ≡ files ++ end
    middle =
        ap (take (length files + 96 - 48)) (drop_at head (files ++ (end ++ (xorbs ++ end))) 48 h ∙ sym (append_assoc files end (xorbs ++ end)))
        ∙ take_at (files ++ end) (xorbs ++ end) (length files + 96 - 48) (length-append files end ∙ omega arith)

    behind : drop (length files + 96) (in_order head end files xorbs) ≡ xorbs ++ end
    behind =
        ap (drop (length files + 96)) (sym (simp append_assoc))
        ∙ drop_at (head ++ (files ++ end)) (xorbs ++ end) (length files + 96) (length-append head (files ++ end) ∙ omega (arith, length-append files end))

    later : part (length files + 96) (length (in_order head end files xorbs) - 48) (in_order head end files xorbs) ≡ xorbs
    later =
        let n : ℕ = length (in_order head end files xorbs) - 48 - (length files + 96) in
        ap (take n) behind ∙ take_at xorbs end n (omega (arith, length_in_order files xorbs))

    last : part (length files + 96) (length (in_order head end files xorbs)) (in_order head end files xorbs) ≡ xorbs ++ end
    last =
        let n : ℕ = length (in_order head end files xorbs) - (length files + 96) in
        ap (take n) behind ∙ take_all n (xorbs ++ end) (omega (arith, length_in_order files xorbs, length-append xorbs end))

  together : (f g x y : List ℕ) → joined_at (in_order head end f x) (length f + 96) (in_order head end g y) (length g + 96) ≡ in_order head end (f ++ g) (x ++ y)
  unfolding joined_at
  together f g x y = rw (front f x, middle g y, later f x, last g y) (simp append_assoc)

-- ## Of two trees

offset_there : (s : Shard) → xorb_offset s ≡ length (file_bytes s) + 96
unfolding xorb_offset
offset_there s = omega (arith, length_files s, length_rows (joined file_rows s.files))

files_joined : (s t : Shard) → file_bytes (join_tree s t) ≡ file_bytes s ++ file_bytes t
files_joined s t = ap spell_rows (joined_append file_rows s.files t.files) ∙ spell_append (joined file_rows s.files) (joined file_rows t.files)

xorbs_joined : (s t : Shard) → xorb_bytes (join_tree s t) ≡ xorb_bytes s ++ xorb_bytes t
xorbs_joined s t = ap spell_rows (joined_append xorb_rows s.xorbs t.xorbs) ∙ spell_append (joined xorb_rows s.xorbs) (joined xorb_rows t.xorbs)

-- the joined bytes are those of the tree of both
pub bytes_joined : (tag first second : List ℕ) (s t : Shard) → Spelling tag first s → Spelling tag second t → s.footer ≡ none → t.footer ≡ none → joined_bytes tag first second ≡ bytes_of tag (join_tree s t)
unfolding joined_bytes
bytes_joined tag first second s t o p es et =
    let a : first ≡ in_order (head_bytes tag) end_bytes (file_bytes s) (xorb_bytes s) = sym o.spells.spelled ∙ bytes_are tag s es in
    let b : second ≡ in_order (head_bytes tag) end_bytes (file_bytes t) (xorb_bytes t) = sym p.spells.spelled ∙ bytes_are tag t et in
    rw (o.offset ∙ offset_there s, p.offset ∙ offset_there t, bytes_are tag (join_tree s t) refl, files_joined s t, xorbs_joined s t)
    (ap₂ (λ (x y : List ℕ). joined_at x (length (file_bytes s) + 96) y (length (file_bytes t) + 96)) a b
    ∙ together (head_bytes tag) end_bytes (length_words _) (length_words _) (file_bytes s) (file_bytes t) (xorb_bytes s) (xorb_bytes t))

-- its length is the sum less 144
pub length_both : (s t : Shard) → s.footer ≡ none → t.footer ≡ none → length_of (join_tree s t) + 144 ≡ length_of s + length_of t
length_both s t es et =
    let a : footer_size s ≡ 0 = rw es in
    let b : footer_size t ≡ 0 = rw et in
    omega (
      arith,
      length_of_lem s,
      length_of_lem t,
      length_of_lem (join_tree s t),
      ap length (joined_append file_rows s.files t.files) ∙ length-append (joined file_rows s.files) (joined file_rows t.files),
      ap length (joined_append xorb_rows s.xorbs t.xorbs) ∙ length-append (joined xorb_rows s.xorbs) (joined xorb_rows t.xorbs),
    )
