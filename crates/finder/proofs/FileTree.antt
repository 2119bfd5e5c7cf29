-- Finding a file in the tree, file by file, comes to what is found among the shard's records, because a file's entries stand behind its head and no file head
-- stands elsewhere. Assumes nothing.
use Rattle.std.specs.Prelude.{Ok, None}
use mathlib.Core.Path.{◌≡◌, refl, ap, ◌∙◌}
use mathlib.Core.Option.{Option, none, some}
use mathlib.Core.List.{List, [], ◌∷◌, ◌++◌, map}
use Prim.Native.Nat.{ℕ, ◌+◌, ◌*◌}
use native.Mathlib.Omega.{arith}
use lib.ListN.{length}
use Rattle.words.specs.Checks.{pick}
use Rattle.words.specs.Record.{same_hash}
use Rattle.rules.specs.declared.Record.{Record}
use Rattle.rules.specs.declared.Kind.{Kind}
use Rattle.layout.specs.Layout.{Hash, FileBlock, Foot, Shard, Row, if_any, file_rows, xorb_section, rows_of, xorb_offset, footer_offset, placed, foot_record, records_of}
use Rattle.layout.specs.Blocks.{entry_rows, file_block, blocks_then}
use Rattle.layout.proofs.BlockKinds.{Kinds, entry_kinds}
use Rattle.finder.specs.Find.{FileAnswer, the_file, file_at, file_in}
use Rattle.finder.proofs.Among.{among}
use Rattle.finder.proofs.Standing.{placed_then}
use Rattle.finder.proofs.Sections.{file_section_lem, xorb_section_kinds}

-- the first among files that stand from a position on
abbrev pub among_files : Hash → ℕ → ℕ → List FileBlock → FileAnswer
among_files hash number at fs = among (λ f. f.hash) (λ f. length (file_rows f)) hash (λ n p. the_file (record { 0 = n }) (record { 0 = p })) (Ok None) number at fs

-- ## Among records

-- a kind that changes nothing for files
abbrev pub NoFile : Kind → Type 0
NoFile k = (hash : List ℕ) (files : ℕ) (r : Record) (later : ℕ → FileAnswer) → file_at k hash files r later ≡ later files

-- such rows are passed over
files_past : (hash : Hash) (n at : ℕ) (rows : List Row) (behind : List Record) → Kinds NoFile rows → file_in hash n (placed at rows ++ behind) ≡ file_in hash n behind
unfolding file_in
files_past hash n at [] behind h = refl
files_past hash n at (r ∷ rs) behind (h, hs) = h hash n _ _ ∙ files_past hash n (at + 48) rs behind hs

in_files : (hash : Hash) (n at : ℕ) (fs : List FileBlock) (end : List Row) (behind : List Record) → ((m p : ℕ) → file_in hash m (placed p end ++ behind) ≡ Ok None)
    → file_in hash n (placed at (blocks_then file_block fs end) ++ behind) ≡ among_files hash n at fs
unfolding file_in file_rows
in_files hash n at [] end behind h = h n (at + 48)
in_files hash n at (f ∷ fs) end behind h =
    let e : at + 48 + 48 * length (entry_rows f) ≡ at + 48 * length (file_rows f) = omega arith in
    ap (pick (same_hash f.hash hash) (the_file (record { 0 = n }) (record { 0 = at })))
    (ap (file_in hash (n + 1)) (placed_then (at + 48) (entry_rows f) (blocks_then file_block fs end) behind)
    ∙ files_past hash (n + 1) (at + 48) (entry_rows f) _ (entry_kinds NoFile f (λ g m r x. refl) (λ g m r x. refl) (λ g m r x. refl))
    ∙ in_files hash (n + 1) (at + 48 + 48 * length (entry_rows f)) fs end behind h
    ∙ ap (λ (p : ℕ). among_files hash (n + 1) p fs) e)

-- ## In a shard

none_in_foot : (hash : Hash) (x h n : ℕ) (o : Option Foot) → file_in hash n (map (foot_record x h) (if_any o)) ≡ Ok None
unfolding file_in
none_in_foot hash x h n none = refl
none_in_foot hash x h n (some f) = refl

pub file_in_shard : (tag : List ℕ) (s : Shard) (hash : Hash) → file_in hash 0 (records_of tag s) ≡ among_files hash 0 48 s.files
unfolding records_of rows_of file_in
file_in_shard tag s hash =
    let foot : List Record = map (foot_record (xorb_offset s) (footer_offset s)) (if_any s.footer) in
    ap (λ (l : List Row). file_in hash 0 (placed 48 l ++ foot)) (file_section_lem s (xorb_section s))
    ∙ in_files hash 0 48 s.files (xorb_section s) foot
    (λ m p. files_past hash m p (xorb_section s) foot (xorb_section_kinds NoFile s (λ g k r l. refl) (λ g k r l. refl) (λ g k r l. refl)) ∙ none_in_foot hash (xorb_offset s) (footer_offset s) m s.footer)
