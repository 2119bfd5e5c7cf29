-- The records of some kinds in a shard's bytes are the rows of its files or of its xorbs, because each row's kind is written in the layout. Assumes nothing.
use mathlib.Core.Path.{◌≡◌, refl, ap, ap₂, ◌∙◌}
use mathlib.Core.Bool.{Bool, true, false}
use mathlib.Core.Option.{Option, none}
use mathlib.Core.List.{List, [], ◌∷◌, ◌++◌, map, append-nil}
use Prim.Native.Nat.{ℕ, ◌+◌}
use Rattle.words.specs.Checks.{pick}
use Rattle.rules.specs.declared.Kind.{Kind}
use Rattle.rules.specs.declared.Kind.TheVariants as kind
use Rattle.rules.specs.declared.Record.{Record}
use Rattle.layout.specs.Layout.{Foot, Shard, Row, joined, if_any, file_rows, xorb_rows, bookend, file_section, xorb_section, rows_of, xorb_offset, footer_offset, foot_record, placed, records_of}
use Rattle.layout.specs.Scan.{Found}
use Rattle.layout.proofs.BlockKinds.{Kinds, file_kinds, xorb_kinds}
use Rattle.layout.proofs.Last.{Spelling}
use Rattle.join.specs.Claims.{of_file, of_xorb, unplaced, of_kinds, records_in}

-- rows that were placed, positions aside
rows_placed : (at : ℕ) (rs : List Row) → map unplaced (placed at rs) ≡ rs
rows_placed at [] = refl
rows_placed at (r ∷ rs) = ap (λ (l : List Row). r ∷ l) (rows_placed (at + 48) rs)

module _ (these : Kind → Bool) where
  kinds_append : (xs ys : List Row) → of_kinds these (xs ++ ys) ≡ of_kinds these xs ++ of_kinds these ys
  kinds_append [] ys = refl
  kinds_append (x ∷ xs) ys = ap (λ (l : List Row). pick (these x.kind) (x ∷ l) l) (kinds_append xs ys) ∙ go (these x.kind)
    where
      go : (t : Bool) → pick t (x ∷ (of_kinds these xs ++ of_kinds these ys)) (of_kinds these xs ++ of_kinds these ys) ≡ pick t (x ∷ of_kinds these xs) (of_kinds these xs) ++ of_kinds these ys
      go true = refl
      go false = refl

  -- where all rows are of these kinds, and where none is
  kinds_all : (rs : List Row) → Kinds (λ k. these k ≡ true) rs → of_kinds these rs ≡ rs
  kinds_all [] h = refl
  kinds_all (r ∷ rs) (h, hs) = rw h (ap (λ (l : List Row). r ∷ l) (kinds_all rs hs))

  kinds_none : (rs : List Row) → Kinds (λ k. these k ≡ false) rs → of_kinds these rs ≡ []
  kinds_none [] h = refl
  kinds_none (r ∷ rs) (h, hs) = rw h (kinds_none rs hs)

  -- of a shard without footer, where neither its header nor a bookend is of these kinds
  module _ (header : these kind.Header ≡ false) (ends : these kind.Bookend ≡ false) where
    kinds_section : (rs : List Row) → of_kinds these (rs ++ (bookend ∷ [])) ≡ of_kinds these rs
    kinds_section rs = kinds_append rs (bookend ∷ []) ∙ rw ends (append-nil (of_kinds these rs))

    kinds_rows : (tag : List ℕ) (s : Shard) → of_kinds these (rows_of tag s) ≡ of_kinds these (joined file_rows s.files) ++ of_kinds these (joined xorb_rows s.xorbs)
    unfolding rows_of file_section xorb_section
    kinds_rows tag s =
        rw header (kinds_append (file_section s) (xorb_section s) ∙ ap₂ (λ (x y : List Row). x ++ y) (kinds_section (joined file_rows s.files)) (kinds_section (joined xorb_rows s.xorbs)))

    kinds_shard : (tag : List ℕ) (s : Shard) → s.footer ≡ none → of_kinds these (map unplaced (records_of tag s)) ≡ of_kinds these (joined file_rows s.files) ++ of_kinds these (joined xorb_rows s.xorbs)
    unfolding records_of
    kinds_shard tag s e =
        ap (λ (o : Option Foot). of_kinds these (map unplaced (placed 0 (rows_of tag s) ++ map (foot_record (xorb_offset s) (footer_offset s)) (if_any o)))) e
        ∙ ap (λ (l : List Record). of_kinds these (map unplaced l)) (append-nil (placed 0 (rows_of tag s))) ∙ ap (of_kinds these) (rows_placed 0 (rows_of tag s)) ∙ kinds_rows tag s

module _ (tag bytes : List ℕ) (s : Shard) (o : Spelling tag bytes s) (e : s.footer ≡ none) where
  pub files_are : records_in of_file tag bytes ≡ joined file_rows s.files
  files_are =
      ap (λ (f : Found). of_kinds of_file (map unplaced f.records)) o.found ∙ kinds_shard of_file refl refl tag s e
      ∙ ap₂ (λ (x y : List Row). x ++ y)
      (kinds_all of_file (joined file_rows s.files) (file_kinds (λ k. of_file k ≡ true) s.files refl refl refl refl))
      (kinds_none of_file (joined xorb_rows s.xorbs) (xorb_kinds (λ k. of_file k ≡ false) s.xorbs refl refl))
      ∙ append-nil (joined file_rows s.files)

  pub xorbs_are : records_in of_xorb tag bytes ≡ joined xorb_rows s.xorbs
  xorbs_are =
      ap (λ (f : Found). of_kinds of_xorb (map unplaced f.records)) o.found ∙ kinds_shard of_xorb refl refl tag s e
      ∙ ap₂ (λ (x y : List Row). x ++ y)
      (kinds_none of_xorb (joined file_rows s.files) (file_kinds (λ k. of_xorb k ≡ false) s.files refl refl refl refl))
      (kinds_all of_xorb (joined xorb_rows s.xorbs) (xorb_kinds (λ k. of_xorb k ≡ true) s.xorbs refl refl))
