-- From the tree to the rules: the rows of a sound shard are good, from the start to its footer or its end, because its parts follow one another
-- in the order that the rules demand. Assumes nothing.
use mathlib.Core.Path.{◌≡◌, refl, subst}
use mathlib.Core.Bool.{Bool, true, false}
use mathlib.Core.List.{List, [], ◌∷◌, ◌++◌}
use Prim.Native.Nat.{ℕ, ◌+◌, ◌*◌, ◌≤◌}
use native.Mathlib.Omega.{arith}
use lib.ListN.{length, length-append}
use lib.Dec.{lit<}
use Rattle.words.specs.Checks.{pick}
use Rattle.words.specs.Record.{IsHash, tag_at, ones}
use Rattle.words.specs.Le.{Bytes}
use Rattle.words.specs.declared.Tag.{Tag}
use Rattle.words.proofs.Records.{hash_is, same_self, ones_is}
use Rattle.rules.specs.Rules.{limit, fault_of, kind_of, nothing, with_footer, with_file, next_of, start}
use Rattle.rules.specs.declared.Place.{Place}
use Rattle.rules.specs.declared.Due.TheVariants.{FileHead, XorbHead, Footer, End}
use Rattle.rules.specs.declared.Kind.TheVariants as kind
use Rattle.layout.specs.Layout.{joined, Hash, Shard, has, Row, row, header_row, file_rows, xorb_rows, bookend, file_section, xorb_section, rows_of, xorb_offset, footer_offset, length_of, totals_of, Sound}
use Rattle.layout.specs.Layout as tree
use Rattle.layout.proofs.FileEntries.{plain_whole}
use Rattle.layout.proofs.FilesForth.{file_totals, FilesGo, files_go}
use Rattle.layout.proofs.XorbsForth.{xorb_totals, xorbs_go}
use Rattle.layout.proofs.Places.{due_at, onward, totals_same, past_files, past_xorbs}
use Rattle.layout.proofs.Rows.{Good, Goes, stay, goes_append, goes_cons}

header_good : (four : Tag) (b : Bool) → IsHash four.0 → Good four start (row kind.Header four.0 2 0 (pick b 200 0) 0)
unfolding fault_of kind_of
header_good four true k = record { size = refl; whole = record { hash = k; a = lit< tt; b = lit< tt; c = lit< tt; d = lit< tt }; fault = rw (same_self four.0); kind = refl }
header_good four false k = record { size = refl; whole = record { hash = k; a = lit< tt; b = lit< tt; c = lit< tt; d = lit< tt }; fault = rw (same_self four.0); kind = refl }

header_next : (h : Hash) (b : Bool) → next_of start (row kind.Header h 2 0 (pick b 200 0) 0).words ≡ onward 48 nothing FileHead (with_footer b start)
unfolding next_of
header_next h true = refl
header_next h false = refl

first_bookend : (four : Tag) (p : Place) → Good four (due_at FileHead p) bookend
unfolding fault_of kind_of
first_bookend four p = record { size = refl; whole = plain_whole ones ones_is; fault = refl; kind = refl }

second_bookend : (four : Tag) (p : Place) → Good four (due_at XorbHead p) bookend
unfolding fault_of kind_of
second_bookend four p = record { size = refl; whole = plain_whole ones ones_is; fault = refl; kind = refl }

first_next : (p : Place) → next_of (due_at FileHead p) bookend.words ≡ past_files p
unfolding next_of
first_next p = refl

second_next : (p : Place) → next_of (due_at XorbHead p) bookend.words ≡ past_xorbs p
unfolding next_of
second_next p = refl

-- ## Lengths

pub length_files : (s : Shard) → length (file_section s) ≡ length (joined file_rows s.files) + 1
unfolding file_section
length_files s = length-append (joined file_rows s.files) (bookend ∷ [])

pub length_xorbs : (s : Shard) → length (xorb_section s) ≡ length (joined xorb_rows s.xorbs) + 1
unfolding xorb_section
length_xorbs s = length-append (joined xorb_rows s.xorbs) (bookend ∷ [])

pub length_of_lem : (s : Shard) → length_of s ≡ 144 + 48 * length (joined file_rows s.files) + 48 * length (joined xorb_rows s.xorbs) + tree.footer_size s
unfolding length_of footer_offset xorb_offset
length_of_lem s = omega (arith, length_files s, length_xorbs s)

-- ## All rows

pub record ShardGo (tag : List ℕ) (s : Shard) : Type 0 where
  pub last : Place
  pub goes : Goes (tag_at tag) start (rows_of tag s) last
  pub at : last.at.0 ≡ footer_offset s
  pub offset : last.offset.0 ≡ xorb_offset s
  pub totals : last.totals ≡ totals_of s
  pub footer : last.footer ≡ has s.footer
  pub due : last.due ≡ pick (has s.footer) Footer End

pub shard_go : (tag : List ℕ) (s : Shard) → Bytes tag → Sound s → ShardGo tag s
unfolding rows_of file_section xorb_section footer_offset xorb_offset totals_of
shard_go tag s bs ok =
    let four : Tag = tag_at tag in
    let b : Bool = has s.footer in
    let fs : List Row = joined file_rows s.files in
    let xs : List Row = joined xorb_rows s.xorbs in
    let room : 144 + 48 * length fs + 48 * length xs + pick b 200 0 ≤ limit = subst (λ (n : ℕ). n ≤ limit) (length_of_lem s) ok.short in
    let p0 : Place = onward 48 nothing FileHead (with_footer b start) in
    let o : FilesGo four p0 s.files = files_go four p0 s.files ok.files ok.agree (omega arith) in
    let p1 : Place = onward (48 * length fs) (file_totals s.files) FileHead (with_file o.flags o.entries p0) in
    let p2 : Place = past_files p1 in
    let p3 : Place = onward (48 * length xs) (xorb_totals s.xorbs) XorbHead p2 in
    let p4 : Place = past_xorbs p3 in
    record {
      last = p4;
      goes = goes_cons four start p0 p4 (header_row tag s) (fs ++ (bookend ∷ []) ++ (xs ++ (bookend ∷ []))) (header_good four b (hash_is tag 0 bs)) (header_next four.0 b)
          (goes_append four p0 p2 p4 (fs ++ (bookend ∷ [])) (xs ++ (bookend ∷ []))
          (goes_append four p0 p1 p2 fs (bookend ∷ []) o.goes (goes_cons four p1 p2 p2 bookend [] (first_bookend four p1) (first_next p1) (stay four refl)))
          (goes_append four p2 p3 p4 xs (bookend ∷ []) (xorbs_go four p2 s.xorbs ok.xorbs (omega arith))
          (goes_cons four p3 p4 p4 bookend [] (second_bookend four p3) (second_next p3) (stay four refl))));
      at = omega (arith, length_files s, length_xorbs s);
      offset = omega (arith, length_files s);
      totals = totals_same (omega arith) (omega arith) (omega arith) (omega arith) (omega arith);
      footer = refl;
      due = refl;
    }
