-- From the rules to the tree: good rows from the start, and a footer where one is due, are those of a sound shard, because the parts found
-- one after the other are its parts. Assumes nothing.
use mathlib.Core.Path.{◌≡◌, refl, sym, ap, ap₂, ◌∙◌, subst}
use mathlib.Core.Option.{Option, none, some}
use mathlib.Core.Bool.{Bool, true, false, ◌||◌, or-false}
use mathlib.Core.List.{List, [], ◌∷◌, ◌++◌, append_assoc, append-nil}
use Prim.Native.Nat.{ℕ, suc, ◌+◌, ◌*◌, ◌≤◌}
use native.Mathlib.Omega.{arith}
use lib.ListN.{length}
use lib.Dec.{eqb, lit<, lit≤}
use borrow.Author.Tests.{eqb-true}
use Rattle.words.specs.Checks.{pick}
use Rattle.words.specs.Record.{IsHash, hash_at, tag_at, same_hash, words_at, Whole, spell_footer}
use Rattle.words.specs.Le.{long}
use Rattle.words.specs.declared.Words.{Words}
use Rattle.words.specs.declared.Tag.{Tag}
use Rattle.words.proofs.Records.{hash_same, words_whole}
use Rattle.words.proofs.Checks.{passed}
use Rattle.rules.specs.Rules.{limit, size_by, size_of, fault_of, kind_of, nothing, with_footer, with_file, next_of, start}
use Rattle.rules.specs.declared.Place.{Place}
use Rattle.rules.specs.declared.Due.TheVariants.{Header, FileHead, XorbHead, Footer, End}
use Rattle.rules.specs.Rules as rules
use Rattle.rules.specs.declared.Kind.TheVariants as kind
use Rattle.layout.specs.Layout.{joined, Hash, Foot, Shard, has, if_any, Each, Row, row, file_rows, xorb_rows, bookend, file_section, xorb_section, rows_of, xorb_offset, footer_offset, spell_foot, SoundFoot, Sound}
use Rattle.layout.proofs.Accepted.{a_footer, no_footer, Tail}
use Rattle.layout.proofs.XorbsBack.{XorbsBack, xorbs_back}
use Rattle.layout.proofs.ShardForth.{length_files, length_xorbs, length_of_lem}
use Rattle.layout.proofs.Foot.{foot_of, sound_foot, foot_of_lem, foot_back}
use Rattle.layout.proofs.Entries.{Ended, not_yet}
use Rattle.layout.proofs.Places.{onward, past_files, past_xorbs}
use Rattle.layout.proofs.FilesBack.{FilesBack, files_back}
use Rattle.layout.proofs.Rows.{Good, row_same, Goes, stayed, stepped, goes_from}

-- ## Header and footer

header_size : (c d : ℕ) (b : Bool) → eqb (long c d) 200 ≡ b → (eqb (long c d) 0 || eqb (long c d) 200) ≡ true → (c ≡ pick b 200 0) × (d ≡ 0)
header_size c d true e o = let x : long c d ≡ 200 = eqb-true _ _ e in (omega arith, omega arith)
header_size c d false e o =
    let x : long c d ≡ 0 = eqb-true _ _ (sym (or-false (eqb (long c d) 0)) ∙ ap (λ (t : Bool). eqb (long c d) 0 || t) (sym e) ∙ o) in
    (omega arith, omega arith)

record HeaderSays (four : Tag) (r : Row) : Type 0 where
  footer : Bool
  is : r ≡ row kind.Header four.0 2 0 (pick footer 200 0) 0
  next : next_of start r.words ≡ onward 48 nothing FileHead (with_footer footer start)

header_says : (four : Tag) (r : Row) → IsHash four.0 → Good four start r → HeaderSays four r
unfolding fault_of kind_of next_of
header_says four r h g =
    let w : Words = r.words in
    let (e1, z1) = passed (same_hash w.hash four.0) 3 _ (lit< tt) g.fault in
    let (e2, z2) = passed (eqb (long w.a w.b) 2) 4 _ (lit< tt) z1 in
    let (e3, z3) = passed (eqb (long w.c w.d) 0 || eqb (long w.c w.d) 200) 5 0 (lit< tt) z2 in
    let b : Bool = eqb (long w.c w.d) 200 in
    let v : long w.a w.b ≡ 2 = eqb-true _ _ e2 in
    let (c, d) = header_size w.c w.d b refl e3 in
    record {
      footer = b;
      is = row_same w.hash (sym g.kind) (omega arith) (omega arith) c d ∙ ap (λ (x : Hash). row kind.Header x 2 0 (pick b 200 0) 0) (hash_same w.hash four.0 g.whole.hash h e1);
      next = refl;
    }

-- after the second bookend no row is due
no_size : (b : Bool) → size_by (pick b Footer End) ≡ 48 → ⊥
no_size true e = omega arith
no_size false e = omega arith

no_rows : (four : Tag) (p q : Place) (rows : List Row) → Goes four (past_xorbs p) rows q → (rows ≡ []) × (q ≡ past_xorbs p)
no_rows four p q [] t = (refl, sym (stayed four (past_xorbs p) q t))
no_rows four p q (r ∷ rs) t = absurd (no_size p.footer (stepped four (past_xorbs p) q r rs t).0.size)

record FootIs (b : Bool) (x h : ℕ) (rest : List ℕ) : Type 0 where
  foot : Option Foot
  is : has foot ≡ b
  sound : Each SoundFoot (if_any foot)
  spelled : joined (spell_foot x h) (if_any foot) ≡ rest

foot_is : (b : Bool) (q : Place) (rest : List ℕ) → q.due ≡ pick b Footer End → Tail q rest → FootIs b q.offset.0 q.at.0 rest
foot_is true q rest d (a_footer f l b z) =
    let w : Words = words_at rest 72 in
    let k : Whole w = words_whole rest 72 b in
    record { foot = some (foot_of w); is = refl; sound = (sound_foot w k, tt); spelled = append-nil _ ∙ ap (spell_footer q.offset.0 q.at.0) (foot_of_lem w k) ∙ foot_back q rest l b z }
foot_is true q rest d (no_footer f e) = let z : ◌≡◌ {A = ℕ} 0 1 = cc in absurd (omega arith)
foot_is false q rest d (a_footer f l b z) = let z : ◌≡◌ {A = ℕ} 0 1 = cc in absurd (omega arith)
foot_is false q rest d (no_footer f e) = record { foot = none; is = refl; sound = tt; spelled = sym e }

ended : (q : Place) (rest : List ℕ) → Tail q rest → Ended q
ended q rest (no_footer d e) s = let z : size_of q ≡ 0 = ap size_by d in omega arith
ended q rest (a_footer d l b z) s = let z : size_of q ≡ 200 = ap size_by d in omega arith

-- ## The shard

pub record ShardBack (tag : List ℕ) (rows : List Row) (rest : List ℕ) : Type 0 where
  pub shard : Shard
  pub sound : Sound shard
  pub rows_are : rows_of tag shard ≡ rows
  pub rest_is : joined (spell_foot (xorb_offset shard) (footer_offset shard)) (if_any shard.footer) ≡ rest

header_size_room : (b : Bool) → 48 + 96 + pick b 200 0 ≤ limit
header_size_room true = lit≤ tt
header_size_room false = lit≤ tt

-- the places behind the header, behind the files and behind the xorbs
abbrev begun : Bool → Place
begun b = onward 48 nothing FileHead (with_footer b start)

abbrev behind_files : (four : Tag) (b : Bool) (q : Place) (rs : List Row) → FilesBack four (begun b) q rs → Place
behind_files four b q rs of = past_files (onward (48 * length (joined file_rows of.files)) of.totals FileHead (with_file of.flags of.entries (begun b)))

abbrev behind_xorbs : (four : Tag) (p q : Place) (rs : List Row) → XorbsBack four p q rs → Place
behind_xorbs four p q rs ox = past_xorbs (onward (48 * length (joined xorb_rows ox.xorbs)) ox.totals XorbHead p)

-- the parts make the whole
assemble : (tag : List ℕ) (b : Bool) (q : Place) (r : Row) (rs : List Row) (rest : List ℕ)
    → r ≡ row kind.Header (hash_at tag 0) 2 0 (pick b 200 0) 0
    → (of : FilesBack (tag_at tag) (begun b) q rs) (ox : XorbsBack (tag_at tag) (behind_files (tag_at tag) b q rs of) q of.rest) → ox.rest ≡ []
    → FootIs b (96 + 48 * length (joined file_rows of.files)) (144 + 48 * length (joined file_rows of.files) + 48 * length (joined xorb_rows ox.xorbs)) rest
    → ShardBack tag (r ∷ rs) rest
unfolding rows_of file_section xorb_section footer_offset xorb_offset
assemble tag b q r rs rest head of ox empty o =
    let s : Shard = record { files = of.files; xorbs = ox.xorbs; footer = o.foot } in
    let f : List Row = joined file_rows of.files in
    let x : List Row = joined xorb_rows ox.xorbs in
    let xo : xorb_offset s ≡ 96 + 48 * length f = omega (arith, length_files s) in
    let fo : footer_offset s ≡ 144 + 48 * length f + 48 * length x = omega (arith, length_files s, length_xorbs s) in
    let fs : pick (has o.foot) 200 0 ≡ rules.footer_size b = ap (λ (x : Bool). pick x 200 0) o.is in
    record {
      shard = s;
      sound = record { files = of.sound; agree = of.agree; xorbs = ox.sound; footer = o.sound; short = omega (arith, length_of_lem s) };
      rows_are = sym (ap₂ (λ (u : Row) (v : List Row). u ∷ v)
          (head ∙ ap (λ (c : Bool). row kind.Header (hash_at tag 0) 2 0 (pick c 200 0) 0) (sym o.is))
          (of.rows_are ∙ ap (λ (y : List Row). f ++ (bookend ∷ y)) (ox.rows_are ∙ ap (λ (y : List Row). x ++ (bookend ∷ y)) empty)
          ∙ sym (append_assoc f (bookend ∷ []) (x ++ (bookend ∷ [])))));
      rest_is = ap₂ (λ (u v : ℕ). joined (spell_foot u v) (if_any o.foot)) xo fo ∙ o.spelled;
    }

foot_at : {b : Bool} {x h x' h' : ℕ} {rest : List ℕ} → FootIs b x h rest → x ≡ x' → h ≡ h' → FootIs b x' h' rest
foot_at {b} {x} {h} {x'} {h'} {rest} o e f = subst (λ (u : ℕ). FootIs b x' u rest) f (subst (λ (u : ℕ). FootIs b u h rest) e o)

from_xorbs : (tag : List ℕ) (b : Bool) (q : Place) (r : Row) (rs : List Row) (rest : List ℕ) → Tail q rest
    → r ≡ row kind.Header (hash_at tag 0) 2 0 (pick b 200 0) 0
    → (of : FilesBack (tag_at tag) (begun b) q rs) (ox : XorbsBack (tag_at tag) (behind_files (tag_at tag) b q rs of) q of.rest)
    → ShardBack tag (r ∷ rs) rest
from_xorbs tag b q r rs rest e head of ox =
    let n = no_rows (tag_at tag) (onward (48 * length (joined xorb_rows ox.xorbs)) ox.totals XorbHead (behind_files (tag_at tag) b q rs of)) q ox.rest ox.goes in
    let p : Place = behind_xorbs (tag_at tag) (behind_files (tag_at tag) b q rs of) q of.rest ox in
    let o : FootIs b p.offset.0 p.at.0 rest = foot_is b p rest refl (subst (λ (x : Place). Tail x rest) n.1 e) in
    assemble tag b q r rs rest head of ox n.0 (foot_at o (omega arith) (omega arith))

from_files : (tag : List ℕ) (b : Bool) (q : Place) (r : Row) (rs : List Row) (rest : List ℕ) → Tail q rest
    → r ≡ row kind.Header (hash_at tag 0) 2 0 (pick b 200 0) 0 → (of : FilesBack (tag_at tag) (begun b) q rs) → ShardBack tag (r ∷ rs) rest
from_files tag b q r rs rest e head of =
    from_xorbs tag b q r rs rest e head of
    (xorbs_back (tag_at tag) (suc (length of.rest)) (behind_files (tag_at tag) b q rs of) q of.rest (omega arith) (ended q rest e) (omega arith) of.goes)

pub shard_back : (tag : List ℕ) (q : Place) (rows : List Row) (rest : List ℕ) → IsHash (hash_at tag 0) → Goes (tag_at tag) start rows q → Tail q rest → ShardBack tag rows rest
shard_back tag q [] rest h t e = absurd (not_yet (tag_at tag) Header start q refl t (ended q rest e))
shard_back tag q (r ∷ rs) rest h t e =
    let (g, t0) = stepped (tag_at tag) start q r rs t in
    let says : HeaderSays (tag_at tag) r = header_says (tag_at tag) r h g in
    from_files tag says.footer q r rs rest e says.is
    (files_back (tag_at tag) (suc (length rs)) (begun says.footer) q rs (omega arith) (ended q rest e) (header_size_room says.footer) (goes_from (tag_at tag) _ _ q rs (sym says.next) t0))
