-- What accepted bytes tell of their shard: its tree, and that reading them comes to its xorb offset, because the rows lead there and a footer leaves it as
-- it is. Assumes nothing.
use mathlib.Core.Path.{◌≡◌, refl, sym, ap, ◌∙◌, subst}
use mathlib.Core.Bool.{Bool, true, false}
use mathlib.Core.Option.{Option, none, some}
use mathlib.Core.List.{List, [], append-nil}
use Prim.Native.Nat.{ℕ, ◌≤◌}
use native.Mathlib.Omega.{arith}
use lib.ListN.{length}
use lib.Dec.{eqb}
use borrow.Author.Tests.{eqb-true, eqb-false}
use Rattle.words.specs.Checks.{pick}
use Rattle.words.specs.Le.{Bytes}
use Rattle.words.specs.Record.{tag_at}
use Rattle.words.specs.declared.Tag.{Tag}
use Rattle.cut.specs.Format.{Run, run, at}
use Rattle.cut.proofs.Runs.{run_nil}
use Rattle.rules.specs.Rules.{limit, start, next_of, next_by}
use Rattle.rules.specs.declared.Due.{Due}
use Rattle.rules.specs.declared.Due.TheVariants.{Footer, End}
use Rattle.rules.specs.declared.Place.{Place}
use Rattle.rules.specs.declared.Record.{Record}
use Rattle.layout.specs.Layout.{Foot, Shard, Each, has, if_any, joined, spell_foot, foot_words, rows_of, xorb_offset, footer_offset, length_of, bytes_of, SoundFoot}
use Rattle.layout.specs.Claim.{meaning_of, Spells}
use Rattle.layout.specs.Reach.{place_of, last_place}
use Rattle.layout.specs.Scan.{Found, format, found_in, IsAccepted}
use Rattle.layout.proofs.Refusals.{scan_starts, bad_tag}
use Rattle.layout.proofs.Foot.{whole_foot, foot_run}
use Rattle.layout.proofs.Rows.{run_rows}
use Rattle.layout.proofs.ShardForth.{ShardGo, shard_go}
use Rattle.layout.proofs.Theorem.{layout}

-- only a tag of 32 bytes accepts any
pub tag_size : (tag bytes : List ℕ) → IsAccepted (found_in tag bytes).verdict → length tag ≡ 32
tag_size tag bytes a = go (eqb (length tag) 32) refl
  where
    go : (t : Bool) → eqb (length tag) 32 ≡ t → length tag ≡ 32
    go true e = eqb-true _ _ e
    go false e = absurd (subst (λ (f : Found). IsAccepted f.verdict) (bad_tag tag (eqb-false _ _ e) bytes) a)

-- a footer leaves the offset as it is
foot_keeps : (four : Tag) (q : Place) (x h : ℕ) (o : Option Foot) → q.at.0 ≡ h → q.offset.0 ≡ x → q.due ≡ pick (has o) Footer End → h ≤ limit → x ≤ limit → Each SoundFoot (if_any o)
    → (place_of (run (format four) (at q []) (joined (spell_foot x h) (if_any o))).state).offset.0 ≡ x
unfolding next_of
foot_keeps four q x h none eh ex d lh lx ok = ap (λ (r : Run Place Record Place). (place_of r.state).offset.0) (run_nil (format four) (at q [])) ∙ ex
foot_keeps four q x h (some g) eh ex d lh lx ok =
    ap (λ (l : List ℕ). (place_of (run (format four) (at q []) l).state).offset.0) (append-nil (spell_foot x h g))
    ∙ rw (← ex, ← eh) (ap (λ (r : Run Place Record Place). (place_of r.state).offset.0) (foot_run four q (foot_words g) d (omega arith) (omega arith) (whole_foot g ok.0))
    ∙ ap (λ (e : Due). (next_by e q (foot_words g)).offset.0) d)

offset_is : (tag bytes : List ℕ) (s : Shard) → length tag ≡ 32 → Bytes tag → Spells tag s bytes → (last_place tag bytes).offset.0 ≡ xorb_offset s
unfolding last_place bytes_of length_of footer_offset
offset_is tag bytes s n t x =
    let o : ShardGo tag s = shard_go tag s t x.sound in
    let rest : List ℕ = joined (spell_foot (xorb_offset s) (footer_offset s)) (if_any s.footer) in
    ap (λ (r : Run Place Record Place). (place_of r.state).offset.0)
    (scan_starts tag n bytes ∙ ap (run (format (tag_at tag)) (at start [])) (sym x.spelled) ∙ run_rows (tag_at tag) start o.last (rows_of tag s) rest o.goes)
    ∙ foot_keeps (tag_at tag) o.last (xorb_offset s) (footer_offset s) s.footer o.at o.offset o.due (omega (arith, x.sound.short)) (omega (arith, x.sound.short)) x.sound.footer

-- what is known of a shard from its bytes
pub record Spelling (tag bytes : List ℕ) (s : Shard) : Type 0 where
  pub spells : Spells tag s bytes
  pub found : found_in tag bytes ≡ meaning_of tag s
  pub size : length bytes ≡ length_of s
  pub offset : (last_place tag bytes).offset.0 ≡ xorb_offset s

module _ (tag : List ℕ) (n : length tag ≡ 32) (t : Bytes tag) where
  pub spelling : (bytes : List ℕ) (s : Shard) → Spells tag s bytes → Spelling tag bytes s
  spelling bytes s x = record {
    spells = x;
    found = (layout tag n t).found bytes s x;
    size = ap length (sym x.spelled) ∙ (layout tag n t).long s;
    offset = offset_is tag bytes s n t x;
  }

  pub tree_of : (bytes : List ℕ) → Bytes bytes → IsAccepted (found_in tag bytes).verdict → (s : Shard) × Spelling tag bytes s
  tree_of bytes b a = let (s, x) = ((layout tag n t).accepted bytes b).0 a in (s, spelling bytes s x)
