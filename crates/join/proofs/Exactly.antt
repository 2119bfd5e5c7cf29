-- Bytes are written exactly if the trees can be joined and there is room, because the four checks are just that. Assumes nothing.
use Rattle.std.specs.Prelude.{Ok}
use mathlib.Core.Path.{◌≡◌, refl, sym, ◌∙◌, subst}
use mathlib.Core.Bool.{false, ◌||◌, true≢false}
use mathlib.Core.Option.{Option, none, some}
use mathlib.Core.List.{List}
use Prim.Native.Nat.{ℕ, ◌+◌, ◌-◌, ◌≤◌}
use native.Mathlib.Omega.{arith}
use Rattle.words.specs.Le.{Bytes}
use Rattle.rules.specs.Rules.{limit, same31}
use Rattle.layout.specs.Layout.{Foot, Shard, has, length_of, totals_of, Sound, SoundFile, SoundXorb}
use Rattle.layout.specs.Claim.{summary_for, Spells}
use Rattle.layout.proofs.Lists.{each_append}
use Rattle.layout.proofs.Last.{Spelling}
use Rattle.join.specs.Join.{first_flags, joined_length, join_fault, fault_for, answer_by, answer_for, join_of, joined_bytes}
use Rattle.join.specs.Claims.{join_tree, Joins, firsts_agree, tree_fault, JoinsIn}
use Rattle.join.proofs.Checks.{all_passed, no_fault, second_same, answer_wrote, both_false}
use Rattle.join.proofs.Sections.{bytes_joined, length_both}
use Rattle.join.proofs.Agreement.{SameFirst, agree_both, agree_firsts, test_firsts, firsts_test, test_agrees}

pub has_none : (o : Option Foot) → has o ≡ false → o ≡ none
has_none none e = refl
has_none (some f) e = absurd (true≢false e)

no_feet : (a b : Option Foot) → (has a || has b) ≡ false → (a ≡ none) × (b ≡ none)
no_feet a b e = let (x, y) = both_false (has a) (has b) e in (has_none a x, has_none b y)

feet_no : (a b : Option Foot) → a ≡ none → b ≡ none → (has a || has b) ≡ false
feet_no a b e f = rw (e, f)

sound_both : (s t : Shard) → Sound s → Sound t → SameFirst s.files t.files → length_of (join_tree s t) ≤ limit → Sound (join_tree s t)
sound_both s t a b h l = record {
  files = each_append SoundFile s.files t.files a.files b.files;
  agree = agree_both s.files t.files a.agree b.agree h;
  xorbs = each_append SoundXorb s.xorbs t.xorbs a.xorbs b.xorbs;
  footer = tt;
  short = l;
}

-- the four checks by the trees: passed, both can be joined and there is room; and the other way round
passed_joins : (s t : Shard) (room : ℕ) → tree_fault s t room ≡ 0 → Sound s → Sound t → JoinsIn s t room (length_of s + length_of t - 144)
passed_joins s t room e ks kt =
    let p = all_passed _ _ _ _ e in
    let (es, et) = no_feet s.footer t.footer p.no_footer in
    let l : length_of (join_tree s t) + 144 ≡ length_of s + length_of t = length_both s t es et in
    record {
      joins = record { first = es; second = et; sound = sound_both s t ks kt (test_firsts s.files t.files p.agrees) (omega (arith, p.short)) };
      long = omega arith;
      fits = p.fits;
    }

joins_passed : (s t : Shard) (room size : ℕ) → JoinsIn s t room size → tree_fault s t room ≡ 0
joins_passed s t room size w =
    let l : length_of (join_tree s t) + 144 ≡ length_of s + length_of t = length_both s t w.joins.first w.joins.second in
    no_fault _ _ _ _ (record {
      no_footer = feet_no s.footer t.footer w.joins.first w.joins.second;
      agrees = firsts_test s.files t.files (agree_firsts s.files t.files w.joins.sound.agree);
      short = omega (arith, w.joins.sound.short);
      fits = omega (arith, w.long, w.fits);
    })

module _ (tag : List ℕ) (b : Bytes tag) (first second : List ℕ) (s t : Shard) (o : Spelling tag first s) (p : Spelling tag second t) where
  fault_same : (size room : ℕ) → fault_for (summary_for s) (summary_for t) (same31 (first_flags first) (first_flags second)) size room ≡ join_fault (has s.footer || has t.footer) (firsts_agree s.files t.files) size room
  unfolding totals_of
  fault_same size room = second_same (has s.footer || has t.footer) _ _ size room (λ e. let (es, et) = no_feet s.footer t.footer e in test_agrees tag first second s t b o p es et)

  pub answer_is : (room : ℕ) → join_of tag first second room ≡ answer_by (tree_fault s t room) (length_of s + length_of t - 144)
  unfolding join_of answer_for
  answer_is room = rw (o.found, p.found, fault_same (joined_length first second) room, o.size, p.size)

  pub written : (room n : ℕ) → join_of tag first second room ≡ Ok n → JoinsIn s t room n
  written room n e =
      let (z, l) = answer_wrote (tree_fault s t room) (length_of s + length_of t - 144) n (sym (answer_is room) ∙ e) in
      subst (JoinsIn s t room) l (passed_joins s t room z o.spells.sound p.spells.sound)

  pub writes : (room n : ℕ) → JoinsIn s t room n → join_of tag first second room ≡ Ok n
  writes room n w =
      let l : length_of s + length_of t - 144 ≡ n = omega (arith, w.long, length_both s t w.joins.first w.joins.second) in
      answer_is room ∙ rw (joins_passed s t room n w, l)

  -- what is written spells the tree of both
  pub spells_both : Joins s t → Spells tag (join_tree s t) (joined_bytes tag first second)
  spells_both f = record { sound = f.sound; spelled = sym (bytes_joined tag first second s t o p f.first f.second) }
