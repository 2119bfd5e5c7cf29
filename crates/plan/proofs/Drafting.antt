-- Each way out of `drafted` keeps its promise, because the plan is refused for the same reason, or has the rows that were counted. Assumes nothing.
use Rattle.std.specs.Prelude.{Result, Option, Ok, Err, Some, None}
use mathlib.Core.Path.{◌≡◌, ap, ◌∙◌, subst}
use mathlib.Core.Logic.{◌⊎◌}
use mathlib.Core.Option.{some}
use mathlib.Core.List.{List}
use Prim.Native.Nat.{ℕ, ◌≤◌, ◌<◌}
use native.Mathlib.Omega.{arith}
use lib.ListN.{length}
use Rattle.rules.specs.Rules.{start}
use Rattle.rules.specs.Verdicts.{refusal_at}
use Rattle.words.specs.declared.Refusal.{Refusal}
use Rattle.layout.specs.Layout.{Segment}
use Rattle.layout.specs.Scan.{found_in}
use Rattle.plan.specs.Plan.{fetch, refused, file_bytes, plan_for, plan_of}
use Rattle.plan.specs.Claims.{InFile}
use Rattle.plan.specs.Walk.{segments_left, rows_left, measure_of, Seeks, Drafts}
use Rattle.plan.specs.declared.drafts.Draft.{Draft}
use Rattle.plan.specs.declared.rows.Rows.{Rows}
use Rattle.plan.specs.declared.rows.Measure.{Measure}
use Rattle.plan.specs.declared.segments.Segments.{Segments}
use Rattle.plan.proofs.Outcomes.{plan_refused, plan_found, out_from, short_from, rows_from_lem}

pub past_file : (r : Rows) (m : Measure) → m ≡ measure_of r → 0 < m.past → file_bytes (segments_left r.segments) < r.b
past_file r m e h = omega (arith, ap (λ (y : Measure). y.past) e)

module _ (tag bytes : List ℕ) (file a b room : ℕ) where
  -- ## No file

  pub drafts_refused : (r : Refusal) (x : Result Draft Refusal) → (found_in tag bytes).verdict ≡ Err r → x ≡ Err r → Drafts tag bytes file a b room x
  drafts_refused r x h q = rw q (plan_refused tag bytes file a b room r h)

  module _ (o : Option Segments) (h : Seeks tag bytes file (Ok o)) where
    so : (p : Option Segments) → o ≡ p → Seeks tag bytes file (Ok p)
    so p e = subst (λ (x : Option Segments). Seeks tag bytes file (Ok x)) e h

    pub no_file : o ≡ None → (r : Refusal) → r ≡ refusal_at 17 start → plan_of tag bytes file a b room ≡ refused r
    no_file e r q = rw q (plan_found tag bytes file a b room _ (so None e).0 (so None e).1)

    -- ## A file that is there

    module _ (s : Segments) (e : o ≡ Some s) where
      abbrev segments : List Segment
      segments = segments_left s

      abbrev range : Rows
      range = record { segments = s; a = a; b = b }

      plan_is : plan_of tag bytes file a b room ≡ plan_for (some segments) a b room
      plan_is = plan_found tag bytes file a b room _ (so (Some s) e).0 (so (Some s) e).1

      pub out_of_file : b ≤ a ⊎ file_bytes segments < b → (r : Refusal) → r ≡ refusal_at 18 start → plan_of tag bytes file a b room ≡ refused r
      out_of_file l r q = rw q (plan_is ∙ out_from segments a b room l)

      module _ (l : a < b) (m : Measure) (measured : m ≡ measure_of range) (past : m.past ≤ 0) where
        count : m.rows ≡ length (rows_left range)
        count = ap (λ (y : Measure). y.rows) measured

        in_file : InFile segments a b
        in_file = record { range = l; end = omega (arith, ap (λ (y : Measure). y.past) measured) }

        pub too_short : room < m.rows → (r : Refusal) → r ≡ refusal_at 15 start → plan_of tag bytes file a b room ≡ refused r
        too_short l r q = rw q (plan_is ∙ short_from segments a b room (in_file, omega (arith, count)))

        pub planned : m.rows ≤ room → (plan_of tag bytes file a b room ≡ fetch (rows_left range)) × (m.rows ≡ length (rows_left range)) × (m.rows ≤ room)
        planned l = (plan_is ∙ rows_from_lem segments a b room in_file (omega (arith, count)), count, l)

-- what `drafted` stands on
pub ruleset drafting = (drafts_refused, no_file, past_file, out_of_file, too_short, planned)
