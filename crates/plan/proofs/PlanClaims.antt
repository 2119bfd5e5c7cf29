-- The claims of the plan, because the records found in an accepted shard are those of its tree. Assumes nothing.
use Rattle.std.specs.Prelude.{Result, Ok, Err}
use Rattle.words.specs.declared.Refusal.{Refusal}
use mathlib.Core.Path.{◌≡◌, refl, sym, ap, ◌∙◌, subst}
use mathlib.Core.Bool.{true≢false}
use mathlib.Core.Option.{Option, none, some}
use mathlib.Core.List.{List, [], ◌∷◌, ◌++◌}
use Prim.Native.Nat.{ℕ, zero, suc, ◌≤◌}
use native.Mathlib.Omega.{arith}
use lib.ListN.{length, take, drop}
use lib.Seq.{take_at, drop_at}
use Rattle.words.specs.Le.{Bytes}
use Rattle.layout.specs.Layout.{Segment, FileBlock, Shard, has, sum_of, joined}
use Rattle.layout.specs.Scan.{Found, found_in, IsAccepted}
use Rattle.layout.proofs.Last.{tag_size, Spelling, spelling, tree_of}
use Rattle.layout.proofs.Answers.{was_accepted}
use Rattle.plan.specs.Plan.{Plan, fetch, refused, rows_for, segments_at, segments_in, plan_for, plan_of, answer_to, table_to}
use Rattle.plan.specs.Claims.{InFile, Delivers, fetched, PlanClaim}
use Rattle.plan.specs.declared.Row.{Row}
use Rattle.plan.proofs.Tree.{in_bytes}
use Rattle.plan.proofs.Outcomes.{plan_refused, plan_found, out_to, out_from, short_to, short_from, rows_to, rows_from_lem}
use Rattle.plan.proofs.RowClaims.{rows}

-- ## Shards

plan_spelled : (tag bytes : List ℕ) (s : Shard) (file a b room : ℕ) → Spelling tag bytes s → plan_of tag bytes file a b room ≡ plan_for (segments_at file s.files) a b room
plan_spelled tag bytes s file a b room o = plan_found tag bytes file a b room _ (subst (λ (f : Found). IsAccepted f.verdict) (sym o.found) tt) (in_bytes tag bytes s file o)

-- ## Files

absent_to : (file : ℕ) (files : List FileBlock) → segments_at file files ≡ none → length files ≤ file
absent_to file [] e = omega arith
absent_to zero (f ∷ fs) e = absurd (true≢false (ap has e))
absent_to (suc n) (f ∷ fs) e = omega (arith, absent_to n fs e)

absent_from : (file : ℕ) (files : List FileBlock) → length files ≤ file → segments_at file files ≡ none
absent_from file [] h = refl
absent_from zero (f ∷ fs) h = absurd (omega arith)
absent_from (suc n) (f ∷ fs) h = absent_from n fs (omega arith)

-- ## What a host has

-- where rows are answered, there is the file, and these are its rows
record Answered (o : Option (List Segment)) (a b room n : ℕ) : Type 0 where
  segments : List Segment
  found : o ≡ some segments
  in_file : InFile segments a b
  rows : plan_for o a b room ≡ fetch (rows_for a b segments)
  count : length (rows_for a b segments) ≡ n

-- the rows that an answer counts
abbrev counted : Result ℕ Refusal → ℕ
counted (Ok n) = suc n
counted (Err r) = 0

answered : (o : Option (List Segment)) (a b room n : ℕ) → answer_to (plan_for o a b room) ≡ Ok n → Answered o a b room n
answered none a b room n e = absurd (omega (arith, ap counted e))
answered (some ss) a b room n e = go (plan_for (some ss) a b room) refl e
  where
    go : (p : Plan) → plan_for (some ss) a b room ≡ p → answer_to p ≡ Ok n → Answered (some ss) a b room n
    go (fetch rs) q u =
        let (i, l, r) = rows_to ss a b room rs q in
        record { segments = ss; found = refl; in_file = i; rows = q ∙ ap fetch r; count = ap length (sym r) ∙ omega (arith, ap counted u) }
    go (refused r) q u = absurd (omega (arith, ap counted u))

module _ (tag bytes : List ℕ) (file a b n : ℕ) (table : List Row) (answers : answer_to (plan_of tag bytes file a b (length table)) ≡ Ok n) where
  -- a shard that is refused answers no rows
  accepted : IsAccepted (found_in tag bytes).verdict
  unfolding plan_of
  accepted =
      was_accepted refused (λ (p : Plan). answer_to p ≡ Ok n) (found_in tag bytes).verdict (λ s. plan_for (segments_in file (found_in tag bytes).records) a b (length table))
      (λ r e. absurd (omega (arith, ap counted e))) answers

  delivered : Bytes tag → Bytes bytes → Delivers tag bytes file a b n table (table_to (plan_of tag bytes file a b (length table)) table)
  delivered t b' =
      let (s, o) = tree_of tag (tag_size tag bytes accepted) t bytes b' accepted in
      let p = plan_spelled tag bytes s file a b (length table) o in
      let r : Answered (segments_at file s.files) a b (length table) n = answered _ a b (length table) n (sym (ap answer_to p) ∙ answers) in
      let l : List Row = rows_for a b r.segments in
      let full : table_to (plan_of tag bytes file a b (length table)) table ≡ l ++ drop (length l) table = ap (λ (q : Plan). table_to q table) (p ∙ r.rows) in
      let first : take n (table_to (plan_of tag bytes file a b (length table)) table) ≡ l = ap (take n) full ∙ take_at l (drop (length l) table) n r.count in
      record {
        shard = s;
        spells = o.spells;
        segments = r.segments;
        found = r.found;
        in_file = r.in_file;
        are = first;
        takes = ap (λ (rs : List Row). sum_of (λ (x : Row). x.take) rs) first ∙ rows.takes a b r.segments (omega (arith, r.in_file.range)) r.in_file.end;
        beyond = ap (drop n) full ∙ drop_at l (drop (length l) table) n r.count ∙ ap (λ (i : ℕ). drop i table) r.count;
        gets = λ store honest. ap (joined (fetched store)) first ∙ rows.bytes store a b r.segments honest;
      }

pub plans : PlanClaim
plans = record {
  refusal = plan_refused;
  shard = λ tag bytes s file a b room t l x. plan_spelled tag bytes s file a b room (spelling tag l t bytes s x);
  absent = λ file files. (absent_to file files, absent_from file files);
  out_of_file = λ ss a b room. (out_to ss a b room, out_from ss a b room);
  too_short = λ ss a b room. (short_to ss a b room, short_from ss a b room);
  planned_if = λ ss a b room rs. (rows_to ss a b room rs, (λ (i, l, r). rows_from_lem ss a b room i (rw (sym r) l) ∙ ap fetch (sym r)));
  enough = λ ss a b room i l. rows_from_lem ss a b room i (omega (arith, rows.few a b ss));
  delivers = λ tag bytes file a b n table t b' e. delivered tag bytes file a b n table e t b';
}
