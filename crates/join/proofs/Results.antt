-- What a call leaves in the buffer, by the two trees, because its result is the joined bytes. Assumes nothing.
use Rattle.std.specs.Prelude.{Result, Ok, Err}
use Rattle.words.specs.declared.Refusal.{Refusal}
use mathlib.Core.Path.{◌≡◌, refl, sym, ap, ◌∙◌, subst}
use mathlib.Core.Option.{none, some}
use mathlib.Core.List.{List}
use Prim.Native.Nat.{ℕ, ◌≤◌}
use native.Mathlib.Omega.{arith}
use lib.ListN.{length, drop}
use lib.Seq.{take_at}
use Rattle.words.specs.Le.{Bytes}
use Rattle.rules.specs.Rules.{same31}
use Rattle.rules.specs.declared.Summary.{Summary}
use Rattle.rules.specs.Verdicts.{Verdict}
use Rattle.layout.specs.Layout.{Shard, has, length_of}
use Rattle.layout.specs.Claim.{summary_for}
use Rattle.layout.specs.Scan.{Found, found_in, IsAccepted, if_accepted}
use Rattle.layout.proofs.Last.{Spelling, spelling, tree_of}
use Rattle.join.specs.Join.{joined_bytes, joined_length, first_flags, fault_for, answer_for, join_of, buffer_of}
use Rattle.join.specs.Claims.{join_tree, result_by, result_of, Joins, JoinsIn, Joinable}
use Rattle.join.proofs.Checks.{all_passed, answer_wrote, both_false}
use Rattle.join.proofs.Exactly.{has_none, written, writes, spells_both}

-- ## Accepted, and without footer

pub joinable_of : (tag bytes : List ℕ) (s : Shard) → Spelling tag bytes s → s.footer ≡ none → Joinable tag bytes
joinable_of tag bytes s o e = record { summary = summary_for s; accepted = ap (λ (f : Found). f.verdict) o.found; footer = ap has e }

-- something is written only of two such shards
both_by : (tag first second : List ℕ) (room size : ℕ) (v w : Verdict) → (found_in tag first).verdict ≡ v → (found_in tag second).verdict ≡ w
    → if_accepted Err v (λ s. if_accepted Err w (λ t. answer_for s t first second room)) ≡ Ok size → Joinable tag first × Joinable tag second
unfolding answer_for
both_by tag first second room size (Ok s) (Ok t) ev ew e =
    let (z, l) = answer_wrote (fault_for s t (same31 (first_flags first) (first_flags second)) (joined_length first second) room) (joined_length first second) size e in
    let (es, et) = both_false s.footer t.footer (all_passed _ _ _ _ z).no_footer in
    (record { summary = s; accepted = ev; footer = es }, record { summary = t; accepted = ew; footer = et })
both_by tag first second room size (Ok s) (Err r) ev ew e = absurd (cc)
both_by tag first second room size (Err r) w ev ew e = absurd (cc)

pub both_joinable : (tag first second : List ℕ) (room size : ℕ) → join_of tag first second room ≡ Ok size → Joinable tag first × Joinable tag second
unfolding join_of
both_joinable tag first second room size e = both_by tag first second room size (found_in tag first).verdict (found_in tag second).verdict refl refl e

-- so many bytes were written of two shards, and here are their trees
pub record Trees (tag first second : List ℕ) (room size : ℕ) : Type 0 where
  pub s : Shard
  pub t : Shard
  pub of_first : Spelling tag first s
  pub of_second : Spelling tag second t
  pub wrote : JoinsIn s t room size
  pub result : Spelling tag (joined_bytes tag first second) (join_tree s t)

module _ (tag : List ℕ) (n32 : length tag ≡ 32) (b : Bytes tag) where
  pub joinable_tree : (bytes : List ℕ) → Bytes bytes → Joinable tag bytes → (s : Shard) × Spelling tag bytes s × (s.footer ≡ none)
  joinable_tree bytes y a =
      let (s, o) = tree_of tag n32 b bytes y (subst IsAccepted (sym a.accepted) tt) in
      let e : Ok a.summary ≡ Ok (summary_for s) = sym a.accepted ∙ ap (λ (f : Found). f.verdict) o.found in
      let f : a.summary ≡ summary_for s = cc in
      (s, o, has_none s.footer (sym (ap (λ (x : Summary). x.footer) f) ∙ a.footer))

  pub result_spelling : (first second : List ℕ) (s t : Shard) → Spelling tag first s → Spelling tag second t → Joins s t → Spelling tag (joined_bytes tag first second) (join_tree s t)
  result_spelling first second s t o p f = spelling tag n32 b (joined_bytes tag first second) (join_tree s t) (spells_both tag b first second s t o p f)

  pub trees : (first second : List ℕ) (room size : ℕ) → Bytes first → Bytes second → join_of tag first second room ≡ Ok size → Trees tag first second room size
  trees first second room size y1 y2 e =
      let (a1, a2) = both_joinable tag first second room size e in
      let (s, o, es) = joinable_tree first y1 a1 in
      let (t, p, et) = joinable_tree second y2 a2 in
      let w = written tag b first second s t o p room size e in
      record { s = s; t = t; of_first = o; of_second = p; wrote = w; result = result_spelling first second s t o p w.joins }

  -- ## The shard in the buffer

  length_result : (first second : List ℕ) (s t : Shard) → Spelling tag first s → Spelling tag second t → (room n : ℕ) → JoinsIn s t room n → length (joined_bytes tag first second) ≡ n
  length_result first second s t o p room n w = (result_spelling first second s t o p w.joins).size ∙ sym w.long

  pub result_there : (first second buffer : List ℕ) (s t : Shard) → Spelling tag first s → Spelling tag second t → Joins s t → length_of (join_tree s t) ≤ length buffer → result_of tag first second buffer ≡ some (joined_bytes tag first second)
  unfolding result_of buffer_of
  result_there first second buffer s t o p f l =
      let w : JoinsIn s t (length buffer) (length_of (join_tree s t)) = record { joins = f; long = refl; fits = l } in
      rw (writes tag b first second s t o p (length buffer) (length_of (join_tree s t)) w)
      (ap some (take_at (joined_bytes tag first second) (drop (length_of (join_tree s t)) buffer) (length_of (join_tree s t)) (length_result first second s t o p (length buffer) (length_of (join_tree s t)) w)))

  -- a shard in the buffer was written
  wrote_by : (a : Result ℕ Refusal) (buffer result : List ℕ) → result_by a buffer ≡ some result → (n : ℕ) × (a ≡ Ok n)
  wrote_by (Ok n) buffer result e = (n, refl)
  wrote_by (Err r) buffer result e = absurd (cc)

  was_written : (first second buffer result : List ℕ) → result_of tag first second buffer ≡ some result → (n : ℕ) × (join_of tag first second (length buffer) ≡ Ok n)
  unfolding result_of
  was_written first second buffer result e = wrote_by (join_of tag first second (length buffer)) (buffer_of tag first second buffer) result e

  -- of two that can be joined
  pub result_joinable : (first second buffer result : List ℕ) → result_of tag first second buffer ≡ some result → Joinable tag first × Joinable tag second
  result_joinable first second buffer result e = let (n, w) = was_written first second buffer result e in both_joinable tag first second (length buffer) n w

  -- whose trees have room joined, and what is there is spelled by the tree of both
  pub result_told : (first second buffer result : List ℕ) (s t : Shard) → Spelling tag first s → Spelling tag second t → result_of tag first second buffer ≡ some result
      → (length_of (join_tree s t) ≤ length buffer) × Spelling tag result (join_tree s t)
  result_told first second buffer result s t o p e =
      let (n, w) = was_written first second buffer result e in
      let k : JoinsIn s t (length buffer) n = written tag b first second s t o p (length buffer) n w in
      let l : length_of (join_tree s t) ≤ length buffer = omega (arith, k.long, k.fits) in
      let h : some result ≡ some (joined_bytes tag first second) = sym e ∙ result_there first second buffer s t o p k.joins l in
      let r : result ≡ joined_bytes tag first second = cc in
      (l, subst (λ (bytes : List ℕ). Spelling tag bytes (join_tree s t)) (sym r) (result_spelling first second s t o p k.joins))
