-- The claims of the audit, because either no segment is false or there is a first that is. Assumes nothing.
use Rattle.std.specs.Prelude.{Result, Ok, Err}
use mathlib.Core.Path.{◌≡◌, refl, sym, ap, ◌∙◌, subst}
use mathlib.Core.Logic.{◌⊎◌, inl, inr}
use mathlib.Core.Bool.{Bool, true, false, true≢false}
use mathlib.Core.Option.{Option, none, some}
use mathlib.Core.List.{List, [], ◌∷◌, ◌++◌, map}
use Prim.Native.Nat.{ℕ, ◌+◌, ◌*◌}
use native.Mathlib.Omega.{arith}
use lib.ListN.{length, length-append}
use Rattle.words.specs.Checks.{pick}
use Rattle.words.specs.Le.{Bytes}
use Rattle.words.specs.Record.{same_hash, words_at}
use Rattle.words.proofs.Records.{hash_same, same_self}
use Rattle.words.specs.declared.Refusal.{Refusal}
use Rattle.rules.specs.Verdicts.{Verdict}
use Rattle.layout.specs.Layout.{Hash, Segment, FileBlock, XorbBlock, Shard, Row, Each, sum_of, file_rows, segment_row, rows_of, xorb_section, totals_of}
use Rattle.layout.specs.Blocks.{other_rows, entry_rows, file_block, blocks_then, Stand}
use Rattle.layout.specs.Claim.{Spells}
use Rattle.layout.specs.Scan.{Found, found_in, IsAccepted}
use Rattle.layout.proofs.Answers.{was_accepted}
use Rattle.layout.proofs.Leading.{segments_first}
use Rattle.layout.proofs.Last.{tag_size, spelling, tree_of}
use Rattle.finder.proofs.Standing.{stand_behind, stand_shard}
use Rattle.finder.proofs.Sections.{file_section_lem}
use Rattle.audit.specs.Audit.{is_listed, is_false, PlacedSegment, first_false, listed_of, unlisted_of, counts_of, false_at, answer_to, audit_in, placed_behind, placed_from, placed_of, audit_for, audit_of}
use Rattle.audit.specs.Claims.{False, NoneFalse, FirstFalse, Passes, Fails, AuditClaim}
use Rattle.audit.specs.declared.Counts.{Counts}
use Rattle.audit.proofs.Firsts.{first_to, first_from, absent_to, absent_from, listed_to, listed_from, true_to, true_from, false_to, false_from}
use Rattle.audit.proofs.Begin.{audit_refused, audit_shard}

-- ## The first false segment

module _ (xs : List XorbBlock) where
  not_false : (s : Segment) → is_false xs s ≡ false → False xs s → ⊥
  not_false s e f = true≢false (sym (false_from xs s f) ∙ e)

  is_not : (s : Segment) → (False xs s → ⊥) → is_false xs s ≡ false
  is_not s h = go (is_false xs s) refl
    where
      go : (b : Bool) → is_false xs s ≡ b → b ≡ false
      go true e = absurd (h (false_to xs s e))
      go false e = refl

  none_to : (ps : List PlacedSegment) → first_false xs ps ≡ none → NoneFalse xs ps
  unfolding first_false
  none_to [] e = tt
  none_to (p ∷ ps) e = go (none_to ps) (is_false xs p.segment) refl e
    where
      go : (first_false xs ps ≡ none → NoneFalse xs ps) → (b : Bool) → is_false xs p.segment ≡ b → pick b (some p.at) (first_false xs ps) ≡ none → NoneFalse xs (p ∷ ps)
      go rest true q f = let z : ◌≡◌ {A = ℕ} 0 1 = cc in absurd (omega arith)
      go rest false q f = (not_false p.segment q, rest f)

  none_from : (ps : List PlacedSegment) → NoneFalse xs ps → first_false xs ps ≡ none
  unfolding first_false
  none_from [] h = refl
  none_from (p ∷ ps) (h, hs) = rw (is_not p.segment h) (none_from ps hs)

  at_to : (ps : List PlacedSegment) (at : ℕ) → first_false xs ps ≡ some at → FirstFalse xs ps at
  unfolding first_false
  at_to [] at e = let z : ◌≡◌ {A = ℕ} 0 1 = cc in absurd (omega arith)
  at_to (p ∷ ps) at e = go (at_to ps at) (is_false xs p.segment) refl e
    where
      go : (first_false xs ps ≡ some at → FirstFalse xs ps at) → (b : Bool) → is_false xs p.segment ≡ b → pick b (some p.at) (first_false xs ps) ≡ some at → FirstFalse xs (p ∷ ps) at
      go rest true q f = record { before = []; one = p; after = ps; split = refl; is_false = false_to xs p.segment q; none = tt; position = cc }
      go rest false q f =
          let r : FirstFalse xs ps at = rest f in
          record { before = p ∷ r.before; one = r.one; after = r.after; split = ap (λ (l : List PlacedSegment). p ∷ l) r.split; is_false = r.is_false; none = (not_false p.segment q, r.none); position = r.position }

  at_after : (before after : List PlacedSegment) (p : PlacedSegment) → NoneFalse xs before → False xs p.segment → first_false xs (before ++ (p ∷ after)) ≡ some p.at
  unfolding first_false
  at_after [] after p h f = rw (false_from xs p.segment f)
  at_after (q ∷ qs) after p (h, hs) f = rw (is_not q.segment h) (at_after qs after p hs f)

  at_from : (ps : List PlacedSegment) (at : ℕ) → FirstFalse xs ps at → first_false xs ps ≡ some at
  at_from ps at f = ap (first_false xs) f.split ∙ at_after f.before f.after f.one f.none f.is_false ∙ ap some f.position

-- ## The answer for a tree

module _ (s : Shard) where
  abbrev counts : Counts
  counts = counts_of s.xorbs (placed_of s)

  abbrev FirstIs : Option ℕ → Type 0
  FirstIs o = first_false s.xorbs (placed_of s) ≡ o

  passes_to : (c : Counts) → audit_for s ≡ Ok c → Passes s c
  unfolding audit_in
  passes_to c e = go (first_false s.xorbs (placed_of s)) refl e
    where
      go : (o : Option ℕ) → FirstIs o → answer_to o counts ≡ Ok c → Passes s c
      go none q f = let k : counts ≡ c = cc in record { none = none_to s.xorbs (placed_of s) q; are = sym k }
      go (some at) q f = let z : ◌≡◌ {A = ℕ} 0 1 = cc in absurd (omega arith)

  passes_from : (c : Counts) → Passes s c → audit_for s ≡ Ok c
  unfolding audit_in
  passes_from c p = ap (λ (o : Option ℕ). answer_to o counts) (none_from s.xorbs (placed_of s) p.none) ∙ ap Ok (sym p.are)

  fails_to : (r : Refusal) → audit_for s ≡ Err r → Fails s r
  unfolding audit_in
  fails_to r e = go (first_false s.xorbs (placed_of s)) refl e
    where
      go : (o : Option ℕ) → FirstIs o → answer_to o counts ≡ Err r → Fails s r
      go none q f = let z : ◌≡◌ {A = ℕ} 0 1 = cc in absurd (omega arith)
      go (some at) q f = let k : false_at at ≡ r = cc in record { at = at; first = at_to s.xorbs (placed_of s) at q; is = sym k }

  fails_from : (r : Refusal) → Fails s r → audit_for s ≡ Err r
  unfolding audit_in
  fails_from r f = ap (λ (o : Option ℕ). answer_to o counts) (at_from s.xorbs (placed_of s) f.at f.first) ∙ ap Err (sym f.is)

-- ## Their number and their positions

length_behind : (at : ℕ) (ss : List Segment) → length (placed_behind at ss) ≡ length ss
length_behind at [] = refl
length_behind at (s ∷ ss) = omega (arith, length_behind (at + 48) ss)

length_from : (at : ℕ) (fs : List FileBlock) → length (placed_from at fs) ≡ sum_of (λ f. length f.segments) fs
length_from at [] = refl
length_from at (f ∷ fs) = length-append (placed_behind (at + 48) f.segments) _ ∙ omega (arith, length_behind (at + 48) f.segments, length_from (at + 48 * length (file_rows f)) fs)

all_of : (s : Shard) → length (placed_of s) ≡ (totals_of s).segments
unfolding totals_of
all_of s = length_from 48 s.files

-- each counts once
once : (xs : List XorbBlock) (ps : List PlacedSegment) → listed_of xs ps + unlisted_of xs ps ≡ length ps
once xs [] = refl
once xs (p ∷ ps) = go (once xs ps) (is_listed xs p.segment)
  where
    go : listed_of xs ps + unlisted_of xs ps ≡ length ps → (b : Bool) → (pick b 1 0 + listed_of xs ps) + (pick b 0 1 + unlisted_of xs ps) ≡ length (p ∷ ps)
    go ih true = omega arith
    go ih false = omega arith

sum_of_lem : (s : Shard) (c : Counts) → Passes s c → c.listed + c.unlisted ≡ (totals_of s).segments
sum_of_lem s c p = ap (λ (k : Counts). k.listed + k.unlisted) p.are ∙ once s.xorbs (placed_of s) ∙ all_of s

abbrev There : List ℕ → List PlacedSegment → Type 0
There bytes ps = Each (λ p. words_at bytes p.at ≡ (segment_row p.segment).words) ps

there_behind : (bytes : List ℕ) (at : ℕ) (ss : List Segment) (others : List Row) (ps : List PlacedSegment) → Stand bytes at (map segment_row ss ++ others) → There bytes ps → There bytes (placed_behind at ss ++ ps)
there_behind bytes at [] others ps t h = h
there_behind bytes at (s ∷ ss) others ps (w, l, t) h = (w, there_behind bytes (at + 48) ss others ps t h)

there_from : (bytes : List ℕ) (at : ℕ) (fs : List FileBlock) (end : List Row) → Stand bytes at (blocks_then file_block fs end) → There bytes (placed_from at fs)
unfolding file_rows
there_from bytes at [] end t = tt
there_from bytes at (f ∷ fs) end (w, l, t) =
    let e : at + 48 + 48 * length (entry_rows f) ≡ at + 48 * length (file_rows f) = omega arith in
    there_behind bytes (at + 48) f.segments (other_rows f ++ blocks_then file_block fs end) _
    (subst (Stand bytes (at + 48)) (segments_first f (blocks_then file_block fs end)) t)
    (there_from bytes (at + 48 * length (file_rows f)) fs end (subst (λ (p : ℕ). Stand bytes p (blocks_then file_block fs end)) e (stand_behind bytes (at + 48) (entry_rows f) (blocks_then file_block fs end) t)))

there_of : (tag bytes : List ℕ) (s : Shard) → Bytes tag → Spells tag s bytes → There bytes (placed_of s)
unfolding rows_of
there_of tag bytes s t x = there_from bytes 48 s.files (xorb_section s) (subst (Stand bytes 48) (file_section_lem s (xorb_section s)) (stand_shard tag bytes s t x).2)

-- ## What the answer says

module _ (tag bytes : List ℕ) (t : Bytes tag) (b : Bytes bytes) where
  counts_say : (c : Counts) → audit_of tag bytes ≡ Ok c → (s : Shard) × Spells tag s bytes × Passes s c
  unfolding audit_of
  counts_say c e =
      let a : IsAccepted (found_in tag bytes).verdict = was_accepted Err (λ (x : Result Counts Refusal). x ≡ Ok c) (found_in tag bytes).verdict _
      (λ r q. let z : ◌≡◌ {A = ℕ} 0 1 = cc in absurd (omega arith)) e in
      let (s, o) = tree_of tag (tag_size tag bytes a) t bytes b a in
      (s, o.spells, passes_to s c (sym (audit_shard tag bytes s o) ∙ e))

  refusal_says : (r : Refusal) → audit_of tag bytes ≡ Err r → (found_in tag bytes).verdict ≡ Err r ⊎ ((s : Shard) × Spells tag s bytes × Fails s r)
  refusal_says r e = go (found_in tag bytes).verdict refl
    where
      go : (v : Verdict) → (found_in tag bytes).verdict ≡ v → (found_in tag bytes).verdict ≡ Err r ⊎ ((s : Shard) × Spells tag s bytes × Fails s r)
      go (Ok m) q =
          let a : IsAccepted (found_in tag bytes).verdict = subst IsAccepted (sym q) tt in
          let (s, o) = tree_of tag (tag_size tag bytes a) t bytes b a in
          inr (s, o.spells, fails_to s r (sym (audit_shard tag bytes s o) ∙ e))
      go (Err x) q =
          let k : Err x ≡ Err r = sym (audit_refused tag bytes x q) ∙ e in
          let p : x ≡ r = cc in
          inl (q ∙ ap Err p)

pub audits : AuditClaim
audits = record {
  refused = audit_refused;
  shard = λ tag bytes s t n x. audit_shard tag bytes s (spelling tag n t bytes s x);
  apart = λ tag bytes s t n x. ap (λ (f : Found). f.verdict) (spelling tag n t bytes s x).found;
  there = there_of;
  all = all_of;
  first = λ hash xs x. (first_to hash xs x, first_from hash xs x);
  absent = λ hash xs. (absent_to hash xs, absent_from hash xs);
  same = λ g h p q. (hash_same g h p q, λ e. subst (λ (x : Hash). same_hash g x ≡ true) e (same_self g));
  listed_if = λ xs s. (listed_to xs s, λ (x, f). listed_from xs s x f);
  true_if = λ x s. (true_to x s, true_from x s);
  counted_if = λ s c. (passes_to s c, passes_from s c);
  refused_if = λ s r. (fails_to s r, fails_from s r);
  sum = λ s c e. sum_of_lem s c (passes_to s c e);
  counts_say = λ tag bytes c t b e. counts_say tag bytes t b c e;
  refusal_says = λ tag bytes r t b e. refusal_says tag bytes t b r e;
}
