-- The claims of finding a file, because each record is a file head with that hash, one with another, or changes nothing. Assumes nothing.
use Rattle.std.specs.Prelude.{Err, Ok, None}
use mathlib.Core.Path.{◌≡◌, refl, sym, ap, ◌∙◌, subst}
use mathlib.Core.Logic.{◌↔◌, ◌≢◌}
use mathlib.Core.Bool.{Bool, true, false, true≢false}
use mathlib.Core.List.{List, [], ◌∷◌}
use Prim.Native.Nat.{ℕ, ◌+◌}
use native.Mathlib.Omega.{arith}
use Rattle.words.specs.Checks.{pick}
use Rattle.words.specs.Le.{Bytes}
use Rattle.words.specs.Record.{IsHash, same_hash}
use Rattle.rules.specs.Kinds.{same_kind}
use Rattle.rules.specs.declared.Record.{Record}
use Rattle.words.specs.declared.Position.{Position}
use Rattle.rules.specs.declared.FileNumber.{FileNumber}
use Rattle.rules.specs.declared.Kind.{Kind}
use Rattle.rules.specs.declared.Kind.TheVariants as kind
use Rattle.layout.specs.Layout.{Shard, Each, rows_of, xorb_offset, footer_offset, records_of}
use Rattle.layout.specs.Scan.{Found, found_in, IsAccepted}
use Rattle.layout.proofs.Answers.{if_accepted_lem, was_accepted}
use Rattle.layout.proofs.Last.{spelling}
use Rattle.finder.specs.Find.{FileAnswer, the_file, file_at, file_in, file_found}
use Rattle.finder.specs.Claims.{Has, NoneHas, First, There, FirstFile, FileOfTree, FileClaim}
use Rattle.finder.specs.declared.FilePlace.{FilePlace}
use Rattle.finder.proofs.FileTree.{NoFile}
use Rattle.finder.proofs.Firsts.{first_here, first_later, not_none, other_hash, first_stands, foot_kinds, there}
use Rattle.finder.proofs.Begin.{Accepted, accepted, file_spelled}
use Rattle.finder.proofs.FileFirsts.{file_if, none_if}

-- what a kind is for the search
data Seen : Kind → Type 0 where
  a_file : Seen kind.FileHead
  another : {k : Kind} → NoFile k → same_kind k kind.FileHead ≡ false → Seen k

seen : (k : Kind) → Seen k
seen kind.Header = another (λ h n r l. refl) refl
seen kind.FileHead = a_file
seen kind.Segment = another (λ h n r l. refl) refl
seen kind.Verification = another (λ h n r l. refl) refl
seen kind.Metadata = another (λ h n r l. refl) refl
seen kind.XorbHead = another (λ h n r l. refl) refl
seen kind.Chunk = another (λ h n r l. refl) refl
seen kind.Bookend = another (λ h n r l. refl) refl
seen kind.Footer = another (λ h n r l. refl) refl

-- ## In any records

-- the two ways in which a search ends
data Ends (hash : List ℕ) (files : ℕ) (rs : List Record) : FileAnswer → Type 0 where
  absent : NoneHas kind.FileHead hash rs → Ends hash files rs (Ok None)
  found : (n : FileNumber) (p : Position) → FirstFile hash files rs n p → Ends hash files rs (the_file n p)

-- one record that is not it, and what the search behind it comes to
behind : (hash : List ℕ) (files files' : ℕ) (r : Record) (rs : List Record) {answer : FileAnswer} → (Has kind.FileHead hash r → ⊥)
    → files' ≡ files + pick (same_kind r.kind kind.FileHead) 1 0 → Ends hash files' rs answer → Ends hash files (r ∷ rs) answer
behind hash files files' r rs u e (absent h) = absent (u, h)
behind hash files files' r rs u e (found n p f) = found n p (record { first = first_later kind.FileHead hash r rs p u f.first; number = omega (arith, f.number) })

module _ (hash : List ℕ) (files : ℕ) (r : Record) (rs : List Record) (later : (n : ℕ) → Ends hash n rs (file_in hash n rs)) where
  at_file : (t : Bool) → r.kind ≡ kind.FileHead → same_hash r.words.hash hash ≡ t → Ends hash files (r ∷ rs) (pick t (the_file (record { 0 = files }) r.at) (file_in hash (files + 1) rs))
  at_file true e s = found (record { 0 = files }) r.at (record { first = first_here kind.FileHead hash r rs (record { kind = e; same = s }); number = omega arith })
  at_file false e s = behind hash files (files + 1) r rs (other_hash kind.FileHead hash r s) (rw e refl) (later (files + 1))

  at_kind : (k : Kind) → r.kind ≡ k → Seen k → Ends hash files (r ∷ rs) (file_at k hash files r (λ n. file_in hash n rs))
  at_kind kind.FileHead e a_file = at_file (same_hash r.words.hash hash) e refl
  at_kind k e (another q s) = rw (q hash files r (λ n. file_in hash n rs))
      (behind hash files files r rs (λ h. true≢false (ap (λ (x : Kind). same_kind x kind.FileHead) (sym h.kind ∙ e) ∙ s)) (rw (e, s) (omega arith)) (later files))

ends : (hash : List ℕ) (files : ℕ) (rs : List Record) → Ends hash files rs (file_in hash files rs)
unfolding file_in
ends hash files [] = absent tt
ends hash files (r ∷ rs) = at_kind hash files r rs (λ n. ends hash n rs) r.kind refl (seen r.kind)

-- what an end says of its answer
if_absent : {hash : List ℕ} {files : ℕ} {rs : List Record} {answer : FileAnswer} → Ends hash files rs answer → answer ≡ Ok None → NoneHas kind.FileHead hash rs
if_absent (absent n) e = n
if_absent (found n p f) e = absurd (cc)

if_none : {hash : List ℕ} {files : ℕ} {rs : List Record} {answer : FileAnswer} → Ends hash files rs answer → NoneHas kind.FileHead hash rs → answer ≡ Ok None
if_none (absent n) m = refl
if_none {hash} {rs = rs} (found n p f) m = absurd (not_none kind.FileHead hash rs p f.first m)

if_found : {hash : List ℕ} {files : ℕ} {rs : List Record} {answer : FileAnswer} (n : FileNumber) (p : Position) → Ends hash files rs answer → answer ≡ the_file n p → FirstFile hash files rs n p
if_found n p (absent u) e = absurd (cc)
if_found n p (found n' p' f) e =
    let q : ◌≡◌ {A = FilePlace} (record { number = n'; at = p' }) (record { number = n; at = p }) = cc in
    let en : n' ≡ n = ap (λ (x : FilePlace). x.number) q in
    let ep : p' ≡ p = ap (λ (x : FilePlace). x.at) q in
    rw (en, ep) at f

-- ## In an accepted shard

module _ (tag bytes hash : List ℕ) where
  ends_in : IsAccepted (found_in tag bytes).verdict → Ends hash 0 (found_in tag bytes).records (file_found tag bytes hash)
  unfolding file_found
  ends_in a = subst (Ends hash 0 (found_in tag bytes).records) (sym (if_accepted_lem Err (found_in tag bytes).verdict (file_in hash 0 (found_in tag bytes).records) a)) (ends hash 0 _)

  found_there : (n : FileNumber) (p : Position) → Bytes tag → Bytes bytes → IsHash hash → file_found tag bytes hash ≡ the_file n p → There bytes hash p
  unfolding file_found records_of
  found_there n p t y h e =
      let a = was_accepted Err (λ (f : FileAnswer). f ≡ the_file n p) (found_in tag bytes).verdict (λ s. file_in hash 0 (found_in tag bytes).records) (λ r q. absurd (cc)) e in
      let o : Accepted tag bytes = accepted tag bytes t y a in
      let s : Shard = o.shard in
      let f : First kind.FileHead hash (records_of tag s) p = subst (λ (f : Found). First kind.FileHead hash f.records p) o.spelling.found (if_found n p (ends_in a) e).first in
      there bytes hash p y h (first_stands kind.FileHead bytes hash 0 (rows_of tag s) _ p o.rows (foot_kinds kind.FileHead (xorb_offset s) (footer_offset s) s.footer (λ q. cc)) f)

pub files : FileClaim
files = record {
  absent = λ hash n rs. (if_absent (ends hash n rs), if_none (ends hash n rs));
  first = λ hash n rs m p e. if_found m p (ends hash n rs) e;
  shard = λ tag bytes hash a. (if_absent (ends_in tag bytes hash a), if_none (ends_in tag bytes hash a));
  there = found_there;
  tree = λ tag bytes s hash n p t l h x.
      subst (λ (r : FileAnswer). r ≡ the_file n p ↔ FileOfTree hash 0 48 s.files n p) (sym (file_spelled tag bytes hash s (spelling tag l t bytes s x))) (file_if hash h 0 48 s.files x.sound.files n p);
  none_in_tree = λ tag bytes s hash t l h x.
      subst (λ (r : FileAnswer). r ≡ Ok None ↔ Each (λ f. f.hash ≢ hash) s.files) (sym (file_spelled tag bytes hash s (spelling tag l t bytes s x))) (none_if hash h 0 48 s.files x.sound.files);
}
