-- Reading a file entry by entry comes to what the scan of all of it says: what is read is what is left of the file, a head is judged by its 110 bytes, and data that are
-- not there end the file. Assumes nothing.
use Rattle.std.proofs.Common.{◌≡◌, ℕ, ◌+◌, ◌-◌, ◌^◌, ◌<◌, ◌≤◌, List, [], ◌++◌, length, drop, refl, sym, ap, subst, ◌∙◌, arith, length-append, length-drop, append-nil, drop-drop, drop_at, Bool, true, false, Option, None, Some, Result, Ok, Err, OnOk, MatchResult, inl, inr, codes}
use lib.Dec.{leb}
use borrow.Author.Tests.{lt-leb, leb-true, leb-false}
use Rattle.std.specs.Io.KnownBytes.{Appends, Consumes, IsAtEnd}
use Rattle.std.proofs.KnownBytes.{Consumes-trans}
use Rattle.std.proofs.lemmas.Result.{on_ok_weaker}
use Rattle.words.specs.Refusals.{refused_at, refusal_text}
use Rattle.blobs.specs.declared.Tally.{Tally}
use Rattle.blobs.specs.Blobs.{head_of, whole_of, with_entry, none}
use Rattle.blobs.proofs.Counting.{SoFar, so_begins, so_ends, so_refused, so_on}
use Rattle.blobs.proofs.Heads.{still_faulty, head_fits, fits, head_front, whole}
use Rattle.blobline.specs.declared.Entries.{Entries}
use Rattle.blobline.specs.declared.Stop.{Stop}
use Rattle.blobline.specs.declared.Stop.TheVariants as stop
use Rattle.blobline.specs.Counts.{IsShort, ReadsEntry, Reached, Due, Ended, counts_of, failure_at, IsTold, Reports}

-- ## What is left of a list

record Taken (xs bs : List ℕ) (new : Option (List ℕ)) : Type 0 where
  rest : List ℕ
  left : new ≡ Some rest
  split : xs ≡ bs ++ rest

taken : {xs : List ℕ} {old new : Option (List ℕ)} (bs : List ℕ) → old ≡ Some xs → Consumes old new bs → Taken xs bs new
taken {xs = xs} {new = new} bs e c = go new (subst (λ (l : Option (List ℕ)). Consumes l new bs) e c)
  where
    go : (n : Option (List ℕ)) → Consumes (Some xs) n bs → Taken xs bs n
    go None c = absurd c
    go (Some ys) c = record { rest = ys; left = refl; split = c }

at_end : {xs bs : List ℕ} {new : Option (List ℕ)} (k : Taken xs bs new) → IsAtEnd new → xs ≡ bs
at_end {bs = bs} k e =
    let z : k.rest ≡ [] = subst IsAtEnd k.left e in
    k.split ∙ ap (λ (y : List ℕ). bs ++ y) z ∙ append-nil bs

long : {xs bs : List ℕ} {new : Option (List ℕ)} (k : Taken xs bs new) → length xs ≡ length bs + length k.rest
long {bs = bs} k = ap length k.split ∙ length-append bs k.rest

-- so many bytes less, of those that are left of n
pub passed_on : (a b c : Option (List ℕ)) (n left size : ℕ) (cs : List ℕ) → (bs : List ℕ) × Consumes a b bs × (length bs + left ≡ n) → Consumes b c cs → length cs ≡ size
    → size ≤ left → (xs : List ℕ) × Consumes a c xs × (length xs + (left - size) ≡ n)
passed_on a b c n left size cs f g e l =
    (f.0 ++ cs, Consumes-trans a b c f.0 cs f.1 g, rw (length-append f.0 cs) (omega (arith, f.2, e, l)))

-- ## The entry at the start of what is left

too_long : (l : List ℕ) {n : ℕ} → head_of l ≡ Ok n → length l < 110 + n → whole_of l ≡ Err 29
unfolding whole_of
too_long l {n} e h = rw (e, lt-leb (110 + n) (length l) h)

module _ {rest : List ℕ} {old : Option (List ℕ)} (mid : Option (List ℕ)) (bs : List ℕ) (e : old ≡ Some rest) (c : Consumes old mid bs) where
  -- by its head, which more bytes don't mend
  refused : {k : ℕ} → head_of bs ≡ Err k → (length bs < 110 → IsAtEnd mid) → 0 < length bs → (whole_of rest ≡ Err k) × (0 < length rest)
  refused {k} h g l = let w = taken bs e c in let n = long w in (sym (still_faulty rest (go (leb 110 (length bs)) refl)), omega arith)
    where
      go : (t : Bool) → leb 110 (length bs) ≡ t → head_of rest ≡ Err k
      go true q = let w = taken bs e c in ap head_of w.split ∙ head_front bs w.rest (leb-true _ _ q) ∙ h
      go false q = ap head_of (at_end (taken bs e c) (g (leb-false _ _ q))) ∙ h

  pub refused_here : (h : Result ℕ ℕ) (why : Stop) → h ≡ head_of bs → MatchResult h (λ n. Err why ≡ Ok n) (λ k. why ≡ stop.Refused k)
      → (length bs < 110 → IsAtEnd mid) → 0 < length bs → ReadsEntry rest mid (Err why)
  refused_here (Ok n) why s p g l = cc
  refused_here (Err k) why s p g l = rw p (refused (sym s) g l)

  module _ {n : ℕ} (h : head_of bs ≡ Ok n) (l : length bs ≤ 110) where
    here : head_of rest ≡ Ok n
    here = let w = taken bs e c in ap head_of w.split ∙ head_front bs w.rest (head_fits bs h) ∙ h

    behind : mid ≡ Some (drop 110 rest)
    behind =
        let w = taken bs e c in
        let s : length bs ≡ 110 = omega (arith, l, head_fits bs h) in
        w.left ∙ ap (λ (x : List ℕ). Some x) (sym (ap (drop 110) w.split ∙ drop_at bs w.rest 110 s))

    module _ (new : Option (List ℕ)) (ds : List ℕ) (d : Consumes mid new ds) where
      pub short_here : length ds < n → IsAtEnd new → (whole_of rest ≡ Err 29) × (0 < length rest)
      short_here s z =
          let f = head_fits rest here in
          let k : length (drop 110 rest) ≡ length ds = ap length (at_end (taken ds behind d) z) in
          let m = length-drop 110 rest in
          (too_long rest here (omega arith), omega arith)

      pub whole_here : length ds ≡ n → (whole_of rest ≡ Ok n) × (new ≡ Some (drop (110 + n) rest))
      whole_here s =
          let w = taken ds behind d in
          let k = long w in
          let m = length-drop 110 rest in
          let q : drop n (drop 110 rest) ≡ drop (110 + n) rest = drop-drop n 110 rest in
          (sym (fits rest here (omega arith)), w.left ∙ ap (λ (x : List ℕ). Some x) (sym (ap (drop n) w.split ∙ drop_at ds w.rest n s) ∙ q))

-- ## The turns of the loop

so_of : {file : List ℕ} {e : Entries} → Reached file e → SoFar file (drop e.end file) e.tally
so_of {file} {e} r =
    let l = length-drop e.end file in
    let w = r.within in
    record { at = e.end; left = refl; within = omega arith; sum = r.sum; same = r.same }

-- as a default makes them
abbrev pub IsNone : Entries → Type 0
IsNone e = (e.end ≡ 0) × ((e.tally.entries ≡ 0) × (e.tally.bytes ≡ 0))

begins : (file : List ℕ) {e : Entries} → IsNone e → Due file (Some file) e
begins file {e} z =
    let s = so_begins file in
    let t : e.tally ≡ none = ap (λ (n : ℕ). tally_of n e.tally.bytes) z.1.0 ∙ ap (tally_of 0) z.1.1 in
    let a : s.at ≡ e.end = omega (arith, s.sum, z.0) in
    record { here = rw z.0 refl; reached = record { within = omega (arith, z.0); sum = omega (arith, z.0, z.1.0, z.1.1); same = rw (t, ← a) s.same } }
  where
    tally_of : ℕ → ℕ → Tally
    tally_of n m = record { entries = n; bytes = m }

module _ {file : List ℕ} {old : Option (List ℕ)} {e : Entries} (d : Due file old e) where
  left : length (drop e.end file) ≡ length file - e.end
  left = length-drop e.end file

  pub due_on : (new : Option (List ℕ)) {f : Entries} {o : Option ℕ} {n : ℕ} → IsShort file → o ≡ Some n → ((rest : List ℕ) → old ≡ Some rest → ReadsEntry rest new (Ok o))
      → (e.end + (110 + n) < 2 ^ 64 → f.end ≡ e.end + (110 + n)) → (e.tally.entries + 1 < 2 ^ 64 → e.tally.bytes + n < 2 ^ 64 → f.tally ≡ with_entry e.tally n)
      → Due file new f × (e.end < f.end)
  due_on new {f} {o} {n} l i g a b =
      let k : (whole_of (drop e.end file) ≡ Ok n) × (new ≡ Some (drop (110 + n) (drop e.end file))) = rw i at (g (drop e.end file) d.here) in
      let s = (whole (drop e.end file) n k.0).within in
      let m = left in
      let w = d.reached.within in
      let z = d.reached.sum in
      let p = so_on (so_of d.reached) (omega arith) k.0 in
      let q : p.at ≡ e.end + (110 + n) = omega (arith, p.sum, z) in
      let u : f.end ≡ e.end + (110 + n) = a (omega arith) in
      let v : f.tally ≡ with_entry e.tally n = b (omega arith) (omega arith) in
      let here : new ≡ Some (drop f.end file) = rw u (k.1 ∙ ap (λ (x : List ℕ). Some x) (drop-drop (110 + n) e.end file)) in
      let reached : Reached file f = record { within = omega arith; sum = rw (u, v) (omega arith); same = rw (u, v, ← q) p.same } in
      (record { here = here; reached = reached }, omega arith)

  pub all_here : (new : Option (List ℕ)) {o : Option ℕ} → o ≡ None → ((rest : List ℕ) → old ≡ Some rest → ReadsEntry rest new (Ok o)) → Ended file e (Ok tt)
  all_here new i g =
      let r : drop e.end file ≡ [] = rw i at (g (drop e.end file) d.here) in
      let z : length (drop e.end file) ≡ 0 = ap length r in
      let m = left in
      let w = d.reached.within in
      (sym (so_ends (so_of d.reached) z), omega arith)

  pub stopped : (s : Stop) (new : Option (List ℕ)) → ((rest : List ℕ) → old ≡ Some rest → ReadsEntry rest new (Err s)) → Ended file e (Err s)
  stopped (stop.Refused k) new g =
      let r = g (drop e.end file) d.here in
      let m = left in
      let w = d.reached.within in
      let q : length file - length (drop e.end file) ≡ e.end = omega arith in
      rw (← q) (sym (so_refused (so_of d.reached) r.1 r.0))
  stopped stop.ReadFailed new g = d.reached

-- ## What is said

abbrev pub Ends : Option (List ℕ) → Entries → Entries → Result (Unit {0}) Stop → Type 0
Ends input from to result = (file : List ℕ) → IsShort file → Due file input from → Ended file to result

module _ {T E : Type 0} (r : Result T E) (input old new : Option (List ℕ)) {from : Entries} (to : Entries) (z : IsNone from) where
  says : {P : Type 0} (result : Result (Unit {0}) Stop) → Ends input from to result → ((file : List ℕ) → Ended file to result → P → IsTold file old new) → OnOk r P → OnOk r (Reports input old new)
  says {P} result a f p = go input a
    where
      go : (i : Option (List ℕ)) → Ends i from to result → OnOk r (Reports i old new)
      go None a = on_ok_weaker r (λ w. tt) p
      go (Some file) a = on_ok_weaker r (λ w l. f file (a file l (begins file z)) w) p

  pub says_counts : Ends input from to (Ok tt) → OnOk r (Appends old new (counts_of to.tally to.end)) → OnOk r (Reports input old new)
  says_counts a = says (Ok tt) a (λ file k w. inl (rw (k.0, ← k.1) w))

  pub says_refused : {why : Stop} {k : ℕ} → why ≡ stop.Refused k → Ends input from to (Err why) → OnOk r (Appends old new (refusal_text (refused_at to.end k) ++ codes "\n")) → OnOk r (Reports input old new)
  says_refused {why} {k} e a = says (Err (stop.Refused k)) (rw e at a) (λ file q w. inl (rw q w))

  pub says_failed : {why : Stop} → why ≡ stop.ReadFailed → Ends input from to (Err why) → OnOk r (Appends old new (failure_at to.end)) → OnOk r (Reports input old new)
  says_failed e a = says (Err stop.ReadFailed) (rw e at a) (λ file q w. inr (to, q, w))
