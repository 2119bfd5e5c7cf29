-- The first of some parts of the tree with a hash, passed one by one: what is answered is the first or, exactly if none has that hash, what comes later,
-- because hashes are the same exactly if they are equal. Assumes nothing.
use mathlib.Core.Path.{◌≡◌, refl, sym, ap, ◌∙◌, subst}
use mathlib.Core.Logic.{◌≢◌}
use mathlib.Core.Bool.{Bool, true, false, true≢false}
use mathlib.Core.List.{List, [], ◌∷◌, ◌++◌, append-nil}
use Prim.Native.Nat.{ℕ, ◌+◌, ◌*◌}
use native.Mathlib.Omega.{arith}
use lib.ListN.{length}
use Rattle.words.specs.Checks.{pick}
use Rattle.words.specs.Record.{IsHash, same_hash}
use Rattle.words.proofs.Records.{hash_same, same_self}
use Rattle.layout.specs.Layout.{Hash, Each, sum_of}
use Rattle.finder.specs.Claims.{FirstOf}

-- the answer for the first with that hash, by its number and position, else what comes later
abbrev pub among : {A R : Type 0} → (A → Hash) → (A → ℕ) → Hash → (ℕ → ℕ → R) → R → ℕ → ℕ → List A → R
among hash_of rows_in hash answer later number at [] = later
among hash_of rows_in hash answer later number at (x ∷ xs) = pick (same_hash (hash_of x) hash) (answer number at) (among hash_of rows_in hash answer later (number + 1) (at + 48 * rows_in x) xs)

other_hash : (g h : Hash) → IsHash g → IsHash h → g ≢ h → same_hash g h ≡ false
other_hash g h p q n = go (same_hash g h) refl
  where
    go : (t : Bool) → same_hash g h ≡ t → t ≡ false
    go true e = absurd (n (hash_same g h p q e))
    go false e = refl

module _ {A R : Type 0} (hash_of : A → Hash) (rows_in : A → ℕ) (hash : Hash) (answer : ℕ → ℕ → R) (later : R) where
  -- the two ways in which a search ends
  pub data Looked (number at : ℕ) (xs : List A) : R → Type 0 where
    passed : Each (λ x. hash_of x ≢ hash) xs → Looked number at xs later
    found : (n p : ℕ) → FirstOf hash_of rows_in hash number at xs n p → Looked number at xs (answer n p)

  -- one that is not it, and what the search behind it comes to
  behind : (number at : ℕ) (x : A) (xs : List A) {r : R} → hash_of x ≢ hash → Looked (number + 1) (at + 48 * rows_in x) xs r → Looked number at (x ∷ xs) r
  behind number at x xs n (passed ns) = passed (n, ns)
  behind number at x xs n (found m p f) = found m p (record {
    before = x ∷ f.before;
    hit = f.hit;
    after = f.after;
    split = ap (λ (l : List A). x ∷ l) f.split;
    has = f.has;
    none = (n, f.none);
    number_is = omega (arith, f.number_is);
    position = omega (arith, f.position);
  })

  module _ (Sound : A → Type 0) (hashes : (x : A) → Sound x → IsHash (hash_of x)) (is : IsHash hash) where
    pub look : (number at : ℕ) (xs : List A) → Each Sound xs → Looked number at xs (among hash_of rows_in hash answer later number at xs)
    look number at [] s = passed tt
    look number at (x ∷ xs) (s, ss) = go (look (number + 1) (at + 48 * rows_in x) xs ss) (same_hash (hash_of x) hash) refl
      where
        go : {rest : R} → Looked (number + 1) (at + 48 * rows_in x) xs rest → (t : Bool) → same_hash (hash_of x) hash ≡ t → Looked number at (x ∷ xs) (pick t (answer number at) rest)
        go r true e = found number at (record {
          before = [];
          hit = x;
          after = xs;
          split = refl;
          has = hash_same (hash_of x) hash (hashes x s) is e;
          none = tt;
          number_is = omega arith;
          position = omega arith;
        })
        go r false e = behind number at x xs (λ p. true≢false (sym (same_self hash) ∙ ap (λ (h : Hash). same_hash h hash) (sym p) ∙ e)) r

    -- those that have another hash are passed over
    past : (number at : ℕ) (xs ys : List A) → Each Sound (xs ++ ys) → Each (λ x. hash_of x ≢ hash) xs
        → among hash_of rows_in hash answer later number at (xs ++ ys) ≡ among hash_of rows_in hash answer later (number + length xs) (at + 48 * sum_of rows_in xs) ys
    past number at [] ys s n =
        let e : number ≡ number + 0 = omega arith in
        let f : at ≡ at + 48 * 0 = omega arith in
        ap (λ (m : ℕ). among hash_of rows_in hash answer later m at ys) e ∙ ap (λ (p : ℕ). among hash_of rows_in hash answer later (number + 0) p ys) f
    past number at (x ∷ xs) ys (s, ss) (n, ns) =
        let e : number + 1 + length xs ≡ number + length (x ∷ xs) = omega arith in
        let f : at + 48 * rows_in x + 48 * sum_of rows_in xs ≡ at + 48 * sum_of rows_in (x ∷ xs) = omega arith in
        rw (other_hash (hash_of x) hash (hashes x s) is n) (past (number + 1) (at + 48 * rows_in x) xs ys ss ns
        ∙ ap (λ (m : ℕ). among hash_of rows_in hash answer later m (at + 48 * rows_in x + 48 * sum_of rows_in xs) ys) e
        ∙ ap (λ (p : ℕ). among hash_of rows_in hash answer later (number + length (x ∷ xs)) p ys) f)

    pub passes : (number at : ℕ) (xs : List A) → Each Sound xs → Each (λ x. hash_of x ≢ hash) xs → among hash_of rows_in hash answer later number at xs ≡ later
    passes number at xs s n =
        let e : xs ++ [] ≡ xs = append-nil xs in
        ap (among hash_of rows_in hash answer later number at) (sym e) ∙ past number at xs [] (subst (Each Sound) (sym e) s) n

    pub hits : (number at : ℕ) (xs : List A) (n p : ℕ) → Each Sound xs → FirstOf hash_of rows_in hash number at xs n p → among hash_of rows_in hash answer later number at xs ≡ answer n p
    hits number at xs n p s f =
        let e : same_hash (hash_of f.hit) hash ≡ true = ap (λ (h : Hash). same_hash h hash) f.has ∙ same_self hash in
        let q : among hash_of rows_in hash answer later (number + length f.before) (at + 48 * sum_of rows_in f.before) (f.hit ∷ f.after) ≡ answer (number + length f.before) (at + 48 * sum_of rows_in f.before) = rw e in
        ap (among hash_of rows_in hash answer later number at) f.split ∙ past number at f.before (f.hit ∷ f.after) (subst (Each Sound) f.split s) f.none ∙ q ∙ sym (rw (f.number_is, f.position))
