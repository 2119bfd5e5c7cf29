-- The tests of one segment say what they are for: the first block of a hash, what a segment must say of it, and a false one, because each test is that of
-- natural numbers or of a list from its head. Assumes nothing.
use mathlib.Core.Path.{◌≡◌, refl, sym, ap, ◌∙◌}
use mathlib.Core.Bool.{Bool, true, false, true≢false, ◌&&◌, not}
use mathlib.Core.Option.{Option, none, some}
use mathlib.Core.List.{List, [], ◌∷◌, ◌++◌}
use Prim.Native.Nat.{ℕ}
use native.Mathlib.Omega.{arith}
use lib.Dec.{eqb, leb}
use lib.ListN.{length}
use borrow.Author.Tests.{leb-true, eqb-true, le-leb, eq-eqb}
use Rattle.words.specs.Checks.{pick}
use Rattle.words.specs.Record.{same_hash}
use Rattle.layout.specs.Layout.{Hash, Segment, XorbBlock, has}
use Rattle.audit.specs.Audit.{first_block, is_listed, bytes_between, is_true_of, is_false_of, is_false}
use Rattle.audit.specs.Claims.{NoneHas, FirstOf, True, False}

-- ## The first block of a hash

module _ (hash : Hash) where
  pub first_to : (xs : List XorbBlock) (x : XorbBlock) → first_block hash xs ≡ some x → FirstOf hash xs x
  first_to [] x e = let z : ◌≡◌ {A = ℕ} 0 1 = cc in absurd (omega arith)
  first_to (y ∷ ys) x e = go (first_to ys x) (same_hash y.hash hash) refl e
    where
      go : (first_block hash ys ≡ some x → FirstOf hash ys x) → (b : Bool) → same_hash y.hash hash ≡ b → pick b (some y) (first_block hash ys) ≡ some x → FirstOf hash (y ∷ ys) x
      go rest true q f = let p : y ≡ x = cc in record { before = []; after = ys; split = ap (λ (v : XorbBlock). v ∷ ys) p; same = sym (ap (λ (v : XorbBlock). same_hash v.hash hash) p) ∙ q; none = tt }
      go rest false q f =
          let r : FirstOf hash ys x = rest f in
          record { before = y ∷ r.before; after = r.after; split = ap (λ (l : List XorbBlock). y ∷ l) r.split; same = r.same; none = (q, r.none) }

  first_after : (before after : List XorbBlock) (x : XorbBlock) → same_hash x.hash hash ≡ true → NoneHas hash before → first_block hash (before ++ (x ∷ after)) ≡ some x
  first_after [] after x e h = rw e
  first_after (y ∷ ys) after x e (h, hs) = rw h (first_after ys after x e hs)

  pub first_from : (xs : List XorbBlock) (x : XorbBlock) → FirstOf hash xs x → first_block hash xs ≡ some x
  first_from xs x f = ap (first_block hash) f.split ∙ first_after f.before f.after x f.same f.none

  pub absent_to : (xs : List XorbBlock) → first_block hash xs ≡ none → NoneHas hash xs
  absent_to [] e = tt
  absent_to (y ∷ ys) e = go (absent_to ys) (same_hash y.hash hash) refl e
    where
      go : (first_block hash ys ≡ none → NoneHas hash ys) → (b : Bool) → same_hash y.hash hash ≡ b → pick b (some y) (first_block hash ys) ≡ none → NoneHas hash (y ∷ ys)
      go rest true q f = let z : ◌≡◌ {A = ℕ} 0 1 = cc in absurd (omega arith)
      go rest false q f = (q, rest f)

  pub absent_from : (xs : List XorbBlock) → NoneHas hash xs → first_block hash xs ≡ none
  absent_from [] h = refl
  absent_from (y ∷ ys) (h, hs) = rw h (absent_from ys hs)

module _ (xs : List XorbBlock) (s : Segment) where
  pub listed_to : is_listed xs s ≡ true → (x : XorbBlock) × FirstOf s.xorb xs x
  listed_to e = go (first_block s.xorb xs) refl e
    where
      go : (o : Option XorbBlock) → first_block s.xorb xs ≡ o → has o ≡ true → (x : XorbBlock) × FirstOf s.xorb xs x
      go none q f = absurd (true≢false (sym f))
      go (some x) q f = (x, first_to s.xorb xs x q)

  pub listed_from : (x : XorbBlock) → FirstOf s.xorb xs x → is_listed xs s ≡ true
  listed_from x f = ap (λ (o : Option XorbBlock). has o) (first_from s.xorb xs x f)

-- ## What a segment says

pub true_to : (x : XorbBlock) (s : Segment) → is_true_of x s ≡ true → True x s
true_to x s e = go (leb s.end (length x.chunks)) (eqb s.bytes (bytes_between s.start s.end x.chunks)) refl refl e
  where
    go : (a b : Bool) → leb s.end (length x.chunks) ≡ a → eqb s.bytes (bytes_between s.start s.end x.chunks) ≡ b → (a && b) ≡ true → True x s
    go true true p q f = record { end = leb-true _ _ p; bytes = eqb-true _ _ q }
    go true false p q f = absurd (true≢false (sym f))
    go false b p q f = absurd (true≢false (sym f))

pub true_from : (x : XorbBlock) (s : Segment) → True x s → is_true_of x s ≡ true
true_from x s t = rw (le-leb s.end (length x.chunks) t.end, eq-eqb s.bytes (bytes_between s.start s.end x.chunks) t.bytes)

module _ (xs : List XorbBlock) (s : Segment) where
  pub false_to : is_false xs s ≡ true → False xs s
  false_to e = go (first_block s.xorb xs) refl e
    where
      go : (o : Option XorbBlock) → first_block s.xorb xs ≡ o → is_false_of o s ≡ true → False xs s
      go none q f = absurd (true≢false (sym f))
      go (some x) q f = record { block = x; first = first_to s.xorb xs x q; not_true = λ t. true≢false (sym f ∙ ap not (true_from x s t)) }

  pub false_from : False xs s → is_false xs s ≡ true
  false_from f = ap (λ (o : Option XorbBlock). is_false_of o s) (first_from s.xorb xs f.block f.first) ∙ ap not (go (is_true_of f.block s) refl)
    where
      go : (b : Bool) → is_true_of f.block s ≡ b → b ≡ false
      go true e = absurd (f.not_true (true_to f.block s e))
      go false e = refl
