-- The first record of a kind with a hash, of one record and the others behind it; and what stands at the position of one that was read. Assumes nothing.
use mathlib.Core.Path.{◌≡◌, refl, sym, ap, ◌∙◌, subst}
use mathlib.Core.Logic.{◌≢◌}
use mathlib.Core.Bool.{true, false, true≢false}
use mathlib.Core.Option.{Option, none, some}
use mathlib.Core.List.{List, [], ◌∷◌, ◌++◌, map}
use Prim.Native.Nat.{ℕ, ◌+◌, ◌≤◌}
use native.Mathlib.Omega.{arith}
use lib.ListN.{length, length-take, length-drop}
use borrow.Author.Tests.{le-leb}
use Rattle.words.specs.Le.{Bytes}
use Rattle.words.specs.Record.{IsHash, hash_at, same_hash}
use Rattle.words.specs.declared.Words.{Words}
use Rattle.words.proofs.Records.{hash_is, hash_same}
use Rattle.rules.specs.declared.Record.{Record}
use Rattle.words.specs.declared.Position.{Position}
use Rattle.rules.specs.declared.Kind.{Kind}
use Rattle.rules.specs.declared.Kind.TheVariants as kind
use Rattle.layout.specs.Layout.{Foot, Row, Each, if_any, placed, foot_record}
use Rattle.layout.specs.Blocks.{Stand}
use Rattle.layout.proofs.Lists.{each_second}
use Rattle.finder.specs.Find.{part_at}
use Rattle.finder.specs.Claims.{Has, NoneHas, First, There}
use Rattle.words.proofs.Parts.{words_there}

module _ (k : Kind) (hash : List ℕ) where
  -- the one in front is it
  abbrev pub first_here : (r : Record) (rs : List Record) → Has k hash r → First k hash (r ∷ rs) r.at
  first_here r rs h = record { before = []; hit = r; after = rs; split = refl; has = h; none = tt; position = refl }

  -- it is behind the one in front
  abbrev pub first_later : (r : Record) (rs : List Record) (p : Position) → (Has k hash r → ⊥) → First k hash rs p → First k hash (r ∷ rs) p
  first_later r rs p n f = record {
    before = r ∷ f.before;
    hit = f.hit;
    after = f.after;
    split = ap (λ (l : List Record). r ∷ l) f.split;
    has = f.has;
    none = (n, f.none);
    position = f.position;
  }

  -- where there is a first, it is not so that none has that hash
  pub not_none : (rs : List Record) (p : Position) → First k hash rs p → NoneHas k hash rs → ⊥
  not_none rs p f n = go f.before (rw f.split at n)
    where
      go : (before : List Record) → NoneHas k hash (before ++ (f.hit ∷ f.after)) → ⊥
      go [] (h, t) = h f.has
      go (x ∷ xs) (h, t) = go xs t

  -- a record with another hash is not one
  pub other_hash : (r : Record) → same_hash r.words.hash hash ≡ false → Has k hash r → ⊥
  other_hash r e h = true≢false (sym h.same ∙ e)

-- ## At its position

abbrev IsThere : List ℕ → List ℕ → ℕ → Type 0
IsThere bytes hash p = (p + 48 ≤ length bytes) × (same_hash (hash_at bytes p) hash ≡ true)

-- the first among rows that stand in bytes and records of other kinds behind them stands there
pub first_stands : (k : Kind) (bytes hash : List ℕ) (at : ℕ) (rows : List Row) (foot : List Record) (p : Position)
    → Stand bytes at rows → Each (λ r. r.kind ≢ k) foot → First k hash (placed at rows ++ foot) p → IsThere bytes hash p.0
first_stands k bytes hash at rows foot p s o f = go at rows f.before s f.split
  where
    none_behind : (before rs : List Record) → Each (λ r. r.kind ≢ k) rs → rs ≡ before ++ (f.hit ∷ f.after) → ⊥
    none_behind before rs n e = (each_second (λ (r : Record). r.kind ≢ k) before (f.hit ∷ f.after) (rw e at n)).0 f.has.kind

    go : (at : ℕ) (rows : List Row) (before : List Record) → Stand bytes at rows → placed at rows ++ foot ≡ before ++ (f.hit ∷ f.after) → IsThere bytes hash p.0
    go at [] before t e = absurd (none_behind before foot o e)
    go at (r ∷ rs) (b ∷ before) (w, l, t) e = let q : placed (at + 48) rs ++ foot ≡ before ++ (f.hit ∷ f.after) = cc in go (at + 48) rs before t q
    go at (r ∷ rs) [] (w, l, t) e =
        let q : record { at = record { 0 = at }; offset = record { 0 = 0 }; words = r.words; kind = r.kind } ≡ f.hit = cc in
        let x : at ≡ p.0 = ap (λ (h : Record). h.at.0) q ∙ ap (λ (y : Position). y.0) f.position in
        subst (IsThere bytes hash) x (l, ap (λ (v : Words). same_hash v.hash hash) (w ∙ ap (λ (h : Record). h.words) q) ∙ f.has.same)

pub foot_kinds : (k : Kind) (x h : ℕ) (o : Option Foot) → kind.Footer ≢ k → Each (λ r. r.kind ≢ k) (map (foot_record x h) (if_any o))
foot_kinds k x h none n = tt
foot_kinds k x h (some f) n = (n, tt)

pub there : (bytes hash : List ℕ) (p : Position) → Bytes bytes → IsHash hash → IsThere bytes hash p.0 → There bytes hash p
unfolding part_at
there bytes hash p b h (l, e) =
    let s : hash_at bytes p.0 ≡ hash = hash_same (hash_at bytes p.0) hash (hash_is bytes p.0 b) h e in
    record {
      stands = s;
      size = rw (le-leb (p.0 + 48) (length bytes) l) (simp (length-take, length-drop) (omega arith));
      begins = rw (le-leb (p.0 + 48) (length bytes) l) (ap (λ (w : Words). w.hash) (words_there 48 bytes p.0 0 p.0 (omega arith) (omega arith)) ∙ s);
    }
