-- Entries of one kind, n after one another, forth and back, by induction on n: each good one leads to the place where one less is due. Assumes nothing.
use mathlib.Core.Path.{◌≡◌, refl, sym, ap, ap₂, ◌∙◌, subst}
use mathlib.Core.Logic.{◌≢◌}
use mathlib.Core.List.{List, [], ◌∷◌, ◌++◌, map}
use Prim.Native.Nat.{ℕ, zero, suc, ◌*◌}
use native.Mathlib.Omega.{arith}
use lib.ListN.{length}
use Rattle.words.specs.declared.Words.{Words}
use Rattle.words.specs.declared.Tag.{Tag}
use Rattle.rules.specs.Rules.{size_by, size_of, many, nothing, next_of}
use Rattle.rules.specs.declared.Totals.{Totals}
use Rattle.rules.specs.declared.Place.{Place}
use Rattle.rules.specs.declared.Due.{Due}
use Rattle.layout.specs.Layout.{Each, Row}
use Rattle.layout.proofs.Places.{due_at, onward, Adds, onward_then, onward_none, many_suc}
use Rattle.layout.proofs.Rows.{Good, Goes, stay, stayed, stepped, goes_from, goes_to, goes_cons}

-- no row is due
abbrev pub Ended : Place → Type 0
Ended q = size_of q ≢ 48

-- rows do not stop where a row is due
pub not_yet : (tag : Tag) (d : Due) (p q : Place) → size_by d ≡ 48 → Goes tag (due_at d p) [] q → Ended q → ⊥
not_yet tag d p q s g e = e (ap size_of (sym (stayed tag (due_at d p) q g)) ∙ s)

-- a kind of entry
pub record Entry (tag : Tag) (A : Type 0) (IsSound : A → Type 0) : Type 0 where
  -- what is due for n of them, and after them; nothing on the way changes what is due after them
  pub one : ℕ → Due
  pub after : Place → Due
  pub size : (n : ℕ) → size_by (one n) ≡ 48
  pub keeps : (size : ℕ) (more : Totals) (due : Due) (p : Place) → after (onward size more due p) ≡ after p
  -- the row of one, and what it and all of them count
  pub row : A → Row
  pub count : Words → Totals
  pub total : List A → Totals
  pub none : total [] ≡ nothing
  pub adds : (x : A) (xs : List A) → Adds (count (row x).words) (total xs) (total (x ∷ xs))
  -- one brings to one less; sound ones are good, and good rows are those of sound ones
  pub next : (n : ℕ) (p : Place) (w : Words) → next_of (due_at (one (suc n)) p) w ≡ due_at (many n one (after p)) (onward 48 (count w) (after p) p)
  pub good : (n : ℕ) (p : Place) (x : A) → IsSound x → Good tag (due_at (one n) p) (row x)
  pub back : (n : ℕ) (p : Place) (r : Row) → Good tag (due_at (one n) p) r → (x : A) × (r ≡ row x) × IsSound x

module _ {tag : Tag} {A : Type 0} {IsSound : A → Type 0} (k : Entry tag A IsSound) where
  -- sound entries are good
  pub entries_go : (p : Place) (xs : List A) → Each IsSound xs
      → Goes tag (due_at (many (length xs) k.one (k.after p)) p) (map k.row xs) (onward (48 * length xs) (k.total xs) (k.after p) p)
  entries_go p [] hs = stay tag (onward_none (k.after p) p ∙ ap (λ (t : Totals). onward 0 t (k.after p) p) (sym k.none))
  entries_go p (x ∷ xs) (h, hs) =
      let d : Due = k.after p in
      let c : Totals = k.count (k.row x).words in
      let q : Place = onward 48 c d p in
      let ih = subst (λ (e : Due). Goes tag (due_at (many (length xs) k.one e) q) (map k.row xs) (onward (48 * length xs) (k.total xs) e q)) (k.keeps 48 c d p) (entries_go q xs hs) in
      goes_from tag _ (due_at (k.one (suc (length xs))) p) _ _ (ap (λ (e : Due). due_at e p) (many_suc (length xs) k.one d))
      (goes_cons tag _ (due_at (many (length xs) k.one d) q) _ (k.row x) (map k.row xs) (k.good (suc (length xs)) p x h) (k.next (length xs) p (k.row x).words)
      (goes_to tag _ _ _ (map k.row xs) ih
      (onward_then 48 (48 * length xs) (48 * suc (length xs)) c (k.total xs) (k.total (x ∷ xs)) d d p (omega arith) (k.adds x xs))))

  pub record EntriesBack (n : ℕ) (p q : Place) (rows : List Row) : Type 0 where
    pub entries : List A
    pub count : length entries ≡ n
    pub sound : Each IsSound entries
    pub rest : List Row
    pub rows_are : rows ≡ map k.row entries ++ rest
    pub goes : Goes tag (onward (48 * n) (k.total entries) (k.after p) p) rest q

  -- good rows are those of sound entries, and the rest goes on behind them
  pub entries_back : (n : ℕ) (p q : Place) (rows : List Row) → Ended q → Goes tag (due_at (many n k.one (k.after p)) p) rows q → EntriesBack n p q rows
  entries_back zero p q rows z t = record {
    entries = [];
    count = refl;
    sound = tt;
    rest = rows;
    rows_are = refl;
    goes = goes_from tag _ _ q rows (sym (onward_none (k.after p) p ∙ ap (λ (t : Totals). onward 0 t (k.after p) p) (sym k.none))) t;
  }
  entries_back (suc n) p q [] z t =
      absurd (not_yet tag (k.one (suc n)) p q (k.size (suc n)) (goes_from tag _ _ q [] (ap (λ (e : Due). due_at e p) (sym (many_suc n k.one (k.after p)))) t) z)
  entries_back (suc n) p q (r ∷ rs) z t =
      let d : Due = k.after p in
      let (g, t1) = stepped tag (due_at (k.one (suc n)) p) q r rs (goes_from tag _ _ q (r ∷ rs) (ap (λ (e : Due). due_at e p) (sym (many_suc n k.one d))) t) in
      let (x, e, h) = k.back (suc n) p r g in
      let c : Totals = k.count (k.row x).words in
      let w : k.count r.words ≡ c = ap (λ (y : Row). k.count y.words) e in
      let m : next_of (due_at (k.one (suc n)) p) r.words ≡ due_at (many n k.one d) (onward 48 c d p) = k.next n p r.words ∙ ap (λ (u : Totals). due_at (many n k.one d) (onward 48 u d p)) w in
      let s : k.after (onward 48 c d p) ≡ d = k.keeps 48 c d p in
      let o : EntriesBack n (onward 48 c d p) q rs = entries_back n (onward 48 c d p) q rs z (goes_from tag _ _ q rs (ap (λ (y : Due). due_at (many n k.one y) (onward 48 c d p)) s ∙ sym m) t1) in
      let u : Totals = k.total o.entries in
      let v : onward (48 * suc n) (k.total (x ∷ o.entries)) d p ≡ onward (48 * n) u (k.after (onward 48 c d p)) (onward 48 c d p) =
      sym (onward_then 48 (48 * n) (48 * suc n) c u (k.total (x ∷ o.entries)) d d p (omega arith) (k.adds x o.entries)) ∙ ap (λ (y : Due). onward (48 * n) u y (onward 48 c d p)) (sym s) in
      record {
        entries = x ∷ o.entries;
        count = ap suc o.count;
        sound = (h, o.sound);
        rest = o.rest;
        rows_are = ap₂ (λ (y : Row) (ys : List Row). y ∷ ys) e o.rows_are;
        goes = goes_from tag _ _ q o.rest v o.goes;
      }
