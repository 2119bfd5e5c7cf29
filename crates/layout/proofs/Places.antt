-- Moving on from a place: once by all the bytes and counts is one after the other, because positions and totals are sums. Assumes nothing.
use mathlib.Core.Path.{◌≡◌, refl, sym, subst}
use mathlib.Core.Bool.{Bool, true, false}
use Prim.Native.Nat.{ℕ, zero, suc, ◌+◌, ◌-◌, ◌<◌}
use native.Mathlib.Omega.{arith}
use lib.Dec.{eqb-suc-zero}
use Rattle.words.specs.Checks.{pick}
use Rattle.words.specs.Record.{is_ones}
use Rattle.words.specs.declared.Words.{Words}
use Rattle.rules.specs.Rules.{many, after_segments, chunks_from, counts, nothing, plus, count_by, with_file, with_offset, moved_to, next_by}
use Rattle.rules.specs.declared.Totals.{Totals}
use Rattle.rules.specs.declared.Place.{Place}
use Rattle.rules.specs.declared.Due.{Due}
use Rattle.rules.specs.declared.Due.TheVariants.{FileHead, Segment, XorbHead, Footer, End}
use Rattle.rules.specs.declared.Kind.TheVariants as kind

-- ## Places behind a place

-- the same place with something else due
abbrev pub due_at : Due → Place → Place
due_at d p = record { at = p.at; offset = p.offset; totals = p.totals; flags = p.flags; entries = p.entries; footer = p.footer; due = d }

-- so many bytes on, so much more counted
abbrev pub onward : ℕ → Totals → Due → Place → Place
onward size more due p = moved_to (p.at.0 + size) (plus p.totals more) due p

pub totals_same : {a b c d e a' b' c' d' e' : ℕ} → a ≡ a' → b ≡ b' → c ≡ c' → d ≡ d' → e ≡ e' → counts a b c d e ≡ counts a' b' c' d' e'
totals_same p q r s t = rw (p, q, r, s, t)

moved_same : {x y : ℕ} {t u : Totals} (d : Due) (p : Place) → x ≡ y → t ≡ u → moved_to x t d p ≡ moved_to y u d p
moved_same d p e f = rw (e, f)

abbrev pub Adds : Totals → Totals → Totals → Type 0
Adds t u v = (t.files + u.files ≡ v.files) × (t.segments + u.segments ≡ v.segments) × (t.xorbs + u.xorbs ≡ v.xorbs) × (t.chunks + u.chunks ≡ v.chunks) × (t.bytes + u.bytes ≡ v.bytes)

-- moving on twice is moving on once
pub onward_then : (a b s : ℕ) (t u v : Totals) (d e : Due) (p : Place) → a + b ≡ s → Adds t u v → onward b u e (onward a t d p) ≡ onward s v e p
onward_then a b s t u v d e p h (h1, h2, h3, h4, h5) =
    moved_same {x = p.at.0 + a + b} {y = p.at.0 + s} {t = plus (plus p.totals t) u} {u = plus p.totals v} e p
    (omega arith) (totals_same (omega arith) (omega arith) (omega arith) (omega arith) (omega arith))

pub plus_nothing : (t : Totals) → plus t nothing ≡ t
plus_nothing t = totals_same (omega arith) (omega arith) (omega arith) (omega arith) (omega arith)

pub onward_none : (d : Due) (p : Place) → due_at d p ≡ onward 0 nothing d p
onward_none d p = moved_same {x = p.at.0} {y = p.at.0 + 0} {t = p.totals} {u = plus p.totals nothing} d p (omega arith) (sym (plus_nothing p.totals))

-- ## What is due

-- the first of some records, and one less
pub many_suc : (n : ℕ) (one : ℕ → Due) (after : Due) → many (suc n) one after ≡ one (suc n)
many_suc n one after = rw (eqb-suc-zero n)

pub less_one : (n : ℕ) → suc n - 1 ≡ n
less_one n = omega arith

-- what holds of each of two, or of one and of the other, holds of the one picked
pub pick_by : {A : Type 0} (P : A → Type 0) (t : Bool) (x y : A) → (t ≡ true → P x) → (t ≡ false → P y) → P (pick t x y)
pick_by P true x y f g = f refl
pick_by P false x y f g = g refl

pub many_by : (P : Due → Type 0) (n : ℕ) (one : ℕ → Due) (after : Due) → (n ≡ 0 → P after) → (0 < n → P (one n)) → P (many n one after)
many_by P zero one after f g = f refl
many_by P (suc n) one after f g = subst P (sym (many_suc n one after)) (g (omega arith))

-- ## The two ways on from a head: past its section's bookend, or into a block

abbrev pub past_files : Place → Place
past_files p = onward 48 nothing XorbHead (with_offset (p.at.0 + 48) p)

abbrev pub past_xorbs : Place → Place
past_xorbs p = onward 48 nothing (pick p.footer Footer End) p

abbrev pub into_file : ℕ → ℕ → Place → Place
into_file flags n p = onward 48 (counts 1 0 0 0 0) (many n Segment (after_segments flags n)) (with_file flags n p)

abbrev pub into_xorb : ℕ → ℕ → Place → Place
into_xorb n total p = onward 48 (counts 0 0 1 0 0) (chunks_from n 0 total) p

pub after_file_head : (p : Place) (w : Words) → next_by FileHead p w ≡ pick (is_ones w.hash) (past_files p) (into_file w.a w.b p)
after_file_head p w = go (is_ones w.hash)
  where
    go : (t : Bool)
        → moved_to (p.at.0 + 48) (plus p.totals (count_by (pick t kind.Bookend kind.FileHead) w)) (pick t XorbHead (many w.b Segment (after_segments w.a w.b)))
        (pick t (with_offset (p.at.0 + 48) p) (with_file w.a w.b p))
        ≡ pick t (past_files p) (into_file w.a w.b p)
    go true = refl
    go false = refl

pub after_xorb_head : (p : Place) (w : Words) → next_by XorbHead p w ≡ pick (is_ones w.hash) (past_xorbs p) (into_xorb w.b w.c p)
after_xorb_head p w = go (is_ones w.hash)
  where
    go : (t : Bool)
        → onward 48 (count_by (pick t kind.Bookend kind.XorbHead) w) (pick t (pick p.footer Footer End) (chunks_from w.b 0 w.c)) p
        ≡ pick t (past_xorbs p) (into_xorb w.b w.c p)
    go true = refl
    go false = refl
