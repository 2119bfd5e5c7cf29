-- The flags of a file are its bits 31 and 30, and files agree about bit 31 along a list exactly if each agrees with the one before,
-- because flags with no other bit are one of four numbers. Assumes nothing.
use mathlib.Core.Path.{◌≡◌, refl, sym, ap, ◌∙◌, subst}
use mathlib.Core.Bool.{Bool, true, false, ◌||◌, true≢false, false≢true}
use mathlib.Core.List.{List, [], ◌∷◌}
use Prim.Native.Nat.{ℕ, zero, suc, ◌+◌, ◌*◌, ◌/◌, ◌%◌, ◌^◌, ◌<◌}
use native.Mathlib.Numerals.{add-one}
use native.Mathlib.Omega.{arith}
use lib.Dec.{eqb, lit<, eqb-suc-zero}
use borrow.Author.Tests.{eqb-true, eq-eqb}
use Rattle.words.specs.Checks.{pick}
use Rattle.rules.specs.Rules.{bit31, bit30, no_other_bit, same31}
use Rattle.layout.specs.Layout.{FileBlock, has, Each, flags_of, verified, Agree}

-- ## The two bits

abbrev pub flags_by : Bool → Bool → ℕ
flags_by v m = pick v 2147483648 0 + pick m 1073741824 0

pub flags_31 : (v m : Bool) → bit31 (flags_by v m) ≡ v
flags_31 true true = refl
flags_31 true false = refl
flags_31 false true = refl
flags_31 false false = refl

pub flags_30 : (v m : Bool) → bit30 (flags_by v m) ≡ m
flags_30 true true = refl
flags_30 true false = refl
flags_30 false true = refl
flags_30 false false = refl

pub flags_other : (v m : Bool) → no_other_bit (flags_by v m) ≡ true
flags_other true true = refl
flags_other true false = refl
flags_other false true = refl
flags_other false false = refl

pub flags_lt : (v m : Bool) → flags_by v m < 2 ^ 32
flags_lt true true = lit< tt
flags_lt true false = lit< tt
flags_lt false true = lit< tt
flags_lt false false = lit< tt

pub flags_are : (a : ℕ) → a < 2 ^ 32 → no_other_bit a ≡ true → a ≡ flags_by (bit31 a) (bit30 a)
flags_are a l e =
    let n : a % 1073741824 ≡ 0 = eqb-true _ _ e in
    go (a / 1073741824) (omega arith) (omega arith)
  where
    go : (k : ℕ) → a ≡ 1073741824 * k → k < 4 → a ≡ flags_by (bit31 a) (bit30 a)
    go zero x h = rw x
    go (suc zero) x h = rw x
    go (suc (suc zero)) x h = rw x
    go (suc (suc (suc zero))) x h = rw x
    go (suc (suc (suc (suc k)))) x h = absurd (omega arith)

-- ## Two flags

bits_same : (x y : ℕ) → x < 2 → y < 2 → eqb x 1 ≡ eqb y 1 → x ≡ y
bits_same zero zero l m e = refl
bits_same zero (suc zero) l m e = absurd (false≢true e)
bits_same (suc zero) zero l m e = absurd (true≢false e)
bits_same (suc zero) (suc zero) l m e = refl
bits_same zero (suc (suc y)) l m e = absurd (omega arith)
bits_same (suc zero) (suc (suc y)) l m e = absurd (omega arith)
bits_same (suc (suc x)) y l m e = absurd (omega arith)

pub bit_same : (f g : ℕ) → bit31 f ≡ bit31 g → same31 f g ≡ true
bit_same f g e = eq-eqb _ _ (bits_same (f / 2147483648 % 2) (g / 2147483648 % 2) (omega arith) (omega arith) e)

pub same_bit : (f g : ℕ) → same31 f g ≡ true → bit31 f ≡ bit31 g
same_bit f g e = ap (λ (n : ℕ). eqb n 1) (eqb-true (f / 2147483648 % 2) (g / 2147483648 % 2) e)

-- ## Files that agree

-- the files still to come agree with those before, of which there were n, the last with these flags
abbrev pub AgreeFrom : ℕ → ℕ → List FileBlock → Type 0
AgreeFrom zero flags fs = Agree fs
AgreeFrom (suc n) flags fs = Each (λ g. verified g ≡ bit31 flags) fs

-- the test of a file head
abbrev pub agreeing : ℕ → ℕ → ℕ → Bool
agreeing n flags a = eqb n 0 || same31 a flags

pub none_agree : (n flags : ℕ) → AgreeFrom n flags []
none_agree zero flags = tt
none_agree (suc n) flags = tt

pub agree_head : (n flags : ℕ) (f : FileBlock) (fs : List FileBlock) → AgreeFrom n flags (f ∷ fs) → agreeing n flags (flags_of f) ≡ true
agree_head zero flags f fs a = refl
agree_head (suc n) flags f fs a = rw (eqb-suc-zero n) (bit_same (flags_of f) flags (flags_31 (verified f) (has f.metadata) ∙ a.0))

pub agree_tail : (n flags : ℕ) (f : FileBlock) (fs : List FileBlock) → AgreeFrom n flags (f ∷ fs) → AgreeFrom (n + 1) (flags_of f) fs
agree_tail zero flags f fs a = subst (λ (v : Bool). Each (λ g. verified g ≡ v) fs) (sym (flags_31 (verified f) (has f.metadata))) a
agree_tail (suc n) flags f fs a =
    rw add-one (subst (λ (v : Bool). Each (λ g. verified g ≡ v) fs) (sym (flags_31 (verified f) (has f.metadata) ∙ a.0)) a.1)

pub agree_more : (n flags a : ℕ) (f : FileBlock) (fs : List FileBlock) → verified f ≡ bit31 a → agreeing n flags a ≡ true → AgreeFrom (n + 1) a fs → AgreeFrom n flags (f ∷ fs)
agree_more zero flags a f fs e h more = subst (λ (v : Bool). Each (λ g. verified g ≡ v) fs) (sym e) more
agree_more (suc n) flags a f fs e h more =
    let s : bit31 a ≡ bit31 flags = same_bit a flags (rw (eqb-suc-zero n) at h) in
    (e ∙ s, subst (λ (v : Bool). Each (λ g. verified g ≡ v) fs) s (rw add-one at more))
