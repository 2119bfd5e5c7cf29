-- A record's numbers and its bytes determine each other: each part is a number, and the parts lie side by side. Assumes nothing.
use mathlib.Core.Path.{◌≡◌, refl, sym, ap, ◌∙◌}
use Prim.Native.Nat.{ℕ, zero, suc, ◌+◌, ◌^◌, ◌≤◌, ◌<◌}
use native.Mathlib.Omega.{arith}
use mathlib.Core.Bool.{Bool, true, false, ◌&&◌, true≢false}
use mathlib.Core.List.{List, [], ◌∷◌, ◌++◌}
use lib.ListN.{length, get_or, take, drop}
use lib.Seq.{take_all}
use lib.Dec.{eqb, lit<}
use borrow.Author.Tests.{eqb-true, eq-eqb}
use Rattle.words.specs.Le.{Bytes, le_at, le_num, spell}
use Rattle.words.specs.Record.{IsHash, hash_at, spell_hash, same_hash, ones, is_ones, Whole, words_at, spell_words, spell_footer}
use Rattle.words.specs.declared.Words.{Words}
use Rattle.words.proofs.Numbers.{num_spell, spell_at, at_lt, part_in, bytes_none, bytes_append, spell_bytes}
use Rattle.words.proofs.Zeros.{and_left, and_right}

-- ## Hashes

pub four_of : (h : List ℕ) → length h ≡ 4 → get_or h 0 0 ∷ get_or h 1 0 ∷ get_or h 2 0 ∷ get_or h 3 0 ∷ [] ≡ h
four_of [] e = absurd (omega arith)
four_of (a ∷ []) e = absurd (omega arith)
four_of (a ∷ b ∷ []) e = absurd (omega arith)
four_of (a ∷ b ∷ c ∷ []) e = absurd (omega arith)
four_of (a ∷ b ∷ c ∷ d ∷ []) e = refl
four_of (a ∷ b ∷ c ∷ d ∷ x ∷ h) e = absurd (omega arith)

pub four_same : {a b c d a' b' c' d' : ℕ} → a ≡ a' → b ≡ b' → c ≡ c' → d ≡ d' → a ∷ b ∷ c ∷ d ∷ [] ≡ a' ∷ b' ∷ c' ∷ d' ∷ []
four_same p q r t = rw (p, q, r, t)

-- the hash of its own bytes
pub hash_spell : (h : List ℕ) → IsHash h → hash_at (spell_hash h) 0 ≡ h
unfolding spell_hash spell le_at le_num
hash_spell h ok = four_same (num_spell 8 _ (ok.each 0)) (num_spell 8 _ (ok.each 1)) (num_spell 8 _ (ok.each 2)) (num_spell 8 _ (ok.each 3)) ∙ four_of h ok.four

-- the 32 bytes of a hash in a list are what its numbers spell
pub spell_hash_at : (bs : List ℕ) (at : ℕ) → at + 32 ≤ length bs → Bytes bs → spell_hash (hash_at bs at) ≡ take 32 (drop at bs)
unfolding spell_hash
spell_hash_at bs at h b =
    part_in at 24 8 bs (part_in at 16 8 bs (part_in at 8 8 bs
    (spell_at 8 bs at (omega arith) b)
    (spell_at 8 bs (at + 8) (omega arith) b))
    (spell_at 8 bs (at + 16) (omega arith) b))
    (spell_at 8 bs (at + 24) (omega arith) b)

pub hash_is : (bs : List ℕ) (at : ℕ) → Bytes bs → IsHash (hash_at bs at)
hash_is bs at b = record { four = refl; each = go }
  where
    go : (i : ℕ) → get_or (hash_at bs at) i 0 < 2 ^ 64
    go zero = at_lt 8 bs at b
    go (suc zero) = at_lt 8 bs (at + 8) b
    go (suc (suc zero)) = at_lt 8 bs (at + 16) b
    go (suc (suc (suc zero))) = at_lt 8 bs (at + 24) b
    go (suc (suc (suc (suc i)))) = lit< tt

-- the test for the hash of all ones
same_hash_lem : (h g : List ℕ) → same_hash h g ≡ true → length h ≡ 4 → length g ≡ 4 → h ≡ g
same_hash_lem h g e p q =
    let e0 : get_or h 0 0 ≡ get_or g 0 0 = eqb-true _ _ (and_left _ _ (and_left _ _ (and_left _ _ e))) in
    let e1 : get_or h 1 0 ≡ get_or g 1 0 = eqb-true _ _ (and_right (eqb (get_or h 0 0) (get_or g 0 0)) _ (and_left _ _ (and_left _ _ e))) in
    let e2 : get_or h 2 0 ≡ get_or g 2 0 = eqb-true _ _ (and_right (eqb (get_or h 0 0) (get_or g 0 0) && eqb (get_or h 1 0) (get_or g 1 0)) _ (and_left _ _ e)) in
    let e3 : get_or h 3 0 ≡ get_or g 3 0 = eqb-true _ _ (and_right (eqb (get_or h 0 0) (get_or g 0 0) && eqb (get_or h 1 0) (get_or g 1 0) && eqb (get_or h 2 0) (get_or g 2 0)) _ e) in
    sym (four_of h p) ∙ four_same e0 e1 e2 e3 ∙ four_of g q

pub hash_same : (h g : List ℕ) → IsHash h → IsHash g → same_hash h g ≡ true → h ≡ g
hash_same h g p q e = same_hash_lem h g e p.four q.four

pub same_self : (h : List ℕ) → same_hash h h ≡ true
same_self h = simp (eq-eqb (get_or h 0 0) _ refl, eq-eqb (get_or h 1 0) _ refl, eq-eqb (get_or h 2 0) _ refl, eq-eqb (get_or h 3 0) _ refl)

pub ones_false : (h : List ℕ) → IsHash h → (h ≡ ones → ⊥) → is_ones h ≡ false
ones_false h ok n = go (is_ones h) refl
  where
    go : (t : Bool) → is_ones h ≡ t → is_ones h ≡ false
    go true e = absurd (n (same_hash_lem h ones e ok.four refl))
    go false e = e

pub false_ones : (h : List ℕ) → is_ones h ≡ false → h ≡ ones → ⊥
false_ones h e p =
    let z : true ≡ false = sym (ap is_ones p) ∙ e in
    true≢false z

pub true_ones : (h : List ℕ) → IsHash h → is_ones h ≡ true → h ≡ ones
true_ones h ok e = same_hash_lem h ones e ok.four refl

pub ones_is : IsHash ones
ones_is = record { four = refl; each = go }
  where
    go : (i : ℕ) → get_or ones i 0 < 2 ^ 64
    go zero = lit< tt
    go (suc zero) = lit< tt
    go (suc (suc zero)) = lit< tt
    go (suc (suc (suc zero))) = lit< tt
    go (suc (suc (suc (suc i)))) = lit< tt

-- ## Records of 48 bytes

pub words_same : {h h' : List ℕ} {a b c d a' b' c' d' : ℕ} → h ≡ h' → a ≡ a' → b ≡ b' → c ≡ c' → d ≡ d'
    → ◌≡◌ {A = Words} (record { hash = h; a = a; b = b; c = c; d = d }) (record { hash = h'; a = a'; b = b'; c = c'; d = d' })
words_same p q r t u = rw (p, q, r, t, u)

-- what was spelled reads back
words_by_parts : (w : Words) → Whole w → ◌≡◌ {A = Words} (record {
  hash = le_num (spell 8 (get_or w.hash 0 0)) ∷ le_num (spell 8 (get_or w.hash 1 0)) ∷ le_num (spell 8 (get_or w.hash 2 0)) ∷ le_num (spell 8 (get_or w.hash 3 0)) ∷ [];
  a = le_num (spell 4 w.a);
  b = le_num (spell 4 w.b);
  c = le_num (spell 4 w.c);
  d = le_num (spell 4 w.d);
}) w
words_by_parts w ok =
    words_same
    (four_same (num_spell 8 _ (ok.hash.each 0)) (num_spell 8 _ (ok.hash.each 1)) (num_spell 8 _ (ok.hash.each 2)) (num_spell 8 _ (ok.hash.each 3)) ∙ four_of w.hash ok.hash.four)
    (num_spell 4 _ ok.a)
    (num_spell 4 _ ok.b)
    (num_spell 4 _ ok.c)
    (num_spell 4 _ ok.d)

pub words_spell : (w : Words) → Whole w → words_at (spell_words w) 0 ≡ w
unfolding spell_words spell_hash spell le_at le_num
words_spell w ok = words_by_parts w ok

-- what was read from 48 bytes spells them
pub spell_words_at : (bs : List ℕ) (at : ℕ) → at + 48 ≤ length bs → Bytes bs → spell_words (words_at bs at) ≡ take 48 (drop at bs)
unfolding spell_words
spell_words_at bs at h b =
    part_in at 44 4 bs (part_in at 40 4 bs (part_in at 36 4 bs (part_in at 32 4 bs
    (spell_hash_at bs at (omega arith) b)
    (spell_at 4 bs (at + 32) (omega arith) b))
    (spell_at 4 bs (at + 36) (omega arith) b))
    (spell_at 4 bs (at + 40) (omega arith) b))
    (spell_at 4 bs (at + 44) (omega arith) b)

pub spell_words_lem : (bs : List ℕ) → length bs ≡ 48 → Bytes bs → spell_words (words_at bs 0) ≡ bs
spell_words_lem bs e b = spell_words_at bs 0 (omega arith) b ∙ take_all 48 bs (omega arith)

pub length_words : (w : Words) → length (spell_words w) ≡ 48
unfolding spell_words spell_hash spell
length_words w = refl

pub words_whole : (bs : List ℕ) (at : ℕ) → Bytes bs → Whole (words_at bs at)
words_whole bs at b = record { hash = hash_is bs at b; a = at_lt 4 bs (at + 32) b; b = at_lt 4 bs (at + 36) b; c = at_lt 4 bs (at + 40) b; d = at_lt 4 bs (at + 44) b }

-- four numbers behind some bytes, and so a whole record, are bytes
four_bytes : (bytes : List ℕ) (w a b c d : ℕ) → Bytes bytes → Bytes (bytes ++ spell w a ++ spell w b ++ spell w c ++ spell w d)
four_bytes bytes w a b c d h =
    bytes_append (bytes ++ spell w a ++ spell w b ++ spell w c) (spell w d)
    (bytes_append (bytes ++ spell w a ++ spell w b) (spell w c)
    (bytes_append (bytes ++ spell w a) (spell w b) (bytes_append bytes (spell w a) h (spell_bytes w a)) (spell_bytes w b)) (spell_bytes w c)) (spell_bytes w d)

pub words_bytes : (w : Words) → Bytes (spell_words w)
unfolding spell_words spell_hash
words_bytes w =
    let h : List ℕ = w.hash in
    four_bytes (spell_hash h) 4 w.a w.b w.c w.d (four_bytes [] 8 (get_or h 0 0) (get_or h 1 0) (get_or h 2 0) (get_or h 3 0) bytes_none)

-- ## The footer

pub length_footer : (xorbs itself : ℕ) (w : Words) → length (spell_footer xorbs itself w) ≡ 200
unfolding spell_footer spell_words spell_hash spell
length_footer xorbs itself w = refl

-- key, created and expiry stand at 72
pub footer_words : (xorbs itself : ℕ) (w : Words) → Whole w → words_at (spell_footer xorbs itself w) 72 ≡ w
unfolding spell_footer spell_words spell_hash spell le_at le_num
footer_words xorbs itself w ok = words_by_parts w ok
