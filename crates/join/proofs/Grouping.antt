-- A group of shards comes to the bytes of the appended trees, because each call gives the tree of both and these only append lists; so two groups of the
-- same shards come to the same. Assumes nothing.
use mathlib.Core.Path.{◌≡◌, refl, sym, ap, ◌∙◌, subst}
use mathlib.Core.Option.{Option, none, some}
use mathlib.Core.List.{List, [], ◌∷◌, ◌++◌}
use Prim.Native.Nat.{ℕ, ◌+◌, ◌-◌, ◌≤◌}
use native.Mathlib.Omega.{arith}
use lib.ListN.{length, length-append}
use Rattle.words.specs.Le.{Bytes}
use Rattle.layout.specs.Layout.{Shard, Each, Sound, length_of, bytes_of}
use Rattle.layout.specs.Claim.{Spells}
use Rattle.layout.proofs.Lists.{each_first, each_second}
use Rattle.layout.proofs.Last.{Spelling, spelling}
use Rattle.join.specs.Join.{joined_bytes}
use Rattle.join.specs.Claims.{join_tree, result_of, Joins, Joinable}
use Rattle.join.specs.Groups.{Group, shard, both, shards_of, with_both, comes_to, length_in, Roomy, tree_of, EachSpelled, GroupClaim}
use Rattle.join.proofs.Spelled.{bytes_spelled}
use Rattle.join.proofs.Sections.{length_both}
use Rattle.join.proofs.Exactly.{spells_both}
use Rattle.join.proofs.Results.{joinable_of, joinable_tree, result_there, result_joinable, result_told}
use Rattle.join.proofs.Trees.{smallest, length_smallest, smallest_sound, smallest_before, smallest_behind, is_smallest, sound_first, sound_second, tree_one, tree_both}

-- ## Lists of trees and shards, cut in two

record Split (tag : List ℕ) (xs ys : List (List ℕ)) (ts : List Shard) : Type 0 where
  front : List Shard
  back : List Shard
  same : ts ≡ front ++ back
  of_front : EachSpelled tag front xs
  of_back : EachSpelled tag back ys

split : (tag : List ℕ) (xs ys : List (List ℕ)) (ts : List Shard) → EachSpelled tag ts (xs ++ ys) → Split tag xs ys ts
split tag [] ys ts h = record { front = []; back = ts; same = refl; of_front = tt; of_back = h }
split tag (x ∷ xs) ys [] h = absurd h
split tag (x ∷ xs) ys (t ∷ ts) (a, e, h) =
    let o : Split tag xs ys ts = split tag xs ys ts h in
    record { front = t ∷ o.front; back = o.back; same = ap (λ (l : List Shard). t ∷ l) o.same; of_front = (a, e, o.of_front); of_back = o.of_back }

spelled_both : (tag : List ℕ) (ss ts : List Shard) (xs ys : List (List ℕ)) → EachSpelled tag ss xs → EachSpelled tag ts ys → EachSpelled tag (ss ++ ts) (xs ++ ys)
spelled_both tag [] ts [] ys a b = b
spelled_both tag [] ts (x ∷ xs) ys a b = absurd a
spelled_both tag (s ∷ ss) ts [] ys a b = absurd a
spelled_both tag (s ∷ ss) ts (x ∷ xs) ys (h, e, a) b = (h, e, spelled_both tag ss ts xs ys a b)

-- ## What two groups come to

-- two results where there is one
both_there : (m n : Option (List ℕ)) (call : List ℕ → List ℕ → Option (List ℕ)) (bytes : List ℕ) → with_both m n call ≡ some bytes
    → (first : List ℕ) × (second : List ℕ) × (m ≡ some first) × (n ≡ some second) × (call first second ≡ some bytes)
both_there (some first) (some second) call bytes e = (first, second, refl, refl, e)
both_there (some first) none call bytes e = absurd (cc)
both_there none n call bytes e = absurd (cc)

module _ (tag : List ℕ) (n32 : length tag ≡ 32) (b : Bytes tag) where
  two_come : (g h : Group) (buffer bytes : List ℕ) → comes_to tag (both g h buffer) ≡ some bytes
      → (first : List ℕ) × (second : List ℕ) × (comes_to tag g ≡ some first) × (comes_to tag h ≡ some second) × (result_of tag first second buffer ≡ some bytes)
  unfolding comes_to
  two_come g h buffer bytes e = both_there (comes_to tag g) (comes_to tag h) (λ first second. result_of tag first second buffer) bytes e

  -- ## Its length

  one_long : (bytes : List ℕ) (ts : List Shard) → EachSpelled tag ts (bytes ∷ []) → length bytes ≡ length_of (tree_of ts)
  one_long bytes [] h = absurd h
  one_long bytes (t ∷ []) (x, et, h) = (spelling tag n32 b bytes t x).size ∙ ap length_of (sym (tree_one t et))
  one_long bytes (t ∷ (u ∷ ts)) (x, et, h) = absurd h

  length_is : (g : Group) (ts : List Shard) → EachSpelled tag ts (shards_of g) → length_in g ≡ length_of (tree_of ts)
  length_is (shard bytes) ts k = one_long bytes ts k
  length_is (both g h buffer) ts k =
      let o : Split tag (shards_of g) (shards_of h) ts = split tag (shards_of g) (shards_of h) ts k in
      let l : length_of (join_tree (tree_of o.front) (tree_of o.back)) + 144 ≡ length_of (tree_of o.front) + length_of (tree_of o.back) = length_both (tree_of o.front) (tree_of o.back) refl refl in
      omega (arith, length_is g o.front o.of_front, length_is h o.back o.of_back, ap length_of (ap tree_of o.same ∙ tree_both o.front o.back))

  -- ## The appended trees

  one_spelled : (bytes result : List ℕ) (ts : List Shard) → EachSpelled tag ts (bytes ∷ []) → comes_to tag (shard bytes) ≡ some result → Spells tag (tree_of ts) result
  unfolding comes_to
  one_spelled bytes result [] h e = absurd h
  one_spelled bytes result (t ∷ []) (x, et, h) e =
      let r : bytes ≡ result = cc in
      subst (λ (u : Shard). Spells tag u result) (sym (tree_one t et)) (subst (Spells tag t) r x)
  one_spelled bytes result (t ∷ (u ∷ ts)) (x, et, h) e = absurd h

  -- what a group comes to is spelled by them, and there was room
  comes : (g : Group) (ts : List Shard) → EachSpelled tag ts (shards_of g) → (bytes : List ℕ) → comes_to tag g ≡ some bytes → Spells tag (tree_of ts) bytes × Roomy g
  comes (shard x) ts h bytes e = (one_spelled x bytes ts h e, tt)
  comes (both g h buffer) ts k bytes e =
      let o : Split tag (shards_of g) (shards_of h) ts = split tag (shards_of g) (shards_of h) ts k in
      let s : Shard = tree_of o.front in
      let t : Shard = tree_of o.back in
      let (first, second, e1, e2, e3) = two_come g h buffer bytes e in
      let (x, rg) = comes g o.front o.of_front first e1 in
      let (y, rh) = comes h o.back o.of_back second e2 in
      let (l, r) = result_told tag n32 b first second buffer bytes s t (spelling tag n32 b first s x) (spelling tag n32 b second t y) e3 in
      let fits : length_in g + length_in h - 144 ≤ length buffer = omega (arith, l, length_is g o.front o.of_front, length_is h o.back o.of_back, length_both s t refl refl) in
      (subst (λ (u : Shard). Spells tag u bytes) (sym (ap tree_of o.same ∙ tree_both o.front o.back)) r.spells, (rg, rh, fits))

  -- ## It comes to them

  one_comes : (bytes : List ℕ) (ts : List Shard) → EachSpelled tag ts (bytes ∷ []) → comes_to tag (shard bytes) ≡ some (bytes_of tag (tree_of ts))
  unfolding comes_to
  one_comes bytes [] h = absurd h
  one_comes bytes (t ∷ []) (x, et, h) = ap some (sym x.spelled ∙ ap (bytes_of tag) (sym (tree_one t et)))
  one_comes bytes (t ∷ (u ∷ ts)) (x, et, h) = absurd h

  two_come_to : (g h : Group) (buffer first second bytes : List ℕ) → comes_to tag g ≡ some first → comes_to tag h ≡ some second → result_of tag first second buffer ≡ some bytes → comes_to tag (both g h buffer) ≡ some bytes
  unfolding comes_to
  two_come_to g h buffer first second bytes e1 e2 e3 = rw (e1, e2) e3

  whole : (g : Group) (ts : List Shard) → EachSpelled tag ts (shards_of g) → Sound (tree_of ts) → Roomy g → comes_to tag g ≡ some (bytes_of tag (tree_of ts))
  whole (shard bytes) ts k ok room = one_comes bytes ts k
  whole (both g h buffer) ts k ok (rg, rh, l) =
      let o : Split tag (shards_of g) (shards_of h) ts = split tag (shards_of g) (shards_of h) ts k in
      let s : Shard = tree_of o.front in
      let t : Shard = tree_of o.back in
      let e : tree_of ts ≡ join_tree s t = ap tree_of o.same ∙ tree_both o.front o.back in
      let sound : Sound (join_tree s t) = subst Sound e ok in
      let s-sound : Sound s = sound_first s t refl refl sound in
      let t-sound : Sound t = sound_second s t refl refl sound in
      let p : Spelling tag (bytes_of tag s) s = spelling tag n32 b (bytes_of tag s) s (record { sound = s-sound; spelled = refl }) in
      let q : Spelling tag (bytes_of tag t) t = spelling tag n32 b (bytes_of tag t) t (record { sound = t-sound; spelled = refl }) in
      let f : Joins s t = record { first = refl; second = refl; sound = sound } in
      let fits : length_of (join_tree s t) ≤ length buffer = omega (arith, l, length_is g o.front o.of_front, length_is h o.back o.of_back, length_both s t refl refl) in
      two_come_to g h buffer (bytes_of tag s) (bytes_of tag t) (bytes_of tag (tree_of ts)) (whole g o.front o.of_front s-sound rg) (whole h o.back o.of_back t-sound rh)
      (result_there tag n32 b (bytes_of tag s) (bytes_of tag t) buffer s t p q f fits
      ∙ ap some (sym (spells_both tag b (bytes_of tag s) (bytes_of tag t) s t p q f).spelled ∙ ap (bytes_of tag) (sym e)))

  -- ## The trees of a group that came to something

  -- a shard alone is not judged by any call
  abbrev Alone : Group → Type 0
  Alone (shard bytes) = Joinable tag bytes
  Alone (both g h buffer) = Unit {0}

  alone : (g : Group) (bytes : List ℕ) → comes_to tag g ≡ some bytes → Joinable tag bytes → Alone g
  unfolding comes_to
  alone (shard x) bytes e a =
      let r : bytes ≡ x = cc in
      subst (Joinable tag) r a
  alone (both g h buffer) bytes e a = tt

  trees_of : (g : Group) → Each Bytes (shards_of g) → Alone g → (bytes : List ℕ) → comes_to tag g ≡ some bytes → (ts : List Shard) × EachSpelled tag ts (shards_of g)
  trees_of (shard x) ys a bytes e =
      let (t, o, et) = joinable_tree tag n32 b x ys.0 a in
      (t ∷ [], (o.spells, et, tt))
  trees_of (both g h buffer) ys a bytes e =
      let (first, second, e1, e2, e3) = two_come g h buffer bytes e in
      let (j1, j2) = result_joinable tag n32 b first second buffer bytes e3 in
      let (ss, k1) = trees_of g (each_first Bytes (shards_of g) (shards_of h) ys) (alone g first e1 j1) first e1 in
      let (ts, k2) = trees_of h (each_second Bytes (shards_of g) (shards_of h) ys) (alone h second e2 j2) second e2 in
      (ss ++ ts, spelled_both tag ss ts (shards_of g) (shards_of h) k1 k2)

  -- ## Other groups of the same shards

  some_shards : (g : Group) → 1 ≤ length (shards_of g)
  some_shards (shard x) = omega arith
  some_shards (both g h buffer) = omega (arith, some_shards g, length-append (shards_of g) (shards_of h))

  regrouped : (g h : Group) → Each Bytes (shards_of g) → shards_of g ≡ shards_of h → Roomy h → (bytes : List ℕ) → comes_to tag g ≡ some bytes → comes_to tag h ≡ some bytes
  unfolding comes_to
  regrouped (shard x) (shard y) ys same room bytes e =
      let r : x ≡ y = cc in
      ap some (sym r) ∙ e
  regrouped (shard x) (both g h buffer) ys same room bytes e = absurd (omega (arith, ap length same ∙ length-append (shards_of g) (shards_of h), some_shards g, some_shards h))
  regrouped (both f g buffer) h ys same room bytes e =
      let (ts, k) = trees_of (both f g buffer) ys tt bytes e in
      let (x, there) = comes (both f g buffer) ts k bytes e in
      whole h ts (subst (EachSpelled tag ts) same k) x.sound room ∙ ap some x.spelled

  -- ## The 144-byte shard

  smallest_spelling : Spelling tag (bytes_of tag smallest) smallest
  smallest_spelling = spelling tag n32 b (bytes_of tag smallest) smallest (record { sound = smallest_sound; spelled = refl })

  -- a join whose tree is known by its bytes
  same_again : (first second buffer bytes : List ℕ) (s t u : Shard) → Spelling tag first s → Spelling tag second t → Spelling tag bytes u → s.footer ≡ none → t.footer ≡ none → join_tree s t ≡ u
      → length bytes ≤ length buffer → result_of tag first second buffer ≡ some bytes
  same_again first second buffer bytes s t u o p q es et e l =
      let f : Joins s t = record { first = es; second = et; sound = rw e q.spells.sound } in
      let r : joined_bytes tag first second ≡ bytes = sym (spells_both tag b first second s t o p f).spelled ∙ ap (bytes_of tag) e ∙ q.spells.spelled in
      let n : length_of (join_tree s t) ≤ length buffer = rw e (omega (arith, q.size)) in
      result_there tag n32 b first second buffer s t o p f n ∙ ap some r

  before : (small other buffer : List ℕ) → Bytes small → Bytes other → Joinable tag small → length small ≡ 144 → Joinable tag other → length other ≤ length buffer → result_of tag small other buffer ≡ some other
  before small other buffer y1 y2 a n c l =
      let (s, o, es) = joinable_tree tag n32 b small y1 a in
      let (t, p, et) = joinable_tree tag n32 b other y2 c in
      let z : s ≡ smallest = is_smallest s es (sym o.size ∙ n) in
      same_again small other buffer other s t t o p p es et (ap (λ (x : Shard). join_tree x t) z ∙ smallest_before t et) l

  behind : (small other buffer : List ℕ) → Bytes small → Bytes other → Joinable tag small → length small ≡ 144 → Joinable tag other → length other ≤ length buffer → result_of tag other small buffer ≡ some other
  behind small other buffer y1 y2 a n c l =
      let (s, o, es) = joinable_tree tag n32 b small y1 a in
      let (t, p, et) = joinable_tree tag n32 b other y2 c in
      let z : s ≡ smallest = is_smallest s es (sym o.size ∙ n) in
      same_again other small buffer other t s t p o p et es (ap (λ (x : Shard). join_tree t x) z ∙ smallest_behind t et) l

  pub group_claim : GroupClaim tag
  group_claim = record {
    smallest = (bytes_of tag smallest, bytes_spelled tag smallest refl, joinable_of tag (bytes_of tag smallest) smallest smallest_spelling refl, smallest_spelling.size ∙ length_smallest);
    before = before;
    behind = behind;
    exactly = λ g ts k bytes. (comes g ts k bytes, λ (x, room). whole g ts k x.sound room ∙ ap some x.spelled);
    regrouped = regrouped;
    right = λ a c d out₁ out₂ out₃ out₄ bytes ya yc yd l₃ l₄ e.
        regrouped (both (both (shard a) (shard c) out₁) (shard d) out₂) (both (shard a) (both (shard c) (shard d) out₃) out₄) (ya, (yc, (yd, tt))) refl (tt, (tt, tt, l₃), l₄) bytes e;
    left = λ a c d out₁ out₂ out₃ out₄ bytes ya yc yd l₁ l₂ e.
        regrouped (both (shard a) (both (shard c) (shard d) out₃) out₄) (both (both (shard a) (shard c) out₁) (shard d) out₂) (ya, (yc, (yd, tt))) refl ((tt, tt, l₁), tt, l₂) bytes e;
  }
