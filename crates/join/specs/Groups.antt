-- JOINING SEVERAL SHARDS, call after call, and the claims about it, proved in proofs/Grouping for every tag of 32 bytes: the 144-byte shard changes
-- nothing, and a day's shards give the same bytes in whatever grouping they are joined, those of the appended trees.
use Rattle.std.specs.Prelude.{◌≡◌, ◌↔◌, List, [], ◌∷◌, ◌++◌, ℕ, ◌+◌, ◌-◌, ◌≤◌, length}
use Rattle.std.proofs.Math.Option.{Option, none, some}
use Rattle.words.specs.Le.{Bytes}
use Rattle.layout.specs.Layout.{Shard, Each, joined}
use Rattle.layout.specs.Claim.{Spells}
use Rattle.join.specs.Claims.{result_of, Joinable}

-- ## Groups of shards

-- one shard as it is, or what two groups come to, joined into a buffer
pub data Group : Type 0 where
  shard : List ℕ → Group
  both : Group → Group → List ℕ → Group

-- its shards, in their order
abbrev pub shards_of : Group → List (List ℕ)
shards_of (shard bytes) = bytes ∷ []
shards_of (both g h buffer) = shards_of g ++ shards_of h

-- what it comes to; none if a call is refused
abbrev pub with_both : Option (List ℕ) → Option (List ℕ) → (List ℕ → List ℕ → Option (List ℕ)) → Option (List ℕ)
with_both (some first) (some second) call = call first second
with_both (some first) none call = none
with_both none second call = none

unfoldable pub comes_to : List ℕ → Group → Option (List ℕ)
comes_to tag (shard bytes) = some bytes
comes_to tag (both g h buffer) = with_both (comes_to tag g) (comes_to tag h) (λ first second. result_of tag first second buffer)

-- each joint saves 144 bytes
abbrev pub length_in : Group → ℕ
length_in (shard bytes) = length bytes
length_in (both g h buffer) = length_in g + length_in h - 144

-- room enough is lent at each step
abbrev pub Roomy : Group → Type 0
Roomy (shard bytes) = Unit {0}
Roomy (both g h buffer) = Roomy g × Roomy h × (length_in g + length_in h - 144 ≤ length buffer)

-- ## Their trees

-- the appended lists
abbrev pub tree_of : List Shard → Shard
tree_of ts = record { files = joined (λ t. t.files) ts; xorbs = joined (λ t. t.xorbs) ts; footer = none }

-- these shards are spelled so, and have no footer
abbrev pub EachSpelled : List ℕ → List Shard → List (List ℕ) → Type 0
EachSpelled tag [] [] = Unit {0}
EachSpelled tag [] (x ∷ xs) = ⊥
EachSpelled tag (t ∷ ts) [] = ⊥
EachSpelled tag (t ∷ ts) (x ∷ xs) = Spells tag t x × (t.footer ≡ none) × EachSpelled tag ts xs

-- ## The claims

pub record GroupClaim (tag : List ℕ) : Type 0 where
  -- there is a shard of 144 bytes, and any such changes nothing on either side
  pub smallest : (bytes : List ℕ) × Bytes bytes × Joinable tag bytes × (length bytes ≡ 144)
  pub before : (small other buffer : List ℕ) → Bytes small → Bytes other → Joinable tag small → length small ≡ 144 → Joinable tag other → length other ≤ length buffer → result_of tag small other buffer ≡ some other
  pub behind : (small other buffer : List ℕ) → Bytes small → Bytes other → Joinable tag small → length small ≡ 144 → Joinable tag other → length other ≤ length buffer → result_of tag other small buffer ≡ some other
  -- a group comes to some bytes exactly if the appended trees are sound and spell them, and room enough is lent
  pub exactly : (g : Group) (ts : List Shard) → EachSpelled tag ts (shards_of g) → (bytes : List ℕ) → comes_to tag g ≡ some bytes ↔ (Spells tag (tree_of ts) bytes × Roomy g)
  -- so two groups of the same shards come to the same: where one is accepted, so is the other with room enough lent at each step
  pub regrouped : (g h : Group) → Each Bytes (shards_of g) → shards_of g ≡ shards_of h → Roomy h → (bytes : List ℕ) → comes_to tag g ≡ some bytes → comes_to tag h ≡ some bytes
  -- of three, whichever pair goes first
  pub right : (a b c out₁ out₂ out₃ out₄ bytes : List ℕ) → Bytes a → Bytes b → Bytes c
      → length b + length c - 144 ≤ length out₃ → length a + (length b + length c - 144) - 144 ≤ length out₄
      → comes_to tag (both (both (shard a) (shard b) out₁) (shard c) out₂) ≡ some bytes → comes_to tag (both (shard a) (both (shard b) (shard c) out₃) out₄) ≡ some bytes
  pub left : (a b c out₁ out₂ out₃ out₄ bytes : List ℕ) → Bytes a → Bytes b → Bytes c
      → length a + length b - 144 ≤ length out₁ → length a + length b - 144 + length c - 144 ≤ length out₂
      → comes_to tag (both (shard a) (both (shard b) (shard c) out₃) out₄) ≡ some bytes → comes_to tag (both (both (shard a) (shard b) out₁) (shard c) out₂) ≡ some bytes
