-- THE CLAIMS OF JOINING, proved in proofs/Theorem for every tag of 32 bytes: what is written are the bytes of the two trees joined, so it is accepted and
-- its records are theirs; it is written exactly if that tree is sound and there is room. (Under any other tag the first shard is refused with 2.)
-- Claims about several calls are in specs/Groups.
use Rattle.std.specs.Prelude.{◌≡◌, ◌↔◌, Bool, true, false, ◌||◌, List, [], ◌∷◌, ◌++◌, map, ℕ, ◌+◌, ◌-◌, ◌≤◌, length, take, drop, Result, Ok, Err}
use Rattle.std.proofs.Math.Option.{Option, none, some}
use Rattle.words.specs.Checks.{pick}
use Rattle.words.specs.Le.{Bytes}
use Rattle.rules.specs.Rules.{same31}
use Rattle.rules.specs.declared.Record.{Record}
use Rattle.words.specs.declared.Refusal.{Refusal}
use Rattle.rules.specs.declared.Summary.{Summary}
use Rattle.rules.specs.declared.Kind.{Kind}
use Rattle.rules.specs.declared.Kind.TheVariants as kind
use Rattle.layout.specs.Layout.{FileBlock, Shard, Row, Sound, has, flags_of, length_of}
use Rattle.layout.specs.Claim.{Spells}
use Rattle.layout.specs.Scan.{found_in}
use Rattle.join.specs.Join.{join_fault, answer_by, joined_bytes, join_of, buffer_of}

-- ## Words for the claims

-- the first one's files, then the second's, and the same for xorbs, duplicates kept
abbrev pub join_tree : Shard → Shard → Shard
join_tree s t = record { files = s.files ++ t.files; xorbs = s.xorbs ++ t.xorbs; footer = none }

-- two trees can be joined: neither has a footer, and the tree of both is sound, so that its files agree about bit 31 and it does not pass the limit
pub record Joins (s t : Shard) : Type 0 where
  pub first : s.footer ≡ none
  pub second : t.footer ≡ none
  pub sound : Sound (join_tree s t)

-- they can, the tree of both is so long, and there is room for it
pub record JoinsIn (s t : Shard) (room size : ℕ) : Type 0 where
  pub joins : Joins s t
  pub long : size ≡ length_of (join_tree s t)
  pub fits : size ≤ room

-- where both have files, the first ones agree about bit 31
abbrev pub firsts_agree : List FileBlock → List FileBlock → Bool
firsts_agree [] gs = true
firsts_agree (f ∷ fs) [] = true
firsts_agree (f ∷ fs) (g ∷ gs) = same31 (flags_of f) (flags_of g)

-- the number of the first check that fails, by the trees
abbrev pub tree_fault : Shard → Shard → ℕ → ℕ
tree_fault s t room = join_fault (has s.footer || has t.footer) (firsts_agree s.files t.files) (length_of s + length_of t - 144) room

-- accepted, and without footer
pub record Joinable (tag bytes : List ℕ) : Type 0 where
  pub summary : Summary
  pub accepted : (found_in tag bytes).verdict ≡ Ok summary
  pub footer : summary.footer ≡ false

-- the kinds of a file's records, and those of a xorb's
abbrev pub of_file : Kind → Bool
of_file kind.Header = false
of_file kind.FileHead = true
of_file kind.Segment = true
of_file kind.Verification = true
of_file kind.Metadata = true
of_file kind.XorbHead = false
of_file kind.Chunk = false
of_file kind.Bookend = false
of_file kind.Footer = false

abbrev pub of_xorb : Kind → Bool
of_xorb kind.Header = false
of_xorb kind.FileHead = false
of_xorb kind.Segment = false
of_xorb kind.Verification = false
of_xorb kind.Metadata = false
of_xorb kind.XorbHead = true
of_xorb kind.Chunk = true
of_xorb kind.Bookend = false
of_xorb kind.Footer = false

-- a record, its position aside
abbrev pub unplaced : Record → Row
unplaced r = record { kind = r.kind; words = r.words }

-- rows of some kinds, in their order
abbrev pub of_kinds : (Kind → Bool) → List Row → List Row
of_kinds these [] = []
of_kinds these (r ∷ rs) = pick (these r.kind) (r ∷ of_kinds these rs) (of_kinds these rs)

-- the records of some kinds that are found in a shard, positions aside
abbrev pub records_in : (Kind → Bool) → List ℕ → List ℕ → List Row
records_in these tag bytes = of_kinds these (map unplaced (found_in tag bytes).records)

-- the shard that a call leaves in the buffer; none if it is refused
abbrev pub result_by : Result ℕ Refusal → List ℕ → Option (List ℕ)
result_by (Ok size) buffer = some (take size buffer)
result_by (Err refusal) buffer = none

unfoldable pub result_of : List ℕ → List ℕ → List ℕ → List ℕ → Option (List ℕ)
result_of tag first second buffer = result_by (join_of tag first second (length buffer)) (buffer_of tag first second buffer)

-- ## One call

pub record JoinClaim (tag : List ℕ) : Type 0 where
  -- the answer, by the trees
  pub answer : (first second : List ℕ) (s t : Shard) → Spells tag s first → Spells tag t second → (room : ℕ) → join_of tag first second room ≡ answer_by (tree_fault s t room) (length_of s + length_of t - 144)
  -- a number of bytes is written exactly if the two trees can be joined, it is the length of the tree of both, and there is room for it
  pub exactly : (first second : List ℕ) (s t : Shard) → Spells tag s first → Spells tag t second → (room size : ℕ) → join_of tag first second room ≡ Ok size ↔ JoinsIn s t room size
  -- what is written then spells that tree
  pub spells : (first second : List ℕ) (s t : Shard) → Spells tag s first → Spells tag t second → Joins s t → Spells tag (join_tree s t) (joined_bytes tag first second)
  -- of any two inputs: where something is written, both are accepted and without footer, and so is the result, whose length is the sum less 144
  pub all : (first second : List ℕ) (room size : ℕ) → Bytes first → Bytes second → join_of tag first second room ≡ Ok size
      → Joinable tag first × Joinable tag second × Joinable tag (joined_bytes tag first second)
  pub sum : (first second : List ℕ) (room size : ℕ) → Bytes first → Bytes second → join_of tag first second room ≡ Ok size
      → (length (joined_bytes tag first second) ≡ size) × (size + 144 ≡ length first + length second)
  -- its file records are the two lists joined, and its xorb records too
  pub files : (first second : List ℕ) (room size : ℕ) → Bytes first → Bytes second → join_of tag first second room ≡ Ok size
      → records_in of_file tag (joined_bytes tag first second) ≡ records_in of_file tag first ++ records_in of_file tag second
  pub xorbs : (first second : List ℕ) (room size : ℕ) → Bytes first → Bytes second → join_of tag first second room ≡ Ok size
      → records_in of_xorb tag (joined_bytes tag first second) ≡ records_in of_xorb tag first ++ records_in of_xorb tag second

-- the buffer: a refusal changes no byte; else no byte past the result changes, and the result is what stands before them
pub record BufferClaim (tag : List ℕ) : Type 0 where
  pub refused : (first second buffer : List ℕ) (r : Refusal) → join_of tag first second (length buffer) ≡ Err r → (buffer_of tag first second buffer ≡ buffer) × (result_of tag first second buffer ≡ none)
  pub past : (first second buffer : List ℕ) (size : ℕ) → Bytes first → Bytes second → join_of tag first second (length buffer) ≡ Ok size → drop size (buffer_of tag first second buffer) ≡ drop size buffer
  pub result : (first second buffer : List ℕ) (size : ℕ) → Bytes first → Bytes second → join_of tag first second (length buffer) ≡ Ok size
      → result_of tag first second buffer ≡ some (joined_bytes tag first second)
  pub same_length : (first second buffer : List ℕ) → Bytes first → Bytes second → length (buffer_of tag first second buffer) ≡ length buffer
