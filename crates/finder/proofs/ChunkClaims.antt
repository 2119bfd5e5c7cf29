-- The claims of finding a chunk, because each record is a xorb head, a chunk with that hash, or changes nothing but the numbers. Assumes nothing.
use Rattle.std.specs.Prelude.{Err, Ok, None}
use mathlib.Core.Path.{◌≡◌, refl, sym, ap, ◌∙◌, subst}
use mathlib.Core.Logic.{◌↔◌}
use mathlib.Core.Bool.{Bool, true, false, true≢false}
use mathlib.Core.Option.{Option, none, some}
use mathlib.Core.List.{List, [], ◌∷◌, ◌++◌, map}
use Prim.Native.Nat.{ℕ, ◌+◌}
use native.Mathlib.Omega.{arith}
use Rattle.words.specs.Checks.{pick}
use Rattle.words.specs.Le.{Bytes}
use Rattle.words.specs.Record.{IsHash, same_hash}
use Rattle.rules.specs.Kinds.{same_kind}
use Rattle.rules.specs.declared.Record.{Record}
use Rattle.words.specs.declared.Position.{Position}
use Rattle.rules.specs.declared.BlockNumber.{BlockNumber}
use Rattle.rules.specs.declared.ChunkIndex.{ChunkIndex}
use Rattle.rules.specs.declared.Kind.{Kind}
use Rattle.rules.specs.declared.Kind.TheVariants as kind
use Rattle.layout.specs.Layout.{XorbBlock, Foot, Shard, Row, Each, if_any, placed, foot_record, file_section, xorb_section, rows_of, xorb_offset, footer_offset, records_of}
use Rattle.layout.specs.Blocks.{xorb_block, blocks_then}
use Rattle.layout.specs.Scan.{Found, found_in, IsAccepted}
use Rattle.layout.proofs.Answers.{if_accepted_lem, was_accepted}
use Rattle.layout.proofs.BlockKinds.{Kinds}
use Rattle.layout.proofs.Last.{spelling}
use Rattle.finder.specs.Find.{ChunkAnswer, the_chunk, chunk_at, chunk_behind, chunk_in, chunk_found}
use Rattle.finder.specs.Claims.{Has, NoneHas, chunks_since, First, There, Headed, FirstChunk, NoneIn, ChunkOfTree, ChunkClaim}
use Rattle.finder.specs.declared.ChunkPlace.{ChunkPlace}
use Rattle.finder.proofs.Standing.{placed_then}
use Rattle.finder.proofs.Sections.{xorb_section_lem, file_section_kinds}
use Rattle.finder.proofs.Firsts.{first_here, first_later, not_none, other_hash, first_stands, foot_kinds, there}
use Rattle.finder.proofs.Begin.{Accepted, accepted, chunk_spelled}
use Rattle.finder.proofs.ChunkFirsts.{chunk_if, none_if}

-- a kind that changes nothing for chunks
abbrev NoChunk : Kind → Type 0
NoChunk k = (hash : List ℕ) (block index : ℕ) (r : Record) (later : ℕ → ℕ → ChunkAnswer) → chunk_at k hash block index r later ≡ later block index

-- what a kind is for the search
data Seen : Kind → Type 0 where
  a_head : Seen kind.XorbHead
  a_chunk : Seen kind.Chunk
  another : {k : Kind} → NoChunk k → same_kind k kind.XorbHead ≡ false → same_kind k kind.Chunk ≡ false → Seen k

seen : (k : Kind) → Seen k
seen kind.Header = another (λ h b i r l. refl) refl refl
seen kind.FileHead = another (λ h b i r l. refl) refl refl
seen kind.Segment = another (λ h b i r l. refl) refl refl
seen kind.Verification = another (λ h b i r l. refl) refl refl
seen kind.Metadata = another (λ h b i r l. refl) refl refl
seen kind.XorbHead = a_head
seen kind.Chunk = a_chunk
seen kind.Bookend = another (λ h b i r l. refl) refl refl
seen kind.Footer = another (λ h b i r l. refl) refl refl

-- ## In any records

-- the two ways in which a search ends
data Ends (hash : List ℕ) (blocks index : ℕ) (rs : List Record) : ChunkAnswer → Type 0 where
  absent : NoneHas kind.Chunk hash rs → Ends hash blocks index rs (Ok None)
  found : (b : BlockNumber) (i : ChunkIndex) (p : Position) → FirstChunk hash blocks index rs b i p → Ends hash blocks index rs (the_chunk b i p)

-- one record that is not it, and what the search behind it comes to
behind : (hash : List ℕ) (blocks index blocks' index' : ℕ) (r : Record) (rs : List Record) {answer : ChunkAnswer} → (Has kind.Chunk hash r → ⊥)
    → blocks' ≡ blocks + pick (same_kind r.kind kind.XorbHead) 1 0
    → index' ≡ pick (same_kind r.kind kind.XorbHead) 0 (index + pick (same_kind r.kind kind.Chunk) 1 0)
    → Ends hash blocks' index' rs answer → Ends hash blocks index (r ∷ rs) answer
behind hash blocks index blocks' index' r rs n eb ei (absent h) = absent (n, h)
behind hash blocks index blocks' index' r rs n eb ei (found b i p f) = found b i p (record {
  first = first_later kind.Chunk hash r rs p n f.first;
  block = omega (arith, f.block);
  index_is = f.index_is ∙ ap (λ (x : ℕ). chunks_since x f.first.before) ei;
})

module _ (hash : List ℕ) (r : Record) (rs : List Record) where
  not_kind : {k : Kind} → r.kind ≡ k → same_kind k kind.Chunk ≡ false → Has kind.Chunk hash r → ⊥
  not_kind e s h = true≢false (ap (λ (x : Kind). same_kind x kind.Chunk) (sym h.kind ∙ e) ∙ s)

  module _ (block index : ℕ) (later : (b i : ℕ) → Ends hash (b + 1) i rs (chunk_behind hash b i rs)) where
    at_chunk : (t : Bool) → r.kind ≡ kind.Chunk → same_hash r.words.hash hash ≡ t
        → Ends hash (block + 1) index (r ∷ rs) (pick t (the_chunk (record { 0 = block }) (record { 0 = index }) r.at) (chunk_behind hash block (index + 1) rs))
    at_chunk true e s = found (record { 0 = block }) (record { 0 = index }) r.at (record {
      first = first_here kind.Chunk hash r rs (record { kind = e; same = s });
      block = omega arith;
      index_is = refl;
    })
    at_chunk false e s = behind hash (block + 1) index (block + 1) (index + 1) r rs (other_hash kind.Chunk hash r s) (rw e (omega arith)) (rw e refl) (later block (index + 1))

    at_kind : (k : Kind) → r.kind ≡ k → Seen k → Ends hash (block + 1) index (r ∷ rs) (chunk_at k hash block index r (λ b i. chunk_behind hash b i rs))
    at_kind kind.XorbHead e a_head = behind hash (block + 1) index (block + 1 + 1) 0 r rs (not_kind e refl) (rw e refl) (rw e refl) (later (block + 1) 0)
    at_kind kind.Chunk e a_chunk = at_chunk (same_hash r.words.hash hash) e refl
    at_kind k e (another q s t) = rw (q hash block index r (λ b i. chunk_behind hash b i rs))
        (behind hash (block + 1) index (block + 1) index r rs (not_kind e t) (rw (e, s) (omega arith)) (rw (e, s, t) (omega arith)) (later block index))

  -- before the first xorb head
  at_first : (t : Bool) → same_kind r.kind kind.XorbHead ≡ t → Headed (r ∷ rs) → Ends hash 1 0 rs (chunk_behind hash 0 0 rs) → (Headed rs → Ends hash 0 0 rs (chunk_in hash rs))
      → Ends hash 0 0 (r ∷ rs) (pick t (chunk_behind hash 0 0 rs) (chunk_in hash rs))
  at_first true e h here later =
      behind hash 0 0 1 0 r rs (λ u. true≢false (sym e ∙ ap (λ (k : Kind). same_kind k kind.XorbHead) u.kind)) (rw e refl) (rw e refl) here
  at_first false e h here later =
      let (n, hs) = h e in
      behind hash 0 0 0 0 r rs (not_kind refl n) (rw e refl) (rw (e, n) refl) (later hs)

ends_behind : (hash : List ℕ) (block index : ℕ) (rs : List Record) → Ends hash (block + 1) index rs (chunk_behind hash block index rs)
unfolding chunk_behind
ends_behind hash block index [] = absent tt
ends_behind hash block index (r ∷ rs) = at_kind hash r rs block index (λ b i. ends_behind hash b i rs) r.kind refl (seen r.kind)

ends : (hash : List ℕ) (rs : List Record) → Headed rs → Ends hash 0 0 rs (chunk_in hash rs)
unfolding chunk_in
ends hash [] h = absent tt
ends hash (r ∷ rs) h = at_first hash r rs (same_kind r.kind kind.XorbHead) refl h (ends_behind hash 0 0 rs) (λ hs. ends hash rs hs)

-- what an end says of its answer
if_absent : {hash : List ℕ} {blocks index : ℕ} {rs : List Record} {answer : ChunkAnswer} → Ends hash blocks index rs answer → answer ≡ Ok None → NoneHas kind.Chunk hash rs
if_absent (absent n) e = n
if_absent (found b i p f) e = absurd (cc)

if_none : {hash : List ℕ} {blocks index : ℕ} {rs : List Record} {answer : ChunkAnswer} → Ends hash blocks index rs answer → NoneHas kind.Chunk hash rs → answer ≡ Ok None
if_none (absent n) m = refl
if_none {hash} {rs = rs} (found b i p f) m = absurd (not_none kind.Chunk hash rs p f.first m)

if_found : {hash : List ℕ} {blocks index : ℕ} {rs : List Record} {answer : ChunkAnswer} (b : BlockNumber) (i : ChunkIndex) (p : Position)
    → Ends hash blocks index rs answer → answer ≡ the_chunk b i p → FirstChunk hash blocks index rs b i p
if_found b i p (absent n) e = absurd (cc)
if_found {hash} {blocks} {index} {rs} b i p (found b' i' p' f) e =
    let q : ◌≡◌ {A = ChunkPlace} (record { block = b'; index = i'; at = p' }) (record { block = b; index = i; at = p }) = cc in
    let eb : b' ≡ b = ap (λ (x : ChunkPlace). x.block) q in
    let ei : i' ≡ i = ap (λ (x : ChunkPlace). x.index) q in
    let ep : p' ≡ p = ap (λ (x : ChunkPlace). x.at) q in
    rw (eb, ei, ep) at f

-- ## In an accepted shard

abbrev NotChunk : Kind → Type 0
NotChunk k = same_kind k kind.Chunk ≡ false

headed_past : (at : ℕ) (rows : List Row) (behind : List Record) → Kinds NotChunk rows → Headed behind → Headed (placed at rows ++ behind)
headed_past at [] behind n h = h
headed_past at (r ∷ rs) behind (n, ns) h = λ e. (n, headed_past (at + 48) rs behind ns h)

headed_section : (at : ℕ) (xs : List XorbBlock) (behind : List Record) → Headed behind → Headed (placed at (blocks_then xorb_block xs []) ++ behind)
headed_section at [] behind h = λ e. (refl, h)
headed_section at (x ∷ xs) behind h = λ e. absurd (true≢false e)

headed_foot : (x h : ℕ) (o : Option Foot) → Headed (map (foot_record x h) (if_any o))
headed_foot x h none = tt
headed_foot x h (some f) = λ e. (refl, tt)

headed_shard : (tag : List ℕ) (s : Shard) → Headed (records_of tag s)
unfolding records_of rows_of xorb_offset
headed_shard tag s =
    let foot : List Record = map (foot_record (xorb_offset s) (footer_offset s)) (if_any s.footer) in
    λ e. (
      refl,
      subst Headed (sym (placed_then 48 (file_section s) (xorb_section s) foot)) (headed_past 48 (file_section s) _ (file_section_kinds NotChunk s refl refl refl refl refl)
          (subst (λ (l : List Row). Headed (placed (xorb_offset s) l ++ foot)) (sym (xorb_section_lem s)) (headed_section (xorb_offset s) s.xorbs foot (headed_foot (xorb_offset s) (footer_offset s) s.footer)))),
    )

module _ (tag bytes : List ℕ) (t : Bytes tag) (y : Bytes bytes) where
  headed_in : IsAccepted (found_in tag bytes).verdict → Headed (found_in tag bytes).records
  headed_in a =
      let o : Accepted tag bytes = accepted tag bytes t y a in
      subst (λ (f : Found). Headed f.records) (sym o.spelling.found) (headed_shard tag o.shard)

  module _ (hash : List ℕ) where
    ends_in : IsAccepted (found_in tag bytes).verdict → Ends hash 0 0 (found_in tag bytes).records (chunk_found tag bytes hash)
    unfolding chunk_found
    ends_in a = subst (Ends hash 0 0 (found_in tag bytes).records) (sym (if_accepted_lem Err (found_in tag bytes).verdict (chunk_in hash (found_in tag bytes).records) a)) (ends hash _ (headed_in a))

    found_there : (b : BlockNumber) (i : ChunkIndex) (p : Position) → IsHash hash → chunk_found tag bytes hash ≡ the_chunk b i p → There bytes hash p
    unfolding chunk_found records_of
    found_there b i p h e =
        let a = was_accepted Err (λ (f : ChunkAnswer). f ≡ the_chunk b i p) (found_in tag bytes).verdict (λ s. chunk_in hash (found_in tag bytes).records) (λ r q. absurd (cc)) e in
        let o : Accepted tag bytes = accepted tag bytes t y a in
        let s : Shard = o.shard in
        let f : First kind.Chunk hash (records_of tag s) p = subst (λ (f : Found). First kind.Chunk hash f.records p) o.spelling.found (if_found b i p (ends_in a) e).first in
        there bytes hash p y h (first_stands kind.Chunk bytes hash 0 (rows_of tag s) _ p o.rows (foot_kinds kind.Chunk (xorb_offset s) (footer_offset s) s.footer (λ q. cc)) f)

pub chunks : ChunkClaim
chunks = record {
  absent = λ hash rs h. (if_absent (ends hash rs h), if_none (ends hash rs h));
  first = λ hash rs b i p h e. if_found b i p (ends hash rs h) e;
  headed = headed_in;
  shard = λ tag bytes hash t y a. (if_absent (ends_in tag bytes t y hash a), if_none (ends_in tag bytes t y hash a));
  there = λ tag bytes hash b i p t y. found_there tag bytes t y hash b i p;
  tree = λ tag bytes s hash b i p t l h x.
      subst (λ (r : ChunkAnswer). r ≡ the_chunk b i p ↔ ChunkOfTree hash 0 (xorb_offset s) s.xorbs b i p) (sym (chunk_spelled tag bytes hash s (spelling tag l t bytes s x)))
      (chunk_if hash h 0 (xorb_offset s) s.xorbs x.sound.xorbs b i p);
  none_in_tree = λ tag bytes s hash t l h x.
      subst (λ (r : ChunkAnswer). r ≡ Ok None ↔ Each (λ y. NoneIn hash y.chunks) s.xorbs) (sym (chunk_spelled tag bytes hash s (spelling tag l t bytes s x)))
      (none_if hash h 0 (xorb_offset s) s.xorbs x.sound.xorbs);
}
