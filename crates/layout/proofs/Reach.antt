-- Reading keeps to the reached places, because a head is refused unless what it declares fits under the limit; and in these the 64 bits
-- of a field hold every number as it is. Assumes nothing.
use mathlib.Core.Path.{◌≡◌, refl, sym, ap, ◌∙◌, subst}
use mathlib.Core.Bool.{Bool, true, false, ◌&&◌}
use Prim.Native.Nat.{ℕ, ◌+◌, ◌-◌, ◌*◌, ◌^◌, ◌≤◌, ◌<◌}
use native.Mathlib.Omega.{arith}
use lib.Dec.{eqb, leb, lit<}
use borrow.Author.Tests.{leb-true}
use Rattle.words.specs.Checks.{pick}
use Rattle.words.specs.Record.{is_ones, Whole}
use Rattle.words.specs.Le.{long}
use Rattle.words.specs.declared.Words.{Words}
use Rattle.words.specs.declared.Tag.{Tag}
use Rattle.words.proofs.Checks.{passed}
use Rattle.rules.specs.Held.{in64, held_due, held}
use Rattle.rules.specs.Rules.{limit, footer_size, bit31, bit30, no_other_bit, further_records, agrees, fits, bookend_fault, file_head_fault, xorb_head_fault, fault_by, fault_of, many, after_verifications, after_segments, chunks_from, counts, nothing, plus, next_by, next_of, start}
use Rattle.rules.specs.Verdicts.{refused}
use Rattle.rules.specs.declared.Totals.{Totals}
use Rattle.rules.specs.declared.Place.{Place}
use Rattle.rules.specs.declared.Due.{Due}
use Rattle.rules.specs.declared.Due.TheVariants.{Header, FileHead, Segment, Verification, Metadata, XorbHead, Chunk, Footer, End, Refused}
use Rattle.layout.specs.Reach.{RoomBy, CountsWithin, Reached}
use Rattle.layout.proofs.Places.{totals_same, pick_by, many_by, past_files, past_xorbs, into_file, into_xorb, after_file_head, after_xorb_head}

-- ## What is due next leaves room

room_last : (p : Place) → p.at.0 + 48 * pick (bit30 p.flags) 1 0 + 96 + footer_size p.footer ≤ limit → RoomBy (after_verifications p.flags) p
room_last p h = pick_by (λ d. RoomBy d p) (bit30 p.flags) Metadata FileHead
    (λ e. let k : ◌≡◌ {A = ℕ} (pick (bit30 p.flags) 1 0) 1 = ap (λ (t : Bool). pick t 1 0) e in omega arith)
    (λ e. let k : ◌≡◌ {A = ℕ} (pick (bit30 p.flags) 1 0) 0 = ap (λ (t : Bool). pick t 1 0) e in omega arith)

room_verifications : (n : ℕ) (p : Place) → p.at.0 + 48 * (n + pick (bit30 p.flags) 1 0) + 96 + footer_size p.footer ≤ limit
    → RoomBy (many n Verification (after_verifications p.flags)) p
room_verifications n p h = many_by (λ d. RoomBy d p) n Verification (after_verifications p.flags) (λ e. room_last p (omega arith)) (λ l. (l, h))

room_parts : (p : Place) → p.at.0 + 48 * (pick (bit31 p.flags) p.entries 0 + pick (bit30 p.flags) 1 0) + 96 + footer_size p.footer ≤ limit
    → RoomBy (after_segments p.flags p.entries) p
room_parts p h = pick_by (λ d. RoomBy d p) (bit31 p.flags) (many p.entries Verification (after_verifications p.flags)) (after_verifications p.flags)
    (λ e. let k : pick (bit31 p.flags) p.entries 0 ≡ p.entries = ap (λ (t : Bool). pick t p.entries 0) e in room_verifications p.entries p (omega arith))
    (λ e. let k : pick (bit31 p.flags) p.entries 0 ≡ 0 = ap (λ (t : Bool). pick t p.entries 0) e in room_last p (omega arith))

room_segments : (n : ℕ) (p : Place) → p.at.0 + 48 * (n + pick (bit31 p.flags) p.entries 0 + pick (bit30 p.flags) 1 0) + 96 + footer_size p.footer ≤ limit
    → RoomBy (many n Segment (after_segments p.flags p.entries)) p
room_segments n p h = many_by (λ d. RoomBy d p) n Segment (after_segments p.flags p.entries) (λ e. room_parts p (omega arith)) (λ l. (l, h))

room_chunks : (n sum total : ℕ) (p : Place) → sum ≤ total → total < 2 ^ 32 → p.at.0 + 48 * n + 48 + footer_size p.footer ≤ limit → RoomBy (chunks_from n sum total) p
room_chunks n sum total p s t h = many_by (λ d. RoomBy d p) n (λ left. Chunk left sum total) XorbHead (λ e. omega arith) (λ l. (l, s, t, h))

room_end : (b : Bool) (p : Place) → p.footer ≡ b → p.at.0 + footer_size p.footer ≤ limit → RoomBy (pick b Footer End) p
room_end true p e h = let k : footer_size p.footer ≡ 200 = ap footer_size e in omega arith
room_end false p e h = omega arith

footer_le : (b : Bool) → footer_size b ≤ 200
footer_le true = omega arith
footer_le false = omega arith

-- ## A good record leads from a reached place to a reached one

-- each record counted takes 48 bytes, and a segment says less than 2 ^ 32
counts_on : {x y : ℕ} {t : Totals} (size : ℕ) (more : Totals) → CountsWithin x y t → 48 * (more.files + more.segments + more.xorbs + more.chunks) ≤ size
    → more.bytes ≤ 4294967296 * more.segments → CountsWithin (x + size) y (plus t more)
counts_on size more c l m = record { records = omega arith; bytes = omega arith; behind = omega arith }

reach_file : (tag : Tag) (p : Place) (w : Words) → is_ones w.hash ≡ false → fault_by FileHead tag p w ≡ 0 → CountsWithin p.at.0 p.offset.0 p.totals → Reached (into_file w.a w.b p)
reach_file tag p w o z c =
    let f : file_head_fault p w ≡ 0 = ap (λ (t : Bool). pick t (bookend_fault w) (file_head_fault p w)) (sym o) ∙ z in
    let (e1, z1) = passed (no_other_bit w.a && eqb w.c 0 && eqb w.d 0) 7 _ (lit< tt) f in
    let (e2, z2) = passed (agrees p w.a) 9 _ (lit< tt) z1 in
    let (e3, z3) = passed (fits p.at.0 (further_records w.a w.b) (96 + footer_size p.footer)) 6 0 (lit< tt) z2 in
    let l : p.at.0 + 48 + 48 * (w.b + pick (bit31 w.a) w.b 0 + pick (bit30 w.a) 1 0) + (96 + footer_size p.footer) ≤ limit = leb-true _ _ e3 in
    record { room = room_segments w.b (into_file w.a w.b p) (omega arith); counts = counts_on 48 (counts 1 0 0 0 0) c (omega arith) (omega arith) }

reach_xorb : (tag : Tag) (p : Place) (w : Words) → Whole w → is_ones w.hash ≡ false → fault_by XorbHead tag p w ≡ 0 → CountsWithin p.at.0 p.offset.0 p.totals → Reached (into_xorb w.b w.c p)
reach_xorb tag p w h o z c =
    let f : xorb_head_fault p w ≡ 0 = ap (λ (t : Bool). pick t (bookend_fault w) (xorb_head_fault p w)) (sym o) ∙ z in
    let (e1, z1) = passed (eqb w.a 0) 7 _ (lit< tt) f in
    let (e2, z2) = passed (fits p.at.0 w.b (48 + footer_size p.footer)) 6 _ (lit< tt) z1 in
    let l : p.at.0 + 48 + 48 * w.b + (48 + footer_size p.footer) ≤ limit = leb-true _ _ e2 in
    record { room = room_chunks w.b 0 w.c (into_xorb w.b w.c p) (omega arith) h.c (omega arith); counts = counts_on 48 (counts 0 0 1 0 0) c (omega arith) (omega arith) }

reach_by : (d : Due) (tag : Tag) (p : Place) (w : Words) → Whole w → RoomBy d p → CountsWithin p.at.0 p.offset.0 p.totals → fault_by d tag p w ≡ 0 → Reached (next_by d p w)
reach_by Header tag p w h r c z =
    let l : footer_size (eqb (long w.c w.d) 200) ≤ 200 = footer_le (eqb (long w.c w.d) 200) in
    record { room = omega arith; counts = counts_on 48 nothing c (omega arith) (omega arith) }
reach_by FileHead tag p w h r c z =
    subst Reached (sym (after_file_head p w))
    (pick_by Reached (is_ones w.hash) (past_files p) (into_file w.a w.b p)
    (λ o. let k = counts_on 48 nothing c (omega arith) (omega arith) in record { room = omega arith; counts = record { records = k.records; bytes = k.bytes; behind = omega arith } })
    (λ o. reach_file tag p w o z c))
reach_by (Segment left) tag p w h (l, r) c z = record { room = room_segments (left - 1) (next_by (Segment left) p w) (omega arith); counts = counts_on 48 (counts 0 1 0 0 w.b) c (omega arith) (omega arith) }
reach_by (Verification left) tag p w h (l, r) c z = record { room = room_verifications (left - 1) (next_by (Verification left) p w) (omega arith); counts = counts_on 48 nothing c (omega arith) (omega arith) }
reach_by Metadata tag p w h r c z = record { room = omega arith; counts = counts_on 48 nothing c (omega arith) (omega arith) }
reach_by XorbHead tag p w h r c z =
    subst Reached (sym (after_xorb_head p w))
    (pick_by Reached (is_ones w.hash) (past_xorbs p) (into_xorb w.b w.c p)
    (λ o. record { room = room_end p.footer (past_xorbs p) refl (omega arith); counts = counts_on 48 nothing c (omega arith) (omega arith) })
    (λ o. reach_xorb tag p w h o z c))
reach_by (Chunk left sum total) tag p w h (l, s, t, r) c z =
    let (e1, z1) = passed (eqb w.c 0 && eqb w.d 0) 7 _ (lit< tt) z in
    let (e2, z2) = passed (eqb w.a sum) 11 _ (lit< tt) z1 in
    let (e3, z3) = passed (leb (sum + w.b) total) 11 _ (lit< tt) z2 in
    record {
      room = room_chunks (left - 1) (sum + w.b) total (next_by (Chunk left sum total) p w) (leb-true _ _ e3) t (omega arith);
      counts = counts_on 48 (counts 0 0 0 1 0) c (omega arith) (omega arith);
    }
reach_by Footer tag p w h r c z = record { room = omega arith; counts = counts_on 200 nothing c (omega arith) (omega arith) }
reach_by End tag p w h r c z = record { room = omega arith; counts = counts_on 0 nothing c (omega arith) (omega arith) }
reach_by (Refused n) tag p w h r c z = absurd (omega (arith, r.0, z))

-- reading begins at a reached place
pub reached_start : Reached start
reached_start = record { room = omega arith; counts = record { records = omega arith; bytes = omega arith; behind = omega arith } }

pub reached_next : (tag : Tag) (p : Place) (w : Words) → Whole w → Reached p → fault_of tag p w ≡ 0 → Reached (next_of p w)
unfolding next_of fault_of
reached_next tag p w h r z = reach_by p.due tag p w h r.room r.counts z

-- ## Positions and counts

limit_by : (d : Due) (p : Place) → RoomBy d p → p.at.0 ≤ limit
limit_by Header p r = omega arith
limit_by FileHead p r = omega arith
limit_by (Segment left) p r = omega arith
limit_by (Verification left) p r = omega arith
limit_by Metadata p r = omega arith
limit_by XorbHead p r = omega arith
limit_by (Chunk left sum total) p r = omega arith
limit_by Footer p r = omega arith
limit_by End p r = r
limit_by (Refused n) p r = r.1

-- a reached place is within the limit, and stays reached where reading stops
pub at_limit : (p : Place) → Reached p → p.at.0 ≤ limit
at_limit p r = limit_by p.due p r.room

pub reached_refused : (n : ℕ) (p : Place) → 0 < n → Reached p → Reached (refused n p)
reached_refused n p l r = record { room = (l, at_limit p r); counts = r.counts }

-- ## Nothing is lost in 64 bits

small : (n : ℕ) → n < 2 ^ 64 → in64 n ≡ n
small n h = omega arith

due_exact : (d : Due) (p : Place) → RoomBy d p → held_due d ≡ d
due_exact Header p r = refl
due_exact FileHead p r = refl
due_exact (Segment left) p r = refl
due_exact (Verification left) p r = refl
due_exact Metadata p r = refl
due_exact XorbHead p r = refl
due_exact (Chunk left sum total) p (l, s, t, r) = ap (λ (x : ℕ). Chunk left x total) (small sum (omega arith))
due_exact Footer p r = refl
due_exact End p r = refl
due_exact (Refused n) p r = refl

place_same : {a b o q : ℕ} {t u : Totals} {d e : Due} (p : Place) → a ≡ b → o ≡ q → t ≡ u → d ≡ e
    → ◌≡◌ {A = Place} (record { at = record { 0 = a }; offset = record { 0 = o }; totals = t; flags = p.flags; entries = p.entries; footer = p.footer; due = d })
    (record { at = record { 0 = b }; offset = record { 0 = q }; totals = u; flags = p.flags; entries = p.entries; footer = p.footer; due = e })
place_same p x y z w = rw (x, y, z, w)

pub exact : (p : Place) → Reached p → held p ≡ p
unfolding held
exact p r =
    let l : p.at.0 ≤ limit = at_limit p r in
    place_same p (small p.at.0 (omega arith)) (small p.offset.0 (omega (arith, r.counts.behind)))
    (totals_same (small p.totals.files (omega (arith, r.counts.records))) (small p.totals.segments (omega (arith, r.counts.records)))
    (small p.totals.xorbs (omega (arith, r.counts.records))) (small p.totals.chunks (omega (arith, r.counts.records)))
    (small p.totals.bytes (omega (arith, r.counts.records, r.counts.bytes))))
    (due_exact p.due p r.room)
