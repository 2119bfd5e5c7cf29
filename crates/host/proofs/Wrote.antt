-- What a host holds after offers is what the writer that it stands for holds after those of a known kind, because the way out and in again changes nothing and an offer of no known kind leaves
-- the writer as it is; so both round trips are claims about what is held. Assumes nothing.
use Rattle.std.specs.Prelude.{Result}
use Rattle.words.specs.declared.Refusal.{Refusal}
use mathlib.Core.Path.{◌≡◌, refl, sym, ap, ap₂, ◌∙◌, subst}
use mathlib.Core.Logic.{◌≢◌}
use mathlib.Core.Bool.{Bool, true, false}
use mathlib.Core.List.{List, [], ◌∷◌, ◌++◌}
use Prim.Native.Nat.{ℕ, ◌^◌, ◌<◌}
use native.Mathlib.Omega.{arith}
use lib.Dec.{ltb}
use lib.ListN.{length, take, get_or}
use Rattle.words.specs.Checks.{pick}
use Rattle.words.specs.Refusals.{wrote_numbers}
use Rattle.words.specs.Le.{Bytes}
use Rattle.words.specs.Record.{IsHash, no_tag}
use Rattle.words.proofs.Records.{hash_is}
use Rattle.rules.specs.Verdicts.{verdict_at}
use Rattle.rules.specs.declared.Place.{Place}
use Rattle.rules.specs.declared.Record.{Record}
use Rattle.layout.specs.Reach.{Reached}
use Rattle.layout.specs.Scan.{Found, found_in, IsAccepted}
use Rattle.layout.proofs.Reach.{reached_start, reached_refused}
use Rattle.writer.specs.Offers.{InRange}
use Rattle.writer.specs.Write.{next_by, written_of, buffer_of, verdict_of}
use Rattle.writer.specs.Write as write
use Rattle.writer.specs.Writings.{Call, bytes_by, once}
use Rattle.writer.specs.Writings as writings
use Rattle.writer.specs.declared.Writer.{Writer}
use Rattle.writer.proofs.Calls.{put_kept, by_tag, fresh_good, fresh_bad}
use Rattle.writer.proofs.ReadAfterWrite.{reads_back, read_after_write}
use Rattle.writer.proofs.WriteAfterRead.{write_after_read}
use Rattle.host.specs.Boundary.{writer_out, verdict_out, offer_in}
use Rattle.host.specs.Calls.{unknown, written_for, buffer_for, Put, put_by, verdict_for}
use Rattle.host.specs.Claims.{Offered, Written, written, known, InRanges, wrote, WroteClaim, StaysClaim, OffersOf}
use Rattle.host.specs.declared.WriterState.{WriterState}
use Rattle.host.proofs.Back.{place_back, writer_back, offer_back, kind_known}

-- ## Writers that calls give

record Good (w : Writer) : Type 0 where
  hash : IsHash w.tag.0
  reached : Reached w.place

good_fresh : (tag : List ℕ) → Bytes tag → Good (write.fresh tag)
good_fresh tag b = by_tag tag
    (λ n. rw (fresh_good tag n) (record { hash = hash_is tag 0 b; reached = reached_start }))
    (λ n. rw (fresh_bad tag n) (record { hash = record { four = refl; each = zeros }; reached = reached_refused 2 _ (omega arith) reached_start }))
  where
    zeros : (i : ℕ) → get_or no_tag.0 i 0 < 2 ^ 64
    zeros i = grind arith

same_tag : (w : Writer) (c : Call) → (once w c).writer.tag ≡ w.tag
unfolding once written_of
same_tag w c = grind arith

good_once : (w : Writer) → Good w → (c : Call) → InRange c.offer → Good (once w c).writer
unfolding writings.written
good_once w g c i = record { hash = rw (same_tag w c) g.hash; reached = (reads_back (c ∷ []) w g.hash g.reached (i, tt)).reached }

-- ## One offer

-- what it writes stands at the start of the buffer
written_bytes : (a : Result ℕ Refusal) (buffer : List ℕ) → take (wrote_numbers a).wrote buffer ≡ bytes_by a buffer
written_bytes a buffer = grind arith

abbrev state : Writer → WriterState
state w = record { stand = writer_out w }

abbrev ends : writings.Writing → Written
ends x = record { writer = state x.writer; bytes = x.bytes }

-- an offer of a known kind is put, and another is refused
abbrev put_as : Bool → Writer → Offered → Put
put_as t w o =
    let x = pick t (written_of w (offer_in o.offer) (length o.buffer)) (unknown w) in
    record { writer = state x.writer; answer = wrote_numbers x.answer; buffer = pick t (buffer_of w (offer_in o.offer) o.buffer) o.buffer }

put_is : (w : Writer) → Reached w.place → (o : Offered) → put_by (state w) o.offer o.buffer ≡ put_as (ltb o.offer.kind 9) w o
unfolding put_by
put_is w r o =
    ap (λ (v : Writer).
    let x = written_for v o.offer (length o.buffer) in
    record { writer = state x.writer; answer = wrote_numbers x.answer; buffer = buffer_for v o.offer o.buffer }) (writer_back w r)

-- and then the others
abbrev and_then : Put → List Offered → Written
and_then p os = record { writer = (written p.writer os).writer; bytes = take p.answer.wrote p.buffer ++ (written p.writer os).bytes }

then_all : (t : Bool) (w : Writer) (o : Offered) (os : List Offered)
    → (let c : Call = record { offer = offer_in o.offer; buffer = o.buffer } in written (state (once w c).writer) os ≡ ends (writings.written (once w c).writer (known os)))
    → written (state w) os ≡ ends (writings.written w (known os))
    → and_then (put_as t w o) os ≡ ends (writings.written w (pick t (record { offer = offer_in o.offer; buffer = o.buffer } ∷ known os) (known os)))
unfolding once writings.written
then_all true w o os e f =
    let c : Call = record { offer = offer_in o.offer; buffer = o.buffer } in
    let x = written_of w c.offer (length c.buffer) in
    ap₂ (λ (y : Written) (bytes : List ℕ). record { writer = y.writer; bytes = bytes ++ y.bytes }) e (written_bytes x.answer (buffer_of w c.offer c.buffer))
then_all false w o os e f = f

wrote_all : (os : List Offered) (w : Writer) → Good w → InRanges os → written (state w) os ≡ ends (writings.written w (known os))
unfolding written writings.written
wrote_all [] w g i = refl
wrote_all (o ∷ os) w g (i, is) =
    let c : Call = record { offer = offer_in o.offer; buffer = o.buffer } in
    ap (λ (p : Put). and_then p os) (put_is w g.reached o)
    ∙ then_all (ltb o.offer.kind 9) w o os (wrote_all os (once w c).writer (good_once w g c i) is) (wrote_all os w g is)

ranges : (os : List Offered) → InRanges os → writings.InRanges (known os)
ranges [] i = tt
ranges (o ∷ os) (i, is) = grind (arith, ranges os is)

-- ## From a fresh writer

module _ (tag : List ℕ) (b : Bytes tag) (os : List Offered) (i : InRanges os) where
  abbrev all : writings.Writing
  all = writings.written (write.fresh tag) (known os)

  whole : wrote tag os ≡ ends all
  whole = wrote_all os (write.fresh tag) (good_fresh tag b) i

  last_reached : Reached all.writer.place
  last_reached = let g = good_fresh tag b in (reads_back (known os) (write.fresh tag) g.hash g.reached (ranges os i)).reached

  pub wrote_is : WroteClaim tag os
  unfolding verdict_for verdict_of
  wrote_is =
      let r = read_after_write tag b (known os) (ranges os i) in
      let e = ap (λ (x : Written). found_in tag x.bytes) whole ∙ r in
      record {
        records = ap (λ (x : Found). x.records) e;
        verdict =
            ap (λ (x : Written). verdict_for x.writer.stand) whole ∙ ap (λ (p : Place). verdict_out (verdict_at p)) (place_back all.writer.place 0 last_reached)
            ∙ ap (λ (x : Found). verdict_out x.verdict) (sym e);
        writer = ap (λ (x : Written). x.writer) whole;
      }

-- ## A refusal

-- a refused offer leaves the writer and the buffer as they were
stays_by : (t : Bool) (w : Writer) (o : Offered) → (put_as t w o).answer.number ≢ 0 → ((put_as t w o).writer ≡ state w) × ((put_as t w o).buffer ≡ o.buffer)
unfolding written_of
stays_by t w o n = grind (arith, put_kept)

pub stays : (tag : List ℕ) → Bytes tag → (os : List Offered) → InRanges os → StaysClaim tag os
stays tag b os i o n =
    let w = (all tag b os i).writer in
    let e = ap (λ (x : WriterState). put_by x o.offer o.buffer) (wrote_is tag b os i).writer ∙ put_is w (last_reached tag b os i) o in
    let k = stays_by (ltb o.offer.kind 9) w o (subst (λ (x : Put). x.answer.number ≢ 0) e n) in
    (ap (λ (x : Put). x.writer) e ∙ k.0 ∙ sym (wrote_is tag b os i).writer, ap (λ (x : Put). x.buffer) e ∙ k.1)

-- ## A shard written again

offered : (rs : List Record) (os : List Offered) → OffersOf rs os → writings.Offered rs (known os)
offered [] [] e = tt
offered [] (o ∷ os) e = absurd e
offered (r ∷ rs) [] e = absurd e
offered (r ∷ rs) (o ∷ os) (e, l, es) =
    grind (arith, kind_known r, offer_back r, offered rs os es)

pub again : (tag : List ℕ) → Bytes tag → (bytes : List ℕ) → Bytes bytes → IsAccepted (found_in tag bytes).verdict
    → (os : List Offered) → InRanges os → OffersOf (found_in tag bytes).records os → (wrote tag os).bytes ≡ bytes
again tag b bytes y a os i e = ap (λ (x : Written). x.bytes) (whole tag b os i) ∙ (write_after_read tag b bytes y a (known os) (offered (found_in tag bytes).records os e)).0
