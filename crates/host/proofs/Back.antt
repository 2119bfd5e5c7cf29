-- The way out and in again changes nothing, of a place where reading or writing stands, a reader, a writer and an offer, because such a place holds no refusal with number 0 and a reader
-- carries at most 200 bytes; and no code but one is taken for the end. Assumes nothing.
use mathlib.Core.Path.{◌≡◌, ap, ap₂}
use Prim.Native.Nat.{ℕ, ◌<◌}
use native.Mathlib.Omega.{arith}
use Rattle.words.specs.Le.{low}
use Rattle.rules.specs.Verdicts.{verdict_at}
use Rattle.rules.specs.declared.Place.{Place}
use Rattle.rules.specs.declared.Record.{Record}
use Rattle.layout.specs.Reach.{Reached}
use Rattle.reader.specs.declared.Reader.{Reader}
use Rattle.reader.specs.Readings.{Begun}
use Rattle.reader.proofs.Theorem.{reader}
use Rattle.writer.specs.Offers.{fields_of, offer_of}
use Rattle.writer.specs.declared.Writer.{Writer}
use Rattle.host.specs.Boundary.{place_in, place_out, record_out, reader_in, reader_out, writer_in, writer_out, offer_in, offer_for}
use Rattle.host.specs.Calls.{verdict_for}
use Rattle.host.specs.declared.StandState.{StandState}

pub place_back : (p : Place) (have : ℕ) → Reached p → place_in (place_out p have) ≡ p
place_back p have r = let room = r.room in grind arith

pub reader_back : (r : Reader) → Begun r → reader_in (reader_out r) ≡ r
reader_back r b =
    let k = reader.kept r b in
    let e : low r.stand.have ≡ r.stand.have = omega (arith, reader.few r b) in
    ap₂ (λ (n : ℕ) (p : Place). record { stand = record { have = n; tag = r.stand.tag; place = p }; carry = r.carry }) e (place_back r.stand.place (low r.stand.have) k.reached)

pub writer_back : (w : Writer) → Reached w.place → writer_in (writer_out w) ≡ w
writer_back w r = ap (λ (p : Place). record { tag = w.tag; place = p }) (place_back w.place 0 r)

-- ## An offer made of a record

pub offer_back : (r : Record) → offer_in (offer_for (record_out r)) ≡ offer_of r
unfolding offer_of fields_of
offer_back r = grind arith

pub kind_known : (r : Record) → (offer_for (record_out r)).kind < 9
kind_known r = grind arith

-- ## Only the end is told as accepted

pub accepted : (s : StandState) → (verdict_for s).number ≡ 0 → s.place.due.code ≡ 10
unfolding verdict_for verdict_at
accepted s e = grind arith
