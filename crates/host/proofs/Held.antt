-- What a host holds after any calls is what the reader that it stands for holds after calls on the pieces offered, because the way out and in again changes nothing for a begun reader, and a
-- read is as many calls as its table has rows; so the claims about readers are claims about what is held. Assumes nothing.
use Rattle.std.specs.Prelude.{Option, Some, None, Result, Ok, Err}
use mathlib.Core.Path.{◌≡◌, refl, sym, ap, ap₂, ◌∙◌, subst}
use mathlib.Core.Logic.{◌⊎◌, inl, inr}
use mathlib.Core.List.{List, [], ◌∷◌, ◌++◌, append-nil, append_assoc}
use Prim.Native.Nat.{ℕ, zero, suc, ◌+◌, ◌*◌, ◌/◌, ◌≤◌}
use native.Mathlib.Omega.{arith}
use lib.ListN.{length, take, drop}
use lib.Seq.{get_or-drop, take-append_seam}
use borrow.Author.Tests.{ne_eqb}
use Rattle.words.specs.Le.{Bytes, puts, low}
use Rattle.words.specs.declared.Refusal.{Refusal}
use Rattle.words.proofs.Numbers.{bytes_none, bytes_append}
use Rattle.words.proofs.Stores.{puts_eq}
use Rattle.cut.specs.Calls.{joined}
use Rattle.rules.specs.Verdicts.{verdict_at}
use Rattle.rules.specs.declared.Place.{Place}
use Rattle.rules.specs.declared.Record.{Record}
use Rattle.rules.specs.declared.Due.{Due}
use Rattle.rules.specs.declared.Due.TheVariants.{Refused}
use Rattle.layout.specs.Layout.{Each}
use Rattle.layout.specs.Reach.{RoomBy}
use Rattle.reader.specs.Stream.{fresh, step_of, verdict_of}
use Rattle.reader.specs.Rows.{Reading, read_for}
use Rattle.reader.specs.Readings.{Begun, begun, after as stepped, Seen, record_by, called, then_seen, Holds}
use Rattle.reader.specs.Showings.{rows_in, rests_of, SaysWhy, UsedUp}
use Rattle.reader.specs.declared.Reader.{Reader}
use Rattle.reader.specs.declared.Ended.{Ended}
use Rattle.reader.specs.declared.Ended.TheVariants as ended
use Rattle.reader.proofs.Calls.{verdict_refused}
use Rattle.reader.proofs.Theorem.{reader}
use Rattle.reader.proofs.Shown.{rows}
use Rattle.host.specs.Boundary.{no_record, reader_in, reader_out, found_number, ended_number, step_out, verdict_out}
use Rattle.host.specs.Calls.{step_by, read_by, verdict_for}
use Rattle.host.specs.Claims.{Call, steps, reads, asks, GoodBytes, shown_by, after, after_all, pieces_of, pieces_all, held, HeldClaim, Refusing, OnClaim}
use Rattle.host.specs.declared.ReaderState.{ReaderState}
use Rattle.host.proofs.Back.{place_back, reader_back}

-- ## Rows

rows_append : (a b : List Record) → rows_in (a ++ b) ≡ rows_in a ++ rows_in b
rows_append [] b = refl
rows_append (r ∷ rs) b = rw (rows_append rs b)

rows_long : (rs : List Record) → length (rows_in rs) ≡ 9 * length rs
rows_long [] = refl
rows_long (r ∷ rs) = omega (arith, rows_long rs)

-- what a step shows is the row of the record that it hands out
shown : (found : Result (Option Record) Refusal) (taken : ℕ) → shown_by (step_out (record { taken = taken; found = found })) ≡ rows_in (record_by found)
shown found taken = grind arith

-- and the first rows of the table are those of the records
table_rows : (table : List ℕ) (rs : List Record) → length rs ≤ length table / 9 → take (9 * length rs) (puts table 0 (rows_in rs)) ≡ rows_in rs
table_rows table rs l =
    let e = rows_long rs in
    rw (puts_eq (rows_in rs) table 0 (omega (arith, e, l)), ← e) (take-append_seam (rows_in rs) _)

-- ## Calls

called_append : (r : Reader) (ps qs : List (List ℕ)) → called r (ps ++ qs) ≡ then_seen (called r ps).records (called (called r ps).reader qs)
unfolding called
called_append r [] qs = refl
called_append r (p ∷ ps) qs = rw (called_append (step_of r p).reader ps qs, append_assoc)

rests_bytes : (n : ℕ) (r : Reader) (piece : List ℕ) → Bytes piece → Bytes (joined (rests_of n r piece))
unfolding rests_of
rests_bytes zero r piece b = bytes_none
rests_bytes (suc n) r piece b =
    let s = step_of r piece in
    bytes_append piece _ b (rests_bytes n s.reader (drop s.answer.taken piece) (λ i. rw get_or-drop (b (s.answer.taken + i))))

pieces_bytes : (s : ReaderState) (c : Call) → GoodBytes c → Bytes (joined (pieces_of s c))
pieces_bytes s (steps piece) b = rw append-nil b
pieces_bytes s (reads piece table) b = rests_bytes (length table / 9) (reader_in s) piece b
pieces_bytes s asks b = bytes_none

joined_append : (ps qs : List (List ℕ)) → joined (ps ++ qs) ≡ joined ps ++ joined qs
joined_append [] qs = refl
joined_append (p ∷ ps) qs = rw (joined_append ps qs, append_assoc)

-- what one call on a begun reader leaves: the state of the reader after the pieces, and their rows
record Goes (r : Reader) (c : Call) : Type 0 where
  next : Reader
  begun_is : Begun next
  state : (after (reader_out r) c).reader ≡ reader_out next
  reader_is : (called r (pieces_of (reader_out r) c)).reader ≡ next
  rows_are : (after (reader_out r) c).rows ≡ rows_in (called r (pieces_of (reader_out r) c)).records

goes : (r : Reader) → Begun r → (c : Call) → GoodBytes c → Goes r c
unfolding step_by read_by called
goes r b (steps piece) y =
    let s = step_of r piece in
    record {
      next = s.reader;
      begun_is = stepped b piece y;
      state = rw (reader_back r b);
      reader_is = refl;
      rows_are = rw (reader_back r b, append-nil) (shown s.answer.found s.answer.taken);
    }
goes r b (reads piece table) y =
    let x = read_for r piece table in
    let w = rows.shows r b piece y table in
    record {
      next = x.answer.reader;
      begun_is = rows.reads r b piece y table;
      state = rw (reader_back r b);
      reader_is = rw (reader_back r b) (sym w.reader);
      rows_are = rw (reader_back r b, w.table_is, w.count) (table_rows table (called r (rests_of (length table / 9) r piece)).records w.fits);
    }
goes r b asks y = record { next = r; begun_is = b; state = refl; reader_is = refl; rows_are = refl }

-- and any calls
record GoesAll (r : Reader) (cs : List Call) : Type 0 where
  last : Reader
  begun_is : Begun last
  state : (after_all (reader_out r) cs).reader ≡ reader_out last
  reader_is : (called r (pieces_all (reader_out r) cs)).reader ≡ last
  rows_are : (after_all (reader_out r) cs).rows ≡ rows_in (called r (pieces_all (reader_out r) cs)).records
  bytes_are : Bytes (joined (pieces_all (reader_out r) cs))

goes_all : (r : Reader) → Begun r → (cs : List Call) → Each GoodBytes cs → GoesAll r cs
unfolding after_all pieces_all called
goes_all r b [] y = record { last = r; begun_is = b; state = refl; reader_is = refl; rows_are = refl; bytes_are = bytes_none }
goes_all r b (c ∷ cs) (y, ys) =
    let g = goes r b c y in
    let w = goes_all g.next g.begun_is cs ys in
    let ps = pieces_of (reader_out r) c in
    let qs = pieces_all (reader_out g.next) cs in
    let e : called r (ps ++ pieces_all (after (reader_out r) c).reader cs) ≡ then_seen (called r ps).records (called g.next qs) =
    ap (λ (s : ReaderState). called r (ps ++ pieces_all s cs)) g.state ∙ called_append r ps qs ∙ ap (λ (x : Reader). then_seen (called r ps).records (called x qs)) g.reader_is in
    record {
      last = w.last;
      begun_is = w.begun_is;
      state = ap (λ (s : ReaderState). (after_all s cs).reader) g.state ∙ w.state;
      reader_is = ap (λ (x : Seen). x.reader) e ∙ w.reader_is;
      rows_are =
          ap₂ (λ (a b : List ℕ). a ++ b) g.rows_are (ap (λ (s : ReaderState). (after_all s cs).rows) g.state ∙ w.rows_are)
          ∙ sym (ap (λ (x : Seen). rows_in x.records) e ∙ rows_append (called r ps).records (called g.next qs).records);
      bytes_are = subst (λ (s : ReaderState). Bytes (joined (ps ++ pieces_all s cs))) (sym g.state) (rw joined_append (bytes_append (joined ps) _ (pieces_bytes (reader_out r) c y) w.bytes_are));
    }

-- the verdict of a reader that went out
verdict_back : (r : Reader) → Begun r → verdict_for (reader_out r).stand ≡ verdict_out (verdict_of r)
unfolding verdict_for verdict_of
verdict_back r b = ap (λ (p : Place). verdict_out (verdict_at p)) (place_back r.stand.place (low r.stand.have) (reader.kept r b).reached)

pub held_is : (tag : List ℕ) (calls : List Call) → Each GoodBytes calls → HeldClaim tag calls
held_is tag calls y =
    let g = goes_all (fresh tag) (begun tag) calls y in
    let k = reader.calls tag (pieces_all (reader_out (fresh tag)) calls) g.bytes_are in
    let back = reader_back g.last g.begun_is in
    record {
      rows = g.rows_are ∙ ap rows_in k.records;
      reader = g.state ∙ ap reader_out (sym g.reader_is ∙ ap (λ (x : Seen). x.reader) k.same);
      verdict = rw g.state (verdict_back g.last g.begun_is ∙ ap verdict_out (ap verdict_of (sym g.reader_is) ∙ k.verdict));
      begun = subst (λ (s : ReaderState). Begun (reader_in s)) (sym g.state) (subst Begun (sym back) g.begun_is);
      same = subst (λ (s : ReaderState). reader_out (reader_in s) ≡ s) (sym g.state) (ap reader_out back);
    }

-- ## On from what is held

-- what is said is a refusal if it is told so, of a call and of a read
refused_found : (x : Result (Option Record) Refusal) → found_number x ≡ 2 → (f : Refusal) × (x ≡ Err f)
refused_found (Ok None) e = absurd (omega (arith, e))
refused_found (Ok (Some r)) e = absurd (omega (arith, e))
refused_found (Err f) e = (f, refl)

refused_ended : (x : Result Ended Refusal) → ended_number x ≡ 2 → (f : Refusal) × (x ≡ Err f)
refused_ended (Ok ended.PieceUsed) e = absurd (omega (arith, e))
refused_ended (Ok ended.TableFull) e = absurd (omega (arith, e))
refused_ended (Err f) e = (f, refl)

-- a reader that holds a refusal goes out as one
refusing : (r : Reader) → Begun r → (f : Refusal) → Holds r f → Refusing (reader_out r).stand f.number f.at.0
refusing r b f (d, e) = record {
  code = rw d;
  number_is = rw d;
  at_is = ap (λ (x : Refusal). x.at.0) e;
  some = λ z. absurd (omega (arith, z, (subst (λ (x : Due). RoomBy x r.stand.place) d (reader.kept r b).reached.room).0));
}

module _ (r : Reader) (b : Begun r) where
  abbrev s : ReaderState
  s = reader_out r

  back : reader_in s ≡ r
  back = reader_back r b

  module _ (number at : ℕ) (h : Refusing s.stand number at) where
    holds : r.stand.place.due ≡ Refused number
    holds = ap (λ (x : Reader). x.stand.place.due) (sym back) ∙ rw (h.code, h.number_is, ne_eqb number 0 h.some)

    step_again : (piece : List ℕ) → step_by s piece ≡ record { reader = s; answer = record { found = no_record; taken = 0; at = at; said = 2; number = number } }
    unfolding step_by
    step_again piece = rw (back, (reader.refused r piece).again number holds, h.at_is)

    read_again : (piece table : List ℕ) → read_by s piece table ≡ record { reader = s; answer = record { taken = 0; count = 0; at = at; said = 2; number = number }; table = table }
    unfolding read_by
    read_again piece table = rw (back, rows.again r number holds piece table, h.at_is)

    verdict_again : ((verdict_for s.stand).number ≡ number) × ((verdict_for s.stand).at ≡ at)
    unfolding verdict_of
    verdict_again = rw (verdict_back r b, verdict_refused r.stand.place number holds) (refl, h.at_is)

  step_refuses : (piece : List ℕ) → Bytes piece → (step_by s piece).answer.said ≡ 2 → Refusing (step_by s piece).reader.stand (step_by s piece).answer.number (step_by s piece).answer.at
  unfolding step_by
  step_refuses piece y e =
      let (f, i) = refused_found (step_of r piece).answer.found (rw back at e) in
      rw (back, i) (refusing (step_of r piece).reader (stepped b piece y) f ((reader.refused r piece).holds f i))

  module _ (piece table : List ℕ) (y : Bytes piece) where
    abbrev x : Reading
    x = read_for r piece table

    read_refuses : (read_by s piece table).answer.said ≡ 2 → Refusing (read_by s piece table).reader.stand (read_by s piece table).answer.number (read_by s piece table).answer.at
    unfolding read_by
    read_refuses e =
        let (f, i) = refused_ended x.answer.ended (rw back at e) in
        let h : Holds x.answer.reader f = subst (λ (q : Result Ended Refusal). SaysWhy q x piece (length table / 9)) i (rows.shows r b piece y table).says in
        rw (back, i) (refusing x.answer.reader (rows.reads r b piece y table) f h)

    room : (length piece + 200) / 48 + 1 ≤ length table / 9 → (((read_by s piece table).answer.said ≡ 0) × ((read_by s piece table).answer.taken ≡ length piece)) ⊎ ((read_by s piece table).answer.said ≡ 2)
    unfolding read_by
    room l = rw back (go x.answer.ended (rows.room r b piece y table l))
      where
        go : (q : Result Ended Refusal) → UsedUp q x piece → ((ended_number q ≡ 0) × (x.answer.taken ≡ length piece)) ⊎ (ended_number q ≡ 2)
        go (Ok ended.PieceUsed) u = inl (refl, u)
        go (Ok ended.TableFull) u = absurd u
        go (Err f) u = inr refl

  on_reader : OnClaim s
  on_reader =
      let k = reader.kept r b in
      let e : low r.stand.have ≡ r.stand.have = omega (arith, reader.few r b) in
      record {
        long = k.long;
        clean = rw e k.zeros;
        room = λ piece table y. room piece table y;
        step_refuses = step_refuses;
        read_refuses = read_refuses;
        step_again = step_again;
        read_again = read_again;
        verdict_again = verdict_again;
      }

pub on : (tag : List ℕ) (calls : List Call) → Each GoodBytes calls → OnClaim (held tag calls).reader
on tag calls y =
    let g = goes_all (fresh tag) (begun tag) calls y in
    subst OnClaim (sym g.state) (on_reader g.last g.begun_is)
