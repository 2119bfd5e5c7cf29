-- WRITE AFTER READ holds because any bytes are good records and an ending (crate cut), each good record offered again spells its bytes and leads the
-- writer where the reader went, and accepted bytes end with the last record. Assumes nothing.
use mathlib.Core.Path.{◌≡◌, sym, ap, ◌∙◌, subst}
use mathlib.Core.List.{List, [], ◌∷◌, ◌++◌, append-nil}
use Prim.Native.Nat.{ℕ, ◌≤◌}
use lib.ListN.{length}
use Rattle.words.specs.Checks.{pick}
use Rattle.words.specs.Le.{Bytes}
use Rattle.words.specs.Record.{IsHash, tag_at}
use Rattle.words.specs.declared.Tag.{Tag}
use Rattle.words.proofs.Records.{hash_is}
use Rattle.cut.specs.Fate.{Reads, none, more}
use Rattle.rules.specs.Rules.{size_of, record_of, start}
use Rattle.rules.specs.Verdicts.{verdict_by, verdict_at}
use Rattle.rules.specs.declared.Place.{Place}
use Rattle.rules.specs.declared.Record.{Record}
use Rattle.rules.specs.Verdicts.{Verdict}
use Rattle.rules.specs.declared.Due.{Due}
use Rattle.writer.specs.Offers.{offer_of}
use Rattle.writer.specs.declared.Offer.{Offer}
use Rattle.layout.specs.Scan.{format, Found, found_in, IsAccepted}
use Rattle.layout.specs.Refusal.{Ends, early, done, over, faulty}
use Rattle.layout.specs.Reach.{Reached}
use Rattle.layout.proofs.Judged.{bytes_left, bytes_right}
use Rattle.layout.proofs.Reach.{reached_start, reached_next, exact}
use Rattle.layout.proofs.Refusals.{refusals, bad_tag}
use Rattle.writer.specs.Write.{is_footer, answer_of, fresh, verdict_of}
use Rattle.writer.specs.Writings.{Call, Writing, once, written, Offered, WriteAfterRead}
use Rattle.writer.specs.declared.Writer.{Writer}
use Rattle.writer.proofs.Calls.{wrote_once, written_nil, written_cons, by_tag, stands, fresh_good}
use Rattle.writer.proofs.Spelled.{Spelled, spelled}
use Rattle.writer.proofs.Again.{again_words, again_taken, again_bytes}

-- ## One record

once_again : (four : Tag) (p q : Place) (r : Record) (xs : List ℕ) (c : Call) → IsHash four.0 → Reached q → Spelled four p q r xs
    → c.offer ≡ offer_of r → pick (is_footer r.kind) 200 48 ≤ length c.buffer → once (stands four p) c ≡ record { writer = stands four q; bytes = xs; records = r ∷ [] }
once_again four p q r xs c t h s e l =
    let w : Writer = stands four p in
    let o : c.offer ≡ offer_of (record_of p s.words) = e ∙ ap offer_of (sym s.same) in
    let k : pick (is_footer (record_of p s.words).kind) 200 48 ≤ length c.buffer = rw s.same l in
    let a = ap (λ (x : Offer). answer_of w x (length c.buffer)) o ∙ again_taken w s.words t s.good (length c.buffer) k in
    wrote_once w c (size_of p) a ∙ rw (o, again_words w s.words t s.good, again_bytes w s.words t s.good, s.bytes, s.next, s.same, exact q h)

-- ## Records one after the other

-- good records, offered in their order, give their bytes again, and lead to the same place
written_again : (four : Tag) (p z : Place) (xs : List ℕ) (rs : List Record) (cs : List Call) → IsHash four.0 → Reached p → Bytes xs → Reads (format four) p xs rs z → Offered rs cs
    → written (stands four p) cs ≡ record { writer = stands four z; bytes = xs; records = rs }
written_again four p z xs rs [] t h b none o = written_nil (stands four p)
written_again four p z xs rs (c ∷ cs) t h b none o = absurd o
written_again four p z xs rs [] t h b (more l k j m) o = absurd o
written_again four p z xs rs (c ∷ cs) t h b (more {q = q} {r = r} {xs = ys} {bs = bs} {rs = rs'} l k j m) (e, g, o) =
    let s : Spelled four p q r ys = spelled four p q r ys l k (bytes_left ys bs b) j in
    let n : Reached q = subst Reached s.next (reached_next four p s.words s.good.whole h s.good.fault) in
    rw (written_cons, once_again four p q r ys c t n s e g, written_again four q z bs rs' cs t n (bytes_right ys bs b) m o)

-- ## Accepted bytes

-- they end with the last record, and the verdict is that of the place
ends_there : (four : Tag) (p : Place) (rest : List ℕ) {v : Verdict} → Ends four p rest v → IsAccepted v → (rest ≡ []) × (verdict_at p ≡ v)
unfolding verdict_at
ends_there four p rest (early l) a = absurd a
ends_there four p rest (done d e) a = (e, ap (λ (x : Due). verdict_by x p) d)
ends_there four p rest (over d n) a = absurd a
ends_there four p rest (faulty s l n) a = absurd a

again_by : (tag : List ℕ) → length tag ≡ 32 → Bytes tag → WriteAfterRead tag
unfolding verdict_of
again_by tag n t bytes b a calls o =
    let f = refusals tag n bytes in
    let (e, v) = ends_there (tag_at tag) f.place f.rest f.ends a in
    let x : bytes ≡ f.before = f.split ∙ ap (λ (r : List ℕ). f.before ++ r) e ∙ append-nil f.before in
    let w : written (fresh tag) calls ≡ record { writer = stands (tag_at tag) f.place; bytes = f.before; records = (found_in tag bytes).records }
    = rw (fresh_good tag n) (written_again (tag_at tag) start f.place f.before (found_in tag bytes).records calls (hash_is tag 0 t) reached_start (subst Bytes x b) f.reads o) in
    (ap (λ (y : Writing). y.bytes) w ∙ sym x, ap (λ (y : Writing). y.records) w, ap (λ (y : Writing). verdict_at y.writer.place) w ∙ v)

-- under another tag no bytes are accepted
pub write_after_read : (tag : List ℕ) → Bytes tag → WriteAfterRead tag
write_after_read tag t bytes b a calls o = by_tag tag
    (λ n. again_by tag n t bytes b a calls o)
    (λ n. absurd (subst (λ (y : Found). IsAccepted y.verdict) (bad_tag tag n bytes) a))
