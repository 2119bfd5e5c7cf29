-- READ AFTER WRITE holds because each record taken has passed the reader's own checks, so that its bytes are read as that record and lead the reader
-- to the place where the writer stands; a refusal adds no byte and moves nobody. Assumes nothing.
use Rattle.std.specs.Prelude.{Result, Ok, Err}
use Rattle.words.specs.declared.Refusal.{Refusal}
use mathlib.Core.Path.{◌≡◌, refl, sym, ap, ◌∙◌}
use mathlib.Core.Logic.{◌≢◌}
use mathlib.Core.List.{List, [], ◌∷◌}
use Prim.Native.Nat.{ℕ}
use native.Mathlib.Omega.{arith}
use lib.ListN.{length}
use Rattle.words.specs.Le.{Bytes}
use Rattle.words.specs.Record.{IsHash, tag_at, no_tag}
use Rattle.words.specs.declared.Words.{Words}
use Rattle.words.proofs.Records.{hash_is}
use Rattle.cut.specs.Format.{at, run}
use Rattle.cut.proofs.Runs.{run_nil}
use Rattle.rules.specs.Rules.{next_of, start}
use Rattle.rules.specs.Verdicts.{refused, refusal_at, verdict_at}
use Rattle.rules.specs.declared.Place.{Place}
use Rattle.rules.specs.declared.Due.TheVariants as due
use Rattle.writer.specs.Offers.{kind_offered, words_of, InRange}
use Rattle.writer.specs.declared.Offer.{Offer}
use Rattle.layout.specs.Scan.{format, found_of, found_in}
use Rattle.layout.specs.Reach.{Reached}
use Rattle.layout.proofs.Reach.{reached_start, reached_next, exact}
use Rattle.layout.proofs.Refusals.{scan_starts, bad_tag}
use Rattle.writer.specs.Write.{answer_of, next_by, fresh, verdict_of}
use Rattle.writer.specs.Writings.{Call, Writing, written, InRanges, ReadAfterWrite}
use Rattle.writer.specs.declared.Writer.{Writer}
use Rattle.writer.proofs.Made.{due_size, whole_of}
use Rattle.writer.proofs.Calls.{Passed, taken_passed, wrote_once, refused_once, unmoved, written_nil, written_cons, by_tag, stands, fresh_good, fresh_bad}
use Rattle.writer.proofs.Spelled.{bytes_due, GoodWords, reads_good}

-- ## One record taken

-- its words are good
good_due : (w : Writer) (o : Offer) (room n : ℕ) → IsHash w.tag.0 → InRange o → Passed w o room n → GoodWords w.tag w.place (words_of w.tag o)
good_due w o room n t i ok = let s = due_size w.place.due (kind_offered o) ok.due in record { due = grind arith; whole = whole_of w.tag o t i; fault = ok.checks }

-- ## Any calls

-- what calls wrote is read as the records taken, up to where the writer stands, which is a place that reading gives
pub record ReadsBack (w : Writer) (x : Writing) : Type 0 where
  pub reads : run (format w.tag) (at w.place []) x.bytes ≡ record { recs = x.records; state = at x.writer.place [] }
  pub reached : Reached x.writer.place

reads_cons : (w : Writer) (c : Call) (cs : List Call) → IsHash w.tag.0 → Reached w.place → InRange c.offer
    → ((v : Writer) → IsHash v.tag.0 → Reached v.place → ReadsBack v (written v cs)) → ReadsBack w (written w (c ∷ cs))
reads_cons w c cs t r i later = go (answer_of w c.offer (length c.buffer)) refl
  where
    go : (a : Result ℕ Refusal) → answer_of w c.offer (length c.buffer) ≡ a → ReadsBack w (written w (c ∷ cs))
    go (Err refusal) e = rw (written_cons, refused_once w c refusal e) (later w t r)
    go (Ok n) e =
        let ws : Words = words_of w.tag c.offer in
        let ok = taken_passed w c.offer (length c.buffer) n e in
        let g = good_due w c.offer (length c.buffer) n t i ok in
        let q : Place = next_of w.place ws in
        let h : Reached q = reached_next w.tag w.place ws g.whole r g.fault in
        let v : Writer = stands w.tag q in
        let same : next_by (Ok n) w ws ≡ v = ap (stands w.tag) (exact q h) in
        let b : ReadsBack v (written v cs) = later v t h in
        rw (written_cons, wrote_once w c n e, same, bytes_due w c.offer ok.due)
        (record { reads = reads_good w.tag w.place ws (written v cs).bytes r g ∙ rw b.reads; reached = b.reached })

pub reads_back : (cs : List Call) (w : Writer) → IsHash w.tag.0 → Reached w.place → InRanges cs → ReadsBack w (written w cs)
reads_back [] w t r e = rw (written_nil w) (record { reads = run_nil (format w.tag) (at w.place []); reached = r })
reads_back (c ∷ cs) w t r (i, e) = reads_cons w c cs t r i (λ v u q. reads_back cs v u q e)

-- ## From the beginning

-- a writer that was refused says the same to everything
refused_says : (w : Writer) (o : Offer) (room n : ℕ) → w.place.due ≡ due.Refused n → answer_of w o room ≡ Err (refusal_at n w.place)
unfolding answer_of
refused_says w o room n d = rw d

refused_always : (cs : List Call) (w : Writer) (n : ℕ) → w.place.due ≡ due.Refused n → written w cs ≡ unmoved w
refused_always [] w n d = written_nil w
refused_always (c ∷ cs) w n d =
    rw (written_cons, refused_once w c (refusal_at n w.place) (refused_says w c.offer (length c.buffer) n d), refused_always cs w n d)

-- a tag that is not 32 bytes, and one that is
pub written_bad : (tag : List ℕ) (calls : List Call) → length tag ≢ 32 → written (fresh tag) calls ≡ unmoved (stands no_tag (refused 2 start))
written_bad tag calls n = rw (fresh_bad tag n) (refused_always calls (stands no_tag (refused 2 start)) 2 refl)

pub written_good : (tag : List ℕ) (calls : List Call) → length tag ≡ 32 → Bytes tag → InRanges calls → ReadsBack (stands (tag_at tag) start) (written (fresh tag) calls)
written_good tag calls n b i = rw (fresh_good tag n) (reads_back calls (stands (tag_at tag) start) (hash_is tag 0 b) reached_start i)

pub read_after_write : (tag : List ℕ) → Bytes tag → ReadAfterWrite tag
unfolding found_in verdict_of verdict_at
read_after_write tag b calls i = by_tag tag
    (λ n. ap found_of (scan_starts tag n (written (fresh tag) calls).bytes ∙ (written_good tag calls n b i).reads))
    (λ n. bad_tag tag n (written (fresh tag) calls).bytes ∙ sym (ap (λ (x : Writing). record { records = x.records; verdict = verdict_at x.writer.place }) (written_bad tag calls n)))
