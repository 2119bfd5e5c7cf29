-- Reading an input to its end feeds all of its bytes: a piece that is read is fed behind those before it, and feeding pieces one after the other is feeding them as one.
-- Assumes nothing.
use Rattle.std.proofs.Common.{◌≡◌, ℕ, zero, suc, ◌+◌, ◌-◌, ◌%◌, ◌^◌, ◌<◌, ◌≤◌, List, [], ◌∷◌, ◌++◌, length, take, drop, sym, refl, ap, subst, ◌∙◌, arith, get_or-drop, length-append, append-nil, append_assoc, Option, None, Some, Result, Ok, Err, OnOk, inl, inr, codes, decimal}
use Rattle.std.specs.Io.KnownBytes.{Appends, Consumes, IsAtEnd}
use Rattle.std.proofs.KnownBytes.{Consumes-nil, Consumes-trans}
use Rattle.std.proofs.lemmas.Result.{on_ok_weaker}
use Rattle.words.specs.Le.{Bytes}
use Rattle.words.proofs.Numbers.{bytes_none, bytes_append}
use Rattle.words.specs.Record.{tag_at}
use Rattle.cut.specs.Format.{run}
use Rattle.cut.proofs.Runs.{run_append}
use Rattle.rules.specs.Verdicts.{Verdict}
use Rattle.layout.specs.Scan.{format, found_in}
use Rattle.reader.specs.Stream.{tag_in, fresh, step_of, verdict_of}
use Rattle.reader.specs.Readings.{Begun, begun, after, Seen, fed, offers, fed_one, seen_of}
use Rattle.reader.specs.declared.Reader.{Reader}
use Rattle.reader.proofs.Cut.{offers_run}
use Rattle.reader.proofs.Reached.{stands, standing_run}
use Rattle.reader.proofs.Theorem.{reader}
use Rattle.text.specs.Input.{failure_text}
use Rattle.text.specs.declared.input.ReadFailed.{ReadFailed}
use Rattle.shardline.specs.Report.{report_of}
use Rattle.shardline.specs.Reads.{ReadAll, Reports}
use Rattle.shardline.proofs.Feeding.{fed_none}

-- ## Pieces one after the other

offers_begun : (n : ℕ) (r : Reader) (piece : List ℕ) → Begun r → Bytes piece → Begun (offers n r piece).reader
unfolding offers
offers_begun zero r piece b y = b
offers_begun (suc n) r piece b y =
    let t = (step_of r piece).answer.taken in
    offers_begun n (step_of r piece).reader (drop t piece) (after b piece y) (λ i. rw get_or-drop (y (t + i)))

fed_begun : (r : Reader) → Begun r → (piece : List ℕ) → Bytes piece → Begun (fed_one r piece).reader
fed_begun r b piece y = offers_begun (suc (length piece)) r piece b y

fed_both : (r : Reader) → Begun r → (xs ys : List ℕ) → Bytes xs → Bytes ys → (fed_one (fed_one r xs).reader ys).reader ≡ (fed_one r (xs ++ ys)).reader
fed_both r b xs ys p q =
    let k = stands b in
    let t = tag_in k.tag in
    let f = format (tag_at k.tag) in
    let s = (run f k.state xs).state in
    let one : fed_one r xs ≡ seen_of t (run f k.state xs) = ap (λ (x : Reader). fed_one x xs) k.same ∙ offers_run k.tag (suc (length xs)) k.state xs k.standing p (omega arith) in
    let then : fed_one (seen_of t (run f k.state xs)).reader ys ≡ seen_of t (run f s ys) = offers_run k.tag (suc (length ys)) s ys (standing_run k.tag k.state k.standing xs p) q (omega arith) in
    let whole : fed_one r (xs ++ ys) ≡ seen_of t (run f k.state (xs ++ ys)) = ap (λ (x : Reader). fed_one x (xs ++ ys)) k.same ∙ offers_run k.tag (suc (length (xs ++ ys))) k.state (xs ++ ys) k.standing (bytes_append xs ys p q) (omega arith) in
    ap (λ (x : Seen). (fed_one x.reader ys).reader) one
    ∙ ap (λ (x : Seen). x.reader) then
    ∙ sym (ap (λ (x : Seen). x.reader) (whole ∙ ap (seen_of t) (run_append f k.state xs ys)))

fed_found : (tag bytes : List ℕ) → Bytes bytes → verdict_of (fed_one (fresh tag) bytes).reader ≡ (found_in tag bytes).verdict
unfolding fed
fed_found tag bytes y =
    subst (λ (x : List ℕ). Bytes x → verdict_of (fed_one (fresh tag) bytes).reader ≡ (found_in tag x).verdict) (append-nil bytes)
    (λ b. (reader.cut tag (bytes ∷ []) b).verdict) y

-- ## The turns of the loop

-- so far: what the input lost was fed and counted, and each turn had a byte
pub record Got (old new : Option (List ℕ)) (from to : Reader) (turns n : ℕ) : Type 0 where
  pub piece : List ℕ
  pub good : Bytes piece
  pub consumed : Consumes old new piece
  pub all : Begun from → to ≡ (fed_one from piece).reader
  pub many : turns ≤ length piece
  pub counted : length piece < 2 ^ 64 → n ≡ length piece

pub got_none : (old : Option (List ℕ)) (r : Reader) → Got old old r r 0 0
got_none old r =
    record {
      piece = [];
      good = bytes_none;
      consumed = Consumes-nil old;
      all = λ b. sym (fed_none r b);
      many = omega arith;
      counted = λ l. refl;
    }

pub got_on : {old mid new : Option (List ℕ)} {from at to : Reader} {turns n : ℕ} (piece : List ℕ) (size : ℕ) → Got old mid from at turns n → Bytes piece → Consumes mid new piece
    → size ≡ length piece → (size ≡ 0 → ⊥) → (Begun at → to ≡ (fed_one at piece).reader) → Got old new from to (turns + 1) ((n + size) % 2 ^ 64)
got_on {old = old} {mid = mid} {new = new} {from = from} {at = at} {to = to} piece size g y c e z f =
    record {
      piece = g.piece ++ piece;
      good = bytes_append g.piece piece g.good y;
      consumed = Consumes-trans old mid new g.piece piece g.consumed c;
      all = λ b.
          f (subst Begun (sym (g.all b)) (fed_begun from b g.piece g.good))
          ∙ ap (λ (x : Reader). (fed_one x piece).reader) (g.all b)
          ∙ fed_both from b g.piece piece g.good y;
      many = rw length-append (omega (arith, g.many, e, z));
      counted = λ s.
          let t = subst (λ (k : ℕ). k < 2 ^ 64) (length-append g.piece piece) s in
          rw length-append (omega (arith, t, e, g.counted (omega (arith, t))));
    }

-- the loop ends at the end, at a failed read, or after more bytes than there are
pub got_all : {old mid : Option (List ℕ)} (new : Option (List ℕ)) {from to : Reader} {turns n : ℕ} (buf : List ℕ) (size : ℕ) → Got old mid from to turns n → size ≡ 0 → Consumes mid new (take size buf) → IsAtEnd new → ReadAll old from (Ok to)
got_all {old = None} new buf size g z c e = tt
got_all {old = Some bytes} {mid = None} new buf size g z c e = absurd g.consumed
got_all {old = Some bytes} {mid = Some left} None buf size g z c e = absurd c
got_all {old = Some bytes} {mid = Some left} (Some rest) {from = from} {to = to} buf size g z c e = λ l.
    let none : left ≡ rest = subst (λ (n : ℕ). left ≡ take n buf ++ rest) z c in
    let same : bytes ≡ g.piece = g.consumed ∙ ap (λ (x : List ℕ). g.piece ++ x) (none ∙ e) ∙ append-nil g.piece in
    (subst Bytes (sym same) g.good, λ b. g.all b ∙ ap (λ (x : List ℕ). (fed_one from x).reader) (sym same))

got_some : {bytes : List ℕ} {new : Option (List ℕ)} {from to : Reader} {turns n : ℕ} → (g : Got (Some bytes) new from to turns n) → length g.piece ≤ length bytes
got_some {new = None} g = absurd g.consumed
got_some {bytes = bytes} {new = Some rest} g =
    omega (arith, subst (λ (x : List ℕ). length x ≡ length g.piece + length rest) (sym g.consumed) (length-append g.piece rest))

pub got_failed : {old new : Option (List ℕ)} {from to : Reader} {turns : ℕ} (failed : ReadFailed) → Got old new from to turns failed.after → ReadAll old from (Err failed)
got_failed {old = None} failed g = tt
got_failed {old = Some bytes} failed g = λ l. let k = got_some g in omega (arith, l, k, g.counted (omega (arith, l, k)))

pub got_over : {old new : Option (List ℕ)} {from to : Reader} {turns n : ℕ} → Got old new from to turns n → 2 ^ 64 - 1 ≤ turns → ReadAll old from (Ok to)
got_over {old = None} g o = tt
got_over {old = Some bytes} g o = λ l. absurd (omega (arith, l, o, got_some g, g.many))

-- ## What is said

pub says_failed : {T E : Type 0} (r : Result T E) (input old new : Option (List ℕ)) (from : Reader) (failed : ReadFailed)
    → ReadAll input from (Err failed)
    → OnOk r (Appends old new (failure_text failed ++ codes "\n")) → OnOk r ((tag : List ℕ) → from ≡ fresh tag → Reports tag input old new)
says_failed r None old new from failed k p = on_ok_weaker r (λ a tag e. tt) p
says_failed r (Some bytes) old new from failed k p = on_ok_weaker r (λ a tag e l. inr (failed.after, k l, subst (Appends old new) (append_assoc (codes "read failed after ") (decimal failed.after) (codes "\n")) a)) p

pub says_verdict : {T E : Type 0} (r : Result T E) (input old new : Option (List ℕ)) (from to : Reader) (v : Verdict)
    → ReadAll input from (Ok to) → v ≡ verdict_of to
    → OnOk r (Appends old new (report_of v)) → OnOk r ((tag : List ℕ) → from ≡ fresh tag → Reports tag input old new)
says_verdict r None old new from to v a e p = on_ok_weaker r (λ w tag s. tt) p
says_verdict r (Some bytes) old new from to v a e p =
    on_ok_weaker r (λ w tag s l.
    let k = a l in
    let same : v ≡ (found_in tag bytes).verdict =
    e
    ∙ ap verdict_of (k.1 (subst Begun (sym s) (begun tag)))
    ∙ ap (λ (x : Reader). verdict_of (fed_one x bytes).reader) s
    ∙ fed_found tag bytes k.0 in
    inl (subst (λ (x : Verdict). Appends old new (report_of x)) same w)) p
