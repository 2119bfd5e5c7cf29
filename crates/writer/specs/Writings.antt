-- CALLS ONE AFTER THE OTHER, and the claims about them: refusals change nothing, and both round trips.
use Rattle.std.specs.Prelude.{ℕ, ◌≤◌, ◌≡◌, List, [], ◌∷◌, ◌++◌, length, take, Result, Ok, Err}
use Rattle.words.specs.Checks.{pick}
use Rattle.words.specs.Le.{Bytes}
use Rattle.rules.specs.Rules.{record_of}
use Rattle.rules.specs.Held.{held}
use Rattle.rules.specs.declared.Record.{Record}
use Rattle.words.specs.declared.Refusal.{Refusal}
use Rattle.writer.specs.Offers.{hash_by, words_of, offer_of, InRange}
use Rattle.writer.specs.declared.Offer.{Offer}
use Rattle.layout.specs.Layout.{Each}
use Rattle.layout.specs.Scan.{found_in, IsAccepted}
use Rattle.writer.specs.Write.{is_footer, answer_of, written_of, buffer_of, fresh, verdict_of}
use Rattle.writer.specs.declared.Writer.{Writer}

pub record Call : Type 0 where
  pub offer : Offer
  pub buffer : List ℕ

-- what calls came to: the writer after them, the bytes written one record after the other, and the records taken
pub record Writing : Type 0 where
  pub writer : Writer
  pub bytes : List ℕ
  pub records : List Record

-- what was written stands at the start of the buffer
abbrev pub bytes_by : Result ℕ Refusal → List ℕ → List ℕ
bytes_by (Ok size) buffer = take size buffer
bytes_by (Err refusal) buffer = []

abbrev pub taken_by : Result ℕ Refusal → Record → List Record
taken_by (Ok size) r = r ∷ []
taken_by (Err refusal) r = []

-- one call; a record taken is as a reader hands it out where the writer stands
unfoldable pub once : Writer → Call → Writing
once w c = record {
  writer = (written_of w c.offer (length c.buffer)).writer;
  bytes = bytes_by (written_of w c.offer (length c.buffer)).answer (buffer_of w c.offer c.buffer);
  records = taken_by (written_of w c.offer (length c.buffer)).answer (record_of w.place (words_of w.tag c.offer));
}

-- any calls, taken or refused
unfoldable pub written : Writer → List Call → Writing
written w [] = record { writer = w; bytes = []; records = [] }
written w (c ∷ cs) = record {
  writer = (written (once w c).writer cs).writer;
  bytes = (once w c).bytes ++ (written (once w c).writer cs).bytes;
  records = (once w c).records ++ (written (once w c).writer cs).records;
}

abbrev pub InRanges : List Call → Type 0
InRanges calls = Each (λ (c : Call). InRange c.offer) calls

-- ## The claims

-- a refusal changes nothing, neither in the writer nor in the buffer
abbrev pub RefusedChangesNothing : Type 0
RefusedChangesNothing = (w : Writer) (o : Offer) (buffer : List ℕ) (refusal : Refusal) → answer_of w o (length buffer) ≡ Err refusal
    → ((written_of w o (length buffer)).writer ≡ w) × (buffer_of w o buffer ≡ buffer)

-- the buffer keeps its length
abbrev pub KeepsLength : Type 0
KeepsLength = (w : Writer) (o : Offer) (buffer : List ℕ) → length (buffer_of w o buffer) ≡ length buffer

-- read after write: what is found in the bytes written are the records taken, each at its position, and the writer's verdict is that of the bytes
abbrev pub ReadAfterWrite : List ℕ → Type 0
ReadAfterWrite tag = (calls : List Call) → InRanges calls
    → found_in tag (written (fresh tag) calls).bytes ≡ record { records = (written (fresh tag) calls).records; verdict = verdict_of (written (fresh tag) calls).writer }

-- these records are offered in their order, each with a buffer that is long enough
abbrev pub Offered : List Record → List Call → Type 0
Offered [] [] = Unit {0}
Offered [] (c ∷ cs) = ⊥
Offered (r ∷ rs) [] = ⊥
Offered (r ∷ rs) (c ∷ cs) = (c.offer ≡ offer_of r) × (pick (is_footer r.kind) 200 48 ≤ length c.buffer) × Offered rs cs

-- write after read: the records of an accepted shard, offered in their order, give its bytes again, and are all taken as they are
abbrev pub WriteAfterRead : List ℕ → Type 0
WriteAfterRead tag = (bytes : List ℕ) → Bytes bytes → IsAccepted (found_in tag bytes).verdict
    → (calls : List Call) → Offered (found_in tag bytes).records calls
    → ((written (fresh tag) calls).bytes ≡ bytes) × ((written (fresh tag) calls).records ≡ (found_in tag bytes).records) × (verdict_of (written (fresh tag) calls).writer ≡ (found_in tag bytes).verdict)

-- in no writer that beginning and any calls give has a number wrapped: its place is that of the written rules
abbrev pub NeverWraps : List ℕ → Type 0
NeverWraps tag = (calls : List Call) → InRanges calls → held (written (fresh tag) calls).writer.place ≡ (written (fresh tag) calls).writer.place

-- a record taken offers what was offered, so that reading gives the offers back; a header and the end of a section have no hash of their own
abbrev pub OffersBack : Type 0
OffersBack = (w : Writer) (o : Offer) (room size : ℕ) → answer_of w o room ≡ Ok size
    → offer_of (record_of w.place (words_of w.tag o)) ≡ record { hash = hash_by o.fields w.tag o.hash; fields = o.fields }
