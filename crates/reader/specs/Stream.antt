-- ONE CALL OF THE READER: the answer and the next reader, for every reader and every piece.
use Rattle.std.specs.Prelude.{ℕ, ◌+◌, ◌-◌, Bool, true, List, eqb, ltb, length, replicate, Some, None, Result, Ok, Err}
use Rattle.std.proofs.Math.Seq.{paste}
use Rattle.words.specs.Checks.{pick, if_fine}
use Rattle.words.specs.Record.{tag_at, no_tag}
use Rattle.words.specs.declared.Words.{Words}
use Rattle.words.specs.declared.Tag.{Tag}
use Rattle.words.specs.declared.Refusal.{Refusal}
use Rattle.rules.specs.Rules.{size_of, words_in, fault_in, next_of, record_of}
use Rattle.rules.specs.Held.{held}
use Rattle.rules.specs.Verdicts.{refused, refusal_at, verdict_at}
use Rattle.rules.specs.declared.Place.{Place}
use Rattle.rules.specs.Verdicts.{Verdict}
use Rattle.whole.specs.Turns.{start_for}
use Rattle.reader.specs.declared.Stand.{Stand}
use Rattle.reader.specs.declared.Reader.{Reader}
use Rattle.reader.specs.declared.Call.{Call}
use Rattle.reader.specs.declared.Step.{Step}

-- ## Beginning

-- a reader with nothing in its carry
abbrev pub emptied : Tag → Place → Reader
emptied four p = record { stand = record { have = 0; tag = four; place = p }; carry = replicate 200 0 }

-- the tag as a reader has it: zeros for a tag of another length, which no call looks at
abbrev pub tag_in : List ℕ → Tag
tag_in tag = pick (eqb (length tag) 32) (tag_at tag) no_tag

unfoldable pub fresh : List ℕ → Reader
fresh tag = emptied (tag_in tag) (start_for tag)

-- ## What a call answers

-- a whole record: its bytes are taken, and all of the carry is zero after it; a good one moves the place on and is handed out
abbrev pub passed_by : Stand → Words → ℕ → Step
passed_by s w taken = record { reader = emptied s.tag (held (next_of s.place w)); answer = record { taken = taken; found = Ok (Some (record_of s.place w)) } }

-- the first faulty one decides, and no record is handed out for it
abbrev pub failed_by : Stand → ℕ → ℕ → Step
failed_by s number taken = record { reader = emptied s.tag (refused number s.place); answer = record { taken = taken; found = Err (refusal_at number s.place) } }

abbrev pub settled : Stand → Result Words ℕ → ℕ → Step
settled s (Ok w) taken = passed_by s w taken
settled s (Err number) taken = failed_by s number taken

-- fewer bytes than are missing: all are taken and kept
abbrev pub kept : Reader → List ℕ → Step
kept r piece = record {
  reader = record {
    stand = record { have = r.stand.have + length piece; tag = r.stand.tag; place = r.stand.place };
    carry = paste r.carry r.stand.have piece (length piece);
  };
  answer = record { taken = length piece; found = Ok None };
}

-- nothing is due: a refusal is repeated; after the end an empty piece changes nothing, and any other is refused with 14
abbrev pub stopped_by : Verdict → Reader → ℕ → Step
stopped_by (Err refusal) r n = record { reader = r; answer = record { taken = 0; found = Err refusal } }
stopped_by (Ok summary) r n = pick (eqb n 0) (record { reader = r; answer = record { taken = 0; found = Ok None } }) (failed_by r.stand 14 0)

abbrev pub stopped : Reader → ℕ → Step
stopped r n = stopped_by (verdict_at r.stand.place) r n

-- what is said where a call does nothing: the refusal if there was one, and else this
module _ {A : Type 0} where
  abbrev pub unless_refused : A → Verdict → Result A Refusal
  unless_refused x (Ok summary) = Ok x
  unless_refused x (Err refusal) = Err refusal

  abbrev pub said_at : A → Place → Result A Refusal
  said_at x p = pick (eqb (size_of p) 0) (unless_refused x (verdict_at p)) (Ok x)

-- the bytes missing from the record due
abbrev pub lacking : Stand → ℕ
lacking s = size_of s.place - s.have

-- the carry, filled from the piece
abbrev pub whole_in : Reader → List ℕ → List ℕ
whole_in r piece = paste r.carry r.stand.have piece (lacking r.stand)

-- what the bytes of a whole record say: its words, or the number of its refusal
abbrev pub heard_in : Stand → List ℕ → Result Words ℕ
heard_in s bytes = if_fine (fault_in s.tag s.place bytes) (words_in s.place bytes)

-- one call: it takes the smaller of the piece's length and the bytes missing from the record due
unfoldable pub step_of : Reader → List ℕ → Step
step_of r piece =
    pick (eqb (size_of r.stand.place) 0) (stopped r (length piece))
    (pick (ltb (length piece) (lacking r.stand)) (kept r piece)
    (settled r.stand (heard_in r.stand (whole_in r piece)) (lacking r.stand)))

-- ## With the carry lent

abbrev pub lent : Stand → List ℕ → Reader
lent s carry = record { stand = s; carry = carry }

abbrev pub call_of : Step → Call
call_of s = record { stand = s.reader.stand; answer = s.answer }

-- a call finds no whole record: nothing is due, or fewer bytes are left than the record due lacks
abbrev pub halt_by : ℕ → ℕ → ℕ → Bool
halt_by size lacks left = pick (eqb size 0) true (ltb left lacks)

-- ## The verdict

-- the refusal if there was one, done after the end, else 1 at the record due
unfoldable pub verdict_of : Reader → Verdict
verdict_of r = verdict_at r.stand.place
