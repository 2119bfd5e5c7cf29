-- EXAMPLES, by computation: two files over three xorb blocks, two of which have one hash.
use Rattle.std.specs.Prelude.{◌≡◌, refl, false, List, [], ◌∷◌, ◌++◌, ℕ, replicate, Result, Ok, Err}
use Rattle.words.specs.declared.Refusal.{Refusal}
use Rattle.std.proofs.Math.Option.{none, some}
use Rattle.cut.specs.Format.{run, push, fill}
use Rattle.words.specs.Le.{le_at, zeros_at, spell}
use Rattle.words.specs.Record.{spell_hash, spell_words}
use Rattle.rules.specs.Rules.{fault_of, kind_of, record_of, next_of}
use Rattle.rules.specs.Verdicts.{verdict_at}
use Rattle.rules.specs.Verdicts.{Verdict}
use Rattle.layout.specs.Layout.{Segment, Chunk, XorbBlock, file_rows}
use Rattle.layout.specs.Blocks.{leading}
use Rattle.layout.specs.Quay.{tag, hash, row, header, bookend}
use Rattle.layout.specs.Scan.{found_in, scan}
use Rattle.audit.specs.declared.Counts.{Counts}
use Rattle.audit.specs.Audit.{first_false, false_at, audit_in, audit_for, placed_in, blocks_in, audit_of}

abbrev segment : ℕ → ℕ → ℕ → ℕ → Segment
segment xorb start end bytes = record { xorb = replicate 4 xorb; bytes = bytes; start = start; end = end }

abbrev chunk : ℕ → Chunk
chunk bytes = record { hash = replicate 4 9; bytes = bytes }

-- chunks of 10, 20 and 30 bytes; another block of the same hash; one with no chunks
abbrev xorbs : List XorbBlock
xorbs = record { hash = replicate 4 11; disk = 0; chunks = chunk 10 ∷ chunk 20 ∷ chunk 30 ∷ [] }
    ∷ record { hash = replicate 4 11; disk = 0; chunks = chunk 1 ∷ [] }
    ∷ record { hash = replicate 4 12; disk = 0; chunks = [] } ∷ []

-- the first file has these segments and a metadata record, the second one segment
abbrev of : List Segment → Segment → Result Counts Refusal
of ss s = audit_for (record {
  files = record { hash = replicate 4 1; segments = ss; verifications = none; metadata = some (replicate 4 2) } ∷ record { hash = replicate 4 3; segments = s ∷ []; verifications = none; metadata = none } ∷ [];
  xorbs = xorbs;
  footer = none;
})

-- in bytes, at the quay: a file of one segment that claims so many bytes for both chunks of a xorb, 10 and 20; and what the reader says of it
abbrev claiming : ℕ → List ℕ
claiming bytes = header 0 ++ row hash 0 1 0 0 ++ row hash 0 bytes 0 2 ++ bookend ++ row hash 0 2 30 0 ++ row hash 0 10 0 0 ++ row hash 10 20 0 0 ++ bookend

abbrev accepted_of : ℕ → Verdict
accepted_of bytes = Ok (record { length = 384; totals = record { files = 1; segments = 1; xorbs = 1; chunks = 2; bytes = bytes }; footer = false })

pub record Examples : Type 0 where
  -- all the chunks, some of them, a xorb that is not listed
  good : of (segment 11 0 3 60 ∷ segment 11 1 2 20 ∷ segment 13 5 9 7 ∷ []) (segment 11 1 3 50) ≡ Ok (record { listed = 3; unlisted = 1 })
  none_listed : of [] (segment 13 0 1 1) ≡ Ok (record { listed = 0; unlisted = 1 })
  -- one byte too few, one too many, an end past the count
  few : of (segment 11 0 3 60 ∷ segment 11 1 2 19 ∷ []) (segment 11 0 1 9) ≡ Err (false_at 144)
  many : of (segment 11 0 3 61 ∷ []) (segment 11 0 1 10) ≡ Err (false_at 96)
  past : of (segment 11 0 4 60 ∷ []) (segment 11 0 1 10) ≡ Err (false_at 96)
  -- the first block decides, not the second; a block with no chunks
  second_block : of (segment 11 0 1 10 ∷ []) (segment 11 0 1 1) ≡ Err (false_at 240)
  no_chunks : of (segment 12 0 1 0 ∷ []) (segment 11 0 1 10) ≡ Err (false_at 96)
  -- a verdict apart: both of these shards are accepted, and one is refused here
  accepted : ((found_in tag (claiming 30)).verdict ≡ accepted_of 30) × ((found_in tag (claiming 31)).verdict ≡ accepted_of 31)
  apart : (audit_of tag (claiming 30) ≡ Ok (record { listed = 1; unlisted = 0 })) × (audit_of tag (claiming 31) ≡ Err (false_at 96))

examples : Examples
unfolding audit_in first_false file_rows placed_in blocks_in leading audit_of found_in scan run push fill verdict_at fault_of kind_of record_of next_of le_at zeros_at spell spell_hash spell_words
examples = record {
  good = refl;
  none_listed = refl;
  few = refl;
  many = refl;
  past = refl;
  second_block = refl;
  no_chunks = refl;
  accepted = (refl, refl);
  apart = (refl, refl);
}
