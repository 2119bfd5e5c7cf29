-- EXAMPLES, by computation: a file of three segments of 100, 0 and 50 bytes, and one of none.
use Rattle.std.specs.Prelude.{◌≡◌, refl, List, [], ◌∷◌, ℕ, replicate}
use Rattle.std.proofs.Math.Option.{none, some}
use Rattle.layout.specs.Layout.{Segment, FileBlock}
use Rattle.plan.specs.Plan.{rows_for, segments_at, Plan, fetch, refused_with, plan_for}
use Rattle.plan.specs.declared.Row.{Row}

abbrev segment : ℕ → ℕ → ℕ → ℕ → Segment
segment xorb start end bytes = record { xorb = replicate 4 xorb; bytes = bytes; start = start; end = end }

abbrev row : ℕ → ℕ → ℕ → ℕ → ℕ → Row
row xorb start end skip take = record { xorb = replicate 4 xorb; start = record { 0 = start }; end = record { 0 = end }; skip = skip; take = take }

abbrev three : List Segment
three = segment 11 0 2 100 ∷ segment 12 2 3 0 ∷ segment 13 3 7 50 ∷ []

abbrev files : List FileBlock
files = record { hash = replicate 4 1; segments = three; verifications = none; metadata = none }
    ∷ record { hash = replicate 4 2; segments = []; verifications = none; metadata = none } ∷ []

-- file number, a, b, room
abbrev of : ℕ → ℕ → ℕ → ℕ → Plan
of n a b room = plan_for (segments_at n files) a b room

pub record Examples : Type 0 where
  -- the whole file: the segment of no bytes has no row
  whole : of 0 0 150 2 ≡ fetch (row 11 0 2 0 100 ∷ row 13 3 7 0 50 ∷ [])
  -- one byte on either side of a seam
  seam : of 0 99 101 9 ≡ fetch (row 11 0 2 99 1 ∷ row 13 3 7 0 1 ∷ [])
  -- up to a seam, and from it
  up_to : of 0 10 100 9 ≡ fetch (row 11 0 2 10 90 ∷ [])
  onwards : of 0 100 101 9 ≡ fetch (row 13 3 7 0 1 ∷ [])
  -- inside one segment
  inside : of 0 120 130 1 ≡ fetch (row 13 3 7 20 10 ∷ [])
  -- beyond 32 bits
  far : plan_for (some (segment 11 0 1 4294967295 ∷ segment 12 0 1 4294967295 ∷ [])) 4294967296 4294967298 1 ≡ fetch (row 12 0 1 1 2 ∷ [])
  -- refusals, and their order
  no_file : of 2 5 5 0 ≡ refused_with 17
  no_bytes : of 0 5 5 0 ≡ refused_with 18
  backwards : of 0 6 5 9 ≡ refused_with 18
  past : of 0 149 151 0 ≡ refused_with 18
  empty_file : of 1 0 0 9 ≡ refused_with 18
  no_room : of 0 99 101 1 ≡ refused_with 15

examples : Examples
unfolding rows_for
examples = record {
  whole = refl;
  seam = refl;
  up_to = refl;
  onwards = refl;
  inside = refl;
  far = refl;
  no_file = refl;
  no_bytes = refl;
  backwards = refl;
  past = refl;
  empty_file = refl;
  no_room = refl;
}
