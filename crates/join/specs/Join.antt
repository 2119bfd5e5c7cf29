-- JOINING TWO SHARDS: the answer, and each byte of the lent buffer; for any tag, any bytes and any buffer.
use Rattle.std.specs.Prelude.{ℕ, ◌+◌, ◌-◌, ◌≤◌, List, ◌++◌, Bool, ◌||◌, not, eqb, leb, length, take, drop, Result, Ok, Err}
use Rattle.words.specs.declared.Refusal.{Refusal}
use Rattle.words.specs.Checks.{pick, fine, ◌unless◌then◌}
use Rattle.words.specs.Le.{le_at, part}
use Rattle.rules.specs.Rules.{limit, same31, start}
use Rattle.rules.specs.Verdicts.{refusal_at}
use Rattle.rules.specs.declared.Summary.{Summary}
use Rattle.layout.specs.Scan.{found_in, if_accepted}
use Rattle.layout.specs.Reach.{last_place}

-- ## The joined bytes

-- Two shards without footer, of n and m bytes, whose xorb offsets are x and y. The parts that are copied, in their order:
--
--     first   | header  files | bookend | xorbs    | bookend |
--             0               x - 48    x          n - 48    n
--             |------ 1 ------|         |--- 3 ----|
--
--     second  | header | files  bookend | xorbs  bookend |
--             0        48               y                m
--                      |------ 2 -------|------ 4 -------|
unfoldable pub joined_at : List ℕ → ℕ → List ℕ → ℕ → List ℕ
joined_at first x second y = take (x - 48) first ++ part 48 y second ++ part x (length first - 48) first ++ part y (length second) second

-- the xorb offset that reading comes to
abbrev pub offset_in : List ℕ → List ℕ → ℕ
offset_in tag bytes = (last_place tag bytes).offset.0

unfoldable pub joined_bytes : List ℕ → List ℕ → List ℕ → List ℕ
joined_bytes tag first second = joined_at first (offset_in tag first) second (offset_in tag second)

-- the sum less 144: a header and two bookends are there once
abbrev pub joined_length : List ℕ → List ℕ → ℕ
joined_length first second = length first + length second - 144

-- ## The answer

-- of a shard that has files: the first head stands at 48, its flags 32 bytes behind
abbrev pub first_flags : List ℕ → ℕ
first_flags bytes = le_at 4 bytes 80

-- the number of the first check that fails, 0 if none does
unfoldable pub join_fault : Bool → Bool → ℕ → ℕ → ℕ
join_fault footer agree size room =
    -- neither has a footer
    30 unless not footer then
    -- where both have files, they agree about bit 31; those of one shard do, so the first ones tell
    9 unless agree then
    -- the result does not pass the limit
    6 unless leb size limit then
    -- the buffer is not shorter than the result
    15 unless leb size room then fine

-- so many files and so many, of which the first flags are the same about bit 31 or not
abbrev pub agree_by : ℕ → ℕ → Bool → Bool
agree_by n m same = eqb n 0 || eqb m 0 || same

-- of two accepted shards
abbrev pub fault_for : Summary → Summary → Bool → ℕ → ℕ → ℕ
fault_for s t same size room = join_fault (s.footer || t.footer) (agree_by s.totals.files t.totals.files same) size room

-- these four are refused at 0
abbrev pub answer_by : ℕ → ℕ → Result ℕ Refusal
answer_by number size = pick (eqb number 0) (Ok size) (Err (refusal_at number start))

-- what is answered to two accepted shards
unfoldable pub answer_for : Summary → Summary → List ℕ → List ℕ → ℕ → Result ℕ Refusal
answer_for s t first second room =
    answer_by (fault_for s t (same31 (first_flags first) (first_flags second)) (joined_length first second) room) (joined_length first second)

-- the first shard's refusal, the second's, one of the four, or how many bytes were written
unfoldable pub join_of : List ℕ → List ℕ → List ℕ → ℕ → Result ℕ Refusal
join_of tag first second room = if_accepted Err (found_in tag first).verdict (λ s. if_accepted Err (found_in tag second).verdict (λ t. answer_for s t first second room))

-- ## The buffer

-- the result, which has this size, stands at its start, and no other byte changes; a refusal changes none
abbrev pub buffer_by : Result ℕ Refusal → List ℕ → List ℕ → List ℕ
buffer_by (Ok size) bytes buffer = bytes ++ drop size buffer
buffer_by (Err refusal) bytes buffer = buffer

unfoldable pub buffer_of : List ℕ → List ℕ → List ℕ → List ℕ → List ℕ
buffer_of tag first second buffer = buffer_by (join_of tag first second (length buffer)) (joined_bytes tag first second) buffer

-- ## What copying asks

-- a xorb offset lies behind the header and a bookend and before another, and the whole within the limit: so it is in every accepted shard
pub record Parted (bytes : List ℕ) (x : ℕ) : Type 0 where
  pub behind : 96 ≤ x
  pub before : x + 48 ≤ length bytes
  pub short : length bytes ≤ limit
