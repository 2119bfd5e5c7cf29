-- Shards from the quay: the examples of document 01 that are marked P, in one list under one claim.
use Rattle.std.specs.Prelude.{◌≡◌, refl, ℕ, zero, suc, ◌+◌, List, [], ◌∷◌, ◌++◌, map, Bool, true, false, replicate, Ok, Err}
use Rattle.cut.specs.Format.{run, push, fill}
use Rattle.words.specs.Le.{le_at, zeros_at, spell}
use Rattle.words.specs.Record.{spell_hash, spell_words}
use Rattle.words.specs.Refusals.{refused_at}
use Rattle.rules.specs.Rules.{fault_of, kind_of, next_of, counts}
use Rattle.rules.specs.Verdicts.{verdict_at}
use Rattle.layout.specs.Scan.{found_in, scan}
use Rattle.rules.specs.Verdicts.{Verdict}
use Rattle.rules.specs.declared.Totals.{Totals}

-- n bytes that count up
abbrev up_from : ℕ → ℕ → List ℕ
up_from n zero = []
up_from n (suc k) = n ∷ up_from (n + 1) k

-- the tag is the bytes 1 to 32
abbrev pub tag : List ℕ
tag = up_from 1 32

-- 48 bytes: a hash and four numbers
abbrev pub row : List ℕ → ℕ → ℕ → ℕ → ℕ → List ℕ
row h a b c d = spell_words (record { hash = h; a = a; b = b; c = c; d = d })

abbrev pub header : ℕ → List ℕ
header footer_size = tag ++ spell 8 2 ++ spell 8 footer_size

abbrev pub bookend : List ℕ
bookend = replicate 32 255 ++ replicate 16 0

abbrev pub footer : ℕ → ℕ → ℕ → List ℕ
footer files xorbs here = spell 8 1 ++ spell 8 files ++ spell 8 xorbs ++ replicate 48 0 ++ replicate 32 0 ++ spell 8 0 ++ spell 8 0 ++ replicate 72 0 ++ spell 8 here

-- a hash
abbrev pub hash : List ℕ
hash = 1 ∷ 2 ∷ 3 ∷ 4 ∷ []

abbrev pub accepted : ℕ → Totals → Bool → Verdict
accepted length totals has_footer = Ok (record { length = length; totals = totals; footer = has_footer })

abbrev pub refused : ℕ → ℕ → Verdict
refused number position = Err (refused_at position number)

pub record Example : Type 0 where
  pub bytes : List ℕ
  pub verdict : Verdict

infix 10 ◌gives◌
abbrev ◌gives◌ : List ℕ → Verdict → Example
◌gives◌ bytes verdict = record { bytes = bytes; verdict = verdict }

abbrev examples : List Example
examples =
    -- empty input; a good header alone
    ([] gives refused 1 0)
    ∷ (header 0 gives refused 1 48)
    -- header and two bookends, footer size 0; one byte more
    ∷ (header 0 ++ bookend ++ bookend gives accepted 144 (counts 0 0 0 0 0) false)
    ∷ (header 0 ++ bookend ++ bookend ++ (0 ∷ []) gives refused 14 144)
    -- the same with a footer, offsets 48, 96, 144; xorb offset 48
    ∷ (header 200 ++ bookend ++ bookend ++ footer 48 96 144 gives accepted 344 (counts 0 0 0 0 0) true)
    ∷ (header 200 ++ bookend ++ bookend ++ footer 48 48 144 gives refused 13 144)
    -- first file head at 48, one entry, no flags, then a segment of 7 bytes, 5 to 5, and no more; with 5 to 6
    ∷ (header 0 ++ row hash 0 1 0 0 ++ row hash 0 7 5 5 gives refused 10 96)
    ∷ (header 0 ++ row hash 0 1 0 0 ++ row hash 0 7 5 6 gives refused 1 144)
    -- one xorb, chunks of 10 and 20 bytes at 0 and 10, total 30; second start 11
    ∷ (header 0 ++ bookend ++ row hash 0 2 30 0 ++ row hash 0 10 0 0 ++ row hash 10 20 0 0 ++ bookend gives accepted 288 (counts 0 0 1 2 0) false)
    ∷ (header 0 ++ bookend ++ row hash 0 2 30 0 ++ row hash 0 10 0 0 ++ row hash 11 20 0 0 ++ bookend gives refused 11 192)
    -- chunk of 4,294,967,295 bytes under a head with 0 bytes
    ∷ (header 0 ++ bookend ++ row hash 0 1 0 0 ++ row hash 0 4294967295 0 0 ++ bookend gives refused 11 144)
    -- file head with 89,478,486 entries: times 48 this is 32 in 32 bits
    ∷ (header 0 ++ row hash 0 89478486 0 0 gives refused 6 48)
    -- two empty files, bit 31 only in the first
    ∷ (header 0 ++ row hash 2147483648 0 0 0 ++ row hash 0 0 0 0 ++ bookend ++ bookend gives refused 9 96)
    ∷ []

-- THE CLAIM: the written rules give each of these verdicts
pub quay : map (λ e. (found_in tag e.bytes).verdict) examples ≡ map (λ e. e.verdict) examples
unfolding found_in scan verdict_at run push fill fault_of kind_of next_of le_at zeros_at spell spell_hash spell_words
quay = refl
