-- WHERE READING BEGINS, AND ONE TURN OVER A WHOLE SHARD IN A BUFFER, for every place: the record due is judged where it stands.
-- What all turns come to is `last_place` (crate layout, specs/Reach); that they do is the contract of `last_place`.
use Rattle.std.specs.Prelude.{ℕ, ◌-◌, List, eqb, ltb, length, take, drop}
pub use Rattle.std.specs.declared.ops.ControlFlow.{ControlFlow}
pub use Rattle.std.specs.declared.ops.ControlFlow.TheVariants.{Continue, Break}
use Rattle.words.specs.Checks.{pick}
use Rattle.words.specs.declared.Words.{Words}
use Rattle.words.specs.declared.Tag.{Tag}
use Rattle.rules.specs.Rules.{size_of, words_in, fault_in, next_of, start}
use Rattle.rules.specs.Held.{held}
use Rattle.rules.specs.Verdicts.{refused}
use Rattle.rules.specs.declared.Place.{Place}

-- a tag that is not 32 bytes is refused with 2, before all others
abbrev pub start_for : List ℕ → Place
start_for tag = pick (eqb (length tag) 32) start (refused 2 start)

-- the bytes from the record due on, and those of the record
abbrev pub left_at : List ℕ → Place → ℕ
left_at shard p = length shard - p.at.0

abbrev pub record_at : List ℕ → Place → List ℕ
record_at shard p = take (size_of p) (drop p.at.0 shard)

-- reading goes on at a place, or breaks off: it is over there
abbrev pub Turn : Type 0
Turn = ControlFlow Place Place

-- a whole record: reading goes on behind a good one, and the first faulty one decides
abbrev pub turn_after : Place → ℕ → Words → Turn
turn_after p number w = pick (eqb number 0) (Continue (held (next_of p w))) (Break (refused number p))

-- where nothing is due, a byte after the end is refused with 14; too few bytes leave the place as it is
unfoldable pub turn_of : Tag → List ℕ → Place → Turn
turn_of four shard p =
    pick (eqb (size_of p) 0) (Break (pick (eqb (left_at shard p) 0) p (refused 14 p)))
    (pick (ltb (left_at shard p) (size_of p)) (Break p)
    (turn_after p (fault_in four p (record_at shard p)) (words_in p (record_at shard p))))
