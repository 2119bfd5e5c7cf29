-- WHAT THE INNER FUNCTIONS ASK AND PROMISE: xorb blocks that stand in the bytes, read where they stand.
use Rattle.std.specs.Prelude.{◌≡◌, ℕ, ◌+◌, ◌*◌, ◌≤◌, ◌<◌, Bool, ◌&&◌, List, [], eqb, leb, ltb, length, Option, Some, None}
use Rattle.std.proofs.Math.Option as math
use Rattle.std.proofs.Math.Option.{none, some}
use Rattle.words.specs.Checks.{pick}
use Rattle.words.specs.Record.{words_at}
use Rattle.words.specs.declared.Words.{Words}
use Rattle.rules.specs.Rules.{limit}
use Rattle.layout.specs.Layout.{Segment, XorbBlock, Each, SoundXorb}
use Rattle.layout.specs.Blocks.{xorb_block, blocks_then, Stand, segment_of}
use Rattle.audit.specs.Audit.{first_block, is_true_of}
use Rattle.audit.specs.declared.blocks.Block.{Block}

-- ## Inside a block

-- its chunks are as many as its head says
abbrev pub Complete : Block → Type 0
Complete block = 48 * block.head.b ≤ length block.chunks.now

-- how many bytes the chunks before an index have together: where the chunk there starts in the xorb or, if there is none, the bytes in the xorb
abbrev pub before_in : Block → ℕ → ℕ
before_in block i = pick (ltb i block.head.b) (words_at block.chunks.now (48 * i)).a block.head.c

abbrev pub true_in : Block → Words → Bool
true_in block segment = leb segment.d block.head.b && eqb (before_in block segment.c + segment.b) (before_in block segment.d)

-- ## One segment against the blocks from a position on

abbrev pub compared_with : math.Option XorbBlock → Segment → Option Bool
compared_with none s = None
compared_with (some x) s = Some (is_true_of x s)

unfoldable pub compared_in : List XorbBlock → Segment → Option Bool
compared_in xorbs s = compared_with (first_block s.xorb xorbs) s

-- these blocks and their bookend
pub record XorbsAt (bytes : List ℕ) (at : ℕ) (blocks : List XorbBlock) : Type 0 where
  pub sound : Each SoundXorb blocks
  pub stand : Stand bytes at (blocks_then xorb_block blocks [])

-- some blocks stand there
pub record Comparable (bytes : List ℕ) (at : ℕ) (segment : Words) : Type 0 where
  pub blocks : List XorbBlock
  pub there : XorbsAt bytes at blocks
  pub start_end : segment.c < segment.d
  pub short : length bytes ≤ limit

-- whatever blocks stand there, the answer is theirs
abbrev pub Compares : List ℕ → ℕ → Words → Option Bool → Type 0
Compares bytes at segment answer = (blocks : List XorbBlock) → XorbsAt bytes at blocks → answer ≡ compared_in blocks (segment_of segment)
