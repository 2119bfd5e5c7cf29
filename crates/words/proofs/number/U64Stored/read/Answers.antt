-- The 8 bytes read are those that `le_at 8` names. Assumes nothing.
use Rattle.std.proofs.Common.{◌∙◌}
use Rattle.words.proofs.Bytes.{from_bytes_8}
use Rattle.words.proofs.number.U64Stored.read.Goals as goal

pub returns : goal.returns
returns c = c.from_le_bytes.ensures ∙ from_bytes_8 c.args.s.now c.args.at _ c.bytes_at.ensures
