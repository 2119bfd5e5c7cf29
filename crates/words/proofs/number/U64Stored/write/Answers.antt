-- The 8 bytes stored are those that spell the number. Assumes nothing.
use Rattle.std.proofs.Common.{◌∙◌, ap}
use Rattle.words.specs.Le.{puts}
use Rattle.words.proofs.Bytes.{to_bytes_8}
use Rattle.words.proofs.number.U64Stored.write.Goals as goal

pub returns : goal.returns
returns c = c.put_bytes.ensures ∙ ap (puts c.args.buf.now c.args.at) (c.to_le_bytes.ensures ∙ to_bytes_8 c.args.self)
