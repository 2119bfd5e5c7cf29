-- `put_bytes` meets its contract: what is copied to a part of the buffer is a run of stores. Assumes nothing.
use Rattle.std.proofs.Common.{◌+◌, arith}
use Rattle.words.proofs.Stores.{mid_puts}
use Rattle.words.proofs.number.put_bytes.Goals as goal

pub returns : goal.returns
returns g c =
    let a = c.args in
    mid_puts a.buf.now a.at (a.at + g.row.N) _ a.bytes c.copy_from_slice.ensures.after (omega arith) (omega arith)
