-- `put` meets its contract: six stores side by side are the entry. Assumes nothing.
use Rattle.std.proofs.Common.{arith}
use Rattle.words.proofs.Stores.{mid_puts}
use Rattle.blobs.proofs.Written.{six_stores}
use Rattle.blobs.proofs.writing.put.Goals as goal

pub returns : goal.returns
returns c =
    let a = c.args in
    let digits = mid_puts _ 14 78 _ a.digits.now c.copy_from_slice.ensures.after (omega arith) (omega arith) in
    six_stores _ c.requires.0 _ c.write.ensures c.write-2.ensures c.write-3.ensures digits c.put_zeros.ensures c.put_part.ensures
