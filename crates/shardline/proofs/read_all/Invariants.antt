-- What the input lost was fed to the reader.
use Rattle.std.proofs.Common.{◌<◌, length}
use Rattle.shardline.proofs.Ended.{Got}
use Rattle.shardline.proofs.read_all.Given as goal

abbrev pub invariant-loop : goal.invariant-loop
invariant-loop g l =
    (0 < length l.buf)
    × Got (g.R.Read.remaining l.initial.input) (g.R.Read.remaining l.input) l.fn.reader l.reader l.counter l.length
