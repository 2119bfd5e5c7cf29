-- `find_file` meets its contract: at each turn what is still to come gives the answer for the whole (proofs/FileWalk). Assumes nothing.
use Prim.Native.Nat.{◌-◌}
use lib.ListN.{length}
use Rattle.finder.specs.Find.{file_found}
use Rattle.finder.proofs.FileWalk.{FilesLeft}
use Rattle.finder.proofs.files.find_file.Given as goal

abbrev pub invariant-loop-hash : goal.invariant-loop-hash
invariant-loop-hash l = FilesLeft l.shard l.hash (file_found l.tag l.shard l.hash) l.at l.number

abbrev pub decreases-loop-hash : goal.decreases-loop-hash
decreases-loop-hash l = length l.shard - l.at
