-- The report is on all that the input had, as the loop that reads it says.
use Rattle.shardline.proofs.Ended.{says_failed, says_verdict}
use Rattle.shardline.proofs.judged.Goals as goal

pub returns-in-Ok : goal.returns-in-Ok
returns-in-Ok g c = says_verdict _ _ _ _ _ _ _ c.in-Ok.ensures c.verdict.ensures c.told.ensures

pub returns-in-Err : goal.returns-in-Err
returns-in-Err g c = says_failed _ _ _ _ _ c.in-Err.failed c.in-Err.ensures c.writeln.ensures.bytes
