-- The report is on the whole file that the input had, as the loop that reads it says.
use Rattle.blobline.proofs.Ended.{says_counts, says_refused, says_failed}
use Rattle.blobline.proofs.counted.Goals as goal

pub returns-in-Ok : goal.returns-in-Ok
returns-in-Ok g c = says_counts _ _ _ _ _ c.default-entries.ensures c.in-Ok.ensures c.told.ensures

pub returns-in-Err-Refused : goal.returns-in-Err-Refused
returns-in-Err-Refused g c =
    says_refused _ _ _ _ _ c.default-entries.ensures c.in-Err-Refused.field-0-is c.in-Err-Refused.ensures c.writeln.ensures.bytes

pub returns-in-Err-ReadFailed : goal.returns-in-Err-ReadFailed
returns-in-Err-ReadFailed g c =
    says_failed _ _ _ _ _ c.default-entries.ensures c.in-Err-ReadFailed.field-0-is c.in-Err-ReadFailed.ensures c.writeln-in-Err-ReadFailed.ensures.bytes
