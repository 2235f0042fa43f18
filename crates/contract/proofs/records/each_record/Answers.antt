-- The record of the refusal, or those of all entries: either scratch table has a number for each three bytes of the file.
use Rattle.claim.proofs.Fitting.{answered-passes}
use Rattle.contract.proofs.Each.{table-enough, refused-each}
use Rattle.contract.proofs.records.each_record.Goals as goal

pub returns-in-Err : goal.returns-in-Err
returns-in-Err c = search refused-each

pub record_with-requires-clause-passed : goal.record_with-requires-clause-passed
record_with-requires-clause-passed c = search answered-passes

pub record_with-requires-2-clause-passed : goal.record_with-requires-2-clause-passed
record_with-requires-2-clause-passed c = search answered-passes

pub record_with-requires-2-clause-scratch : goal.record_with-requires-2-clause-scratch
record_with-requires-2-clause-scratch c = search table-enough
