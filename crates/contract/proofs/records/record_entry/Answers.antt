-- The numbers and the covers are those of the verdict, and so the record is.
use Rattle.std.proofs.Common.{rules}
use Rattle.contract.proofs.Writing.{entry-within, entry-recorded}
use Rattle.contract.proofs.records.record_entry.Goals as goal

pub write_record-requires : goal.write_record-requires
write_record-requires c = search (entry-within, rules)

pub returns-clause-record : goal.returns-clause-record
returns-clause-record c = search (entry-recorded, rules)
