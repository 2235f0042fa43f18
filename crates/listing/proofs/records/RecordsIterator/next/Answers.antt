-- The record in front comes, and behind it those that are left.
use Rattle.std.proofs.Common.{rules}
use Rattle.listing.proofs.Reading.{records-end, records-next}
use Rattle.listing.proofs.records.RecordsIterator.next.Goals as goal

pub returns-in_err-self-clause-steps : goal.returns-in_err-self-clause-steps
returns-in_err-self-clause-steps c = search (records-end, rules)

pub returns-clause-steps : goal.returns-clause-steps
returns-clause-steps c = search (records-next, rules)

pub returns-clause-goes : goal.returns-clause-goes
returns-clause-goes c = search (records-next, rules)
