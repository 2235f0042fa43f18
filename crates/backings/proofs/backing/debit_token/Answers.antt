-- The map of the debit decides.
use Rattle.backings.proofs.Reading.{debit-read, debit-there}
use Rattle.backings.proofs.backing.debit_token.Goals as goal

pub returns-clause-reads : goal.returns-clause-reads
returns-clause-reads c = search debit-read

pub returns-clause-shows : goal.returns-clause-shows
returns-clause-shows c = search debit-there
