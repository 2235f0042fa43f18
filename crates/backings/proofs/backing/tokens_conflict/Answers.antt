-- Both tokens are worked out, and compared.
use Rattle.backings.proofs.Reading.{debit-conflict, parameter-conflict}
use Rattle.backings.proofs.backing.tokens_conflict.Goals as goal

pub returns-then-i-entry-clause-answer : goal.returns-then-i-entry-clause-answer
returns-then-i-entry-clause-answer c = search debit-conflict

pub returns-clause-answer : goal.returns-clause-answer
returns-clause-answer c = search parameter-conflict
