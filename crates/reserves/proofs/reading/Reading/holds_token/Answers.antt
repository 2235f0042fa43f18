-- The field's token is compared with the one that is asked for.
use Rattle.reserves.proofs.Remembering.{by_token}
use Rattle.reserves.proofs.reading.Reading.holds_token.Goals as goal

pub returns-clause-holds : goal.returns-clause-holds
returns-clause-holds c = search by_token
