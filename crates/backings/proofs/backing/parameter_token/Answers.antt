-- The number stands for the token, and shows it where it stands.
use Rattle.tokens.proofs.Numbers.{number-token}
use Rattle.tokens.proofs.Shown.{token-shows}
use Rattle.backings.proofs.backing.parameter_token.Goals as goal

pub returns-clause-reads : goal.returns-clause-reads
returns-clause-reads c = search number-token

pub returns-clause-shows : goal.returns-clause-shows
returns-clause-shows c = search token-shows
