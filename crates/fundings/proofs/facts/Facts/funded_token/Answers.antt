-- The number stands for the token, and shows it where it stands.
use Rattle.fundings.proofs.Shown.{funding-read, funding-there}
use Rattle.fundings.proofs.facts.Facts.funded_token.Goals as goal

pub returns-clause-reads : goal.returns-clause-reads
returns-clause-reads c = search funding-read

pub returns-clause-shows : goal.returns-clause-shows
returns-clause-shows c = search funding-there
