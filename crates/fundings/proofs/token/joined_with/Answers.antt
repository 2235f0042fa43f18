-- An entry that does not fund the map adds nothing.
use Rattle.fundings.proofs.Funders.{not-funding, funding-too}
use Rattle.fundings.proofs.token.joined_with.Goals as goal

pub returns-then-not-entry_funds : goal.returns-then-not-entry_funds
returns-then-not-entry_funds c = search not-funding

pub returns : goal.returns
returns c = search funding-too
