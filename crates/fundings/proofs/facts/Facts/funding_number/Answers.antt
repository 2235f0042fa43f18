-- The number that is listed of the map is that of all.
use Rattle.std.proofs.Common.{rules}
use Rattle.fundings.proofs.Relisting.{listed-number}
use Rattle.fundings.proofs.Shown.{funding-small}
use Rattle.fundings.proofs.facts.Facts.funding_number.Goals as goal

pub returns-clause-reads : goal.returns-clause-reads
returns-clause-reads c = search (listed-number, rules)

pub returns-clause-small : goal.returns-clause-small
returns-clause-small c = search (funding-small, listed-number, rules)
