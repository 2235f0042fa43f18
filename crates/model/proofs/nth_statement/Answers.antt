-- The statements are selected by their tags.
use Rattle.model.specs.Model.{body}
use Rattle.model.proofs.Accessors.{this-nth, part-nth}
use Rattle.model.proofs.nth_statement.Goals as goal

pub returns-clause-reads : goal.returns-clause-reads
unfolding body
returns-clause-reads c = search this-nth

pub returns-clause-placed : goal.returns-clause-placed
returns-clause-placed c = search part-nth
