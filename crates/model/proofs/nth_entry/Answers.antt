-- The entries are selected by their tags.
use Rattle.model.specs.Model.{entries}
use Rattle.model.proofs.Accessors.{found-nth}
use Rattle.model.proofs.nth_entry.Goals as goal

pub returns-clause-found : goal.returns-clause-found
unfolding entries
returns-clause-found c = search found-nth
