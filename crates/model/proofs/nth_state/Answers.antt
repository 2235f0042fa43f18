-- The state fields are selected by their tags.
use Rattle.model.specs.Model.{states}
use Rattle.model.proofs.Accessors.{found-nth}
use Rattle.model.proofs.nth_state.Goals as goal

pub returns-clause-found : goal.returns-clause-found
unfolding states
returns-clause-found c = search found-nth
