-- The name of the n-th state field is the n-th of the names.
use Rattle.reserves.proofs.Placing.{nth-name, nth-none}
use Rattle.reserves.proofs.state.state_name.Goals as goal

pub returns-in-Some : goal.returns-in-Some
returns-in-Some c = search nth-name

pub returns-in-None : goal.returns-in-None
returns-in-None c = search nth-none
