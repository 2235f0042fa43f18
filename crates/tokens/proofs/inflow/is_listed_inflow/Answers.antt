-- The p of `p.amount` is looked for among the asset parameters.
use Rattle.tokens.proofs.Arriving.{inflow-read}
use Rattle.tokens.proofs.inflow.is_listed_inflow.Goals as goal

pub returns : goal.returns
returns c = search inflow-read
