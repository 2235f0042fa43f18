-- Nothing is known at first.
use Rattle.reserves.proofs.Remembering.{facts-none}
use Rattle.verdict.proofs.entry.verdict_with.Goals as goal

pub new-reading-requires-clause-right : goal.new-reading-requires-clause-right
new-reading-requires-clause-right g c = search facts-none
