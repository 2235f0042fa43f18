-- The entry is the one at the place, and the scratch table serves for its calls.
use Rattle.verdict.proofs.Placing.{told-there, left_there}
use Rattle.verdict.proofs.entry.placed_verdict.Goals as goal

pub returns-clause-answer : goal.returns-clause-answer
returns-clause-answer c = search told-there

pub returns-clause-covers : goal.returns-clause-covers
returns-clause-covers c = search left_there
