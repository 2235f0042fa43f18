-- The number that is written is that of the field's token, and the others are as they were.
use Rattle.reserves.proofs.Remembering.{worked-out, still-facts}
use Rattle.reserves.proofs.reading.Reading.work_out.Goals as goal

pub returns-clause-number : goal.returns-clause-number
returns-clause-number c = search worked-out

pub invariant_of-self-clause-right : goal.invariant_of-self-clause-right
invariant_of-self-clause-right c = search still-facts
