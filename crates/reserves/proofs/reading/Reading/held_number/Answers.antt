-- What is remembered of the field is right.
use Rattle.reserves.proofs.Remembering.{remembered-number}
use Rattle.reserves.proofs.reading.Reading.held_number.Goals as goal

pub returns-in-Some-clause-number : goal.returns-in-Some-clause-number
returns-in-Some-clause-number c = search remembered-number
