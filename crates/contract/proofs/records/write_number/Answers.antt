-- The last two bytes of the number.
use Rattle.contract.proofs.Writing.{number-written}
use Rattle.contract.proofs.records.write_number.Goals as goal

pub returns : goal.returns
returns c = search number-written
