-- Three pieces, one behind the other.
use Rattle.contract.proofs.Writing.{head-written}
use Rattle.contract.proofs.records.write_numbers.Goals as goal

pub returns : goal.returns
returns c = search head-written
