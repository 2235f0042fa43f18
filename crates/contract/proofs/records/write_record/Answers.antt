-- Behind the numbers stand the covers, where there are some.
use Rattle.laws.proofs.Told.{told}
use Rattle.contract.proofs.Writing.{head-alone, covers-behind}
use Rattle.contract.proofs.records.write_record.Goals as goal

pub returns-in-Accepted : goal.returns-in-Accepted
returns-in-Accepted c = search (covers-behind, told)

pub returns-in_default : goal.returns-in_default
returns-in_default c = head-alone _ _ _ _ c.write_numbers.ensures c.in_default.not-Accepted
