-- The fields of the numbers that were passed do not hold the token, so those that are left decide.
use Rattle.reserves.specs.Reading.{file_of, Same}
use Rattle.reserves.proofs.Holders.{Holding}
use Rattle.reserves.proofs.reading.Reading.first_holding.Given as goal

abbrev pub invariant-loop-listed : goal.invariant-loop-listed
invariant-loop-listed l = Same l.fn.self l.self × Holding (file_of l.fn.self) l.token l.numbers l.listed-index
