-- Nothing is worked out while the numbers are gone through.
use Rattle.reserves.specs.Reading.{Same}
use Rattle.reserves.proofs.reading.Reading.work_out_unknown.Given as goal

abbrev pub invariant-loop-number : goal.invariant-loop-number
invariant-loop-number l = Same l.fn.self l.self
