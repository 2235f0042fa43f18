-- Field by field, a number that is right is written, and the file is the same.
use Rattle.reserves.specs.Reading.{Same}
use Rattle.reserves.proofs.reading.Reading.work_out_each.Given as goal

abbrev pub invariant-loop-index : goal.invariant-loop-index
invariant-loop-index l = Same l.fn.self l.self
