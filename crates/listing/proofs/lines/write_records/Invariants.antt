-- The lines of the records that have come are written.
use Rattle.std.proofs.Common.{length}
use Rattle.listing.proofs.Reading.{Lined}
use Rattle.listing.proofs.lines.write_records.Given as goal

abbrev pub invariant-loop-number : goal.invariant-loop-number
invariant-loop-number l = Lined l.count l.records l.initial.output l.output (length l.yielded)
