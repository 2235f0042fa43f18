-- The records of the entries that the row has yielded are written, and they are counted.
use Rattle.std.proofs.Common.{◌≡◌, length}
use Rattle.contract.proofs.Recording.{Recording}
use Rattle.contract.proofs.records.record_entries.Given as goal

abbrev pub invariant-loop-entry : goal.invariant-loop-entry
invariant-loop-entry l =
    (l.count ≡ length l.yielded) × Recording l.file l.reading l.initial.output l.output l.count l.outcome
