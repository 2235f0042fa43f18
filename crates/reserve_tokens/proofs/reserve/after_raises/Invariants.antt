-- Raise by raise, the number agreed on so far and those ahead agree on that of all; one that bars the field leaves none.
use Rattle.std.proofs.Common.{length}
use Rattle.walking.specs.Table.{placed_at}
use Rattle.reserve_tokens.proofs.Reserving.{Raises}
use Rattle.reserve_tokens.proofs.reserve.after_raises.Given as goal

abbrev pub invariant-loop-raise : goal.invariant-loop-raise
invariant-loop-raise l = Raises l.entry.facts.now.file.now l.name (placed_at l.entry.facts.now.file.now l.entry.place) l.initial.agreed l.agreed (length l.yielded)
