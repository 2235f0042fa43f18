-- The number found so far and those of the guards ahead have the only one; a second leaves none.
use Rattle.walking.specs.Table.{placed_at}
use Rattle.reserve_tokens.specs.Numbers.{guard_numbers, only_number}
use Rattle.reserve_tokens.proofs.Guarding.{Guarding}
use Rattle.reserve_tokens.proofs.guard.only_guard_number.Given as goal

abbrev pub invariant-loop-part : goal.invariant-loop-part
invariant-loop-part l = Guarding l.file l.found (only_number (guard_numbers l.file (placed_at l.file l.place))) l.part-iterator
