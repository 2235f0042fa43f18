-- No more differences than records that were gone through.
use Rattle.std.proofs.Common.{◌≤◌}
use Rattle.replay.proofs.main.Given as goal

abbrev pub invariant-loop-number : goal.invariant-loop-number
invariant-loop-number l = (l.differences ≤ l.number) × (l.count ≤ l.number)
