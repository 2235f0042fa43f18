-- A comparison gives up only where the file has room for more fields than false alarms were allowed, so doubling these ends. A
-- comparison is its base, .0, and the false alarms that it allows, .1.0.
use Rattle.std.proofs.Common.{◌-◌, ◌<◌, length}
use Rattle.questions.proofs.names.check_names.Given as goal

abbrev pub invariant-loop-answer : goal.invariant-loop-answer
invariant-loop-answer l = (l.comparison.0 < 2147483648) × (0 < l.comparison.1.0)

abbrev pub decreases-loop-answer : goal.decreases-loop-answer
decreases-loop-answer l = length l.file - l.comparison.1.0
