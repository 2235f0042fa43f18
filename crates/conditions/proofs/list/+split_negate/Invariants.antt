-- A required expression gives itself or, where it is And, its parts; a denied one what is inside `not`, the negations of the
-- parts of Or, or itself flipped; of a list of parts, whoever lists what is left has listed all.
use Rattle.std.proofs.Common.{◌+◌, ◌*◌, length}
use Rattle.fields.proofs.Gathering.{Gathering}
use Rattle.conditions.proofs.Splitting.{each}
use Rattle.conditions.proofs.list.+split_negate.Given as goal

abbrev pub decreases-list_each : goal.decreases-list_each
decreases-list_each l = 2 * length l.parts.rest.now + 2

abbrev pub decreases-list_one : goal.decreases-list_one
decreases-list_one l = 2 * length l.field.part.now + 1

abbrev pub decreases-negate : goal.decreases-negate
decreases-negate l = 2 * length l.field.part.now

abbrev pub decreases-split : goal.decreases-split
decreases-split l = 2 * length l.field.part.now

abbrev pub decreases-split_front : goal.decreases-split_front
decreases-split_front l = 2 * length l.parts.rest.now + 1

abbrev pub invariant-list_each-loop-part : goal.invariant-list_each-loop-part
invariant-list_each-loop-part l = Gathering (each l.denied) l.parts l.initial.conditions l.part-iterator l.conditions
