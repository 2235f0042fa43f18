-- Each turn compares, and goes on with the first part where the rule does: a part is shorter than the field it is in.
use Rattle.std.proofs.Common.{length}
use Rattle.bounds.specs.Backing.{backing_field}
use Rattle.bounds.proofs.Bounds.{Bounding}
use Rattle.bounds.proofs.bounded_by.Given as goal

abbrev pub invariant-loop-part : goal.invariant-loop-part
invariant-loop-part l = Bounding l.amount (backing_field l.backing) l.wrapping l.part l.wrapping_here

abbrev pub decreases-loop-part : goal.decreases-loop-part
decreases-loop-part l = length l.part
