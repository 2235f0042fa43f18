-- Each turn compares, and goes on with the first part where the rule does: a part is shorter than the field it is in.
use Rattle.bounds.proofs.Bounds.{bounding-equal, bounding-stop, bounding-left, left-shorter}
use Rattle.bounds.proofs.bounded_by.Goals as goal

pub returns-then-backing_eq : goal.returns-then-backing_eq
returns-then-backing_eq c = search bounding-equal

pub returns-then-not-goes_left : goal.returns-then-not-goes_left
returns-then-not-goes_left c = search bounding-stop

pub loop-part-smaller : goal.loop-part-smaller
loop-part-smaller c = search left-shorter

pub loop-part-preserved : goal.loop-part-preserved
loop-part-preserved c = search bounding-left
