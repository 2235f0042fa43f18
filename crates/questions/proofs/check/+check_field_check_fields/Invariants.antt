-- A field's questions are by its tag and content; along a row, what is left answers as the whole. The content of a field is
-- shorter than the row that it stands in.
use Rattle.std.proofs.Common.{◌+◌, ◌-◌, ◌*◌, length}
use Rattle.questions.proofs.Asking.{Asking}
use Rattle.questions.proofs.check.+check_field_check_fields.Given as goal

abbrev pub decreases-check_field : goal.decreases-check_field
decreases-check_field l = 2 * length l.content.now + 1

abbrev pub decreases-check_fields : goal.decreases-check_fields
decreases-check_fields l = 2 * length l.content.now

abbrev pub invariant-check_fields-loop-tag : goal.invariant-check_fields-loop-tag
invariant-check_fields-loop-tag l = Asking l.outer l.content l.holder l.start l.depth l.slots l.cursor.at

abbrev pub decreases-check_fields-loop-tag : goal.decreases-check_fields-loop-tag
decreases-check_fields-loop-tag l = length l.content - l.cursor.at
