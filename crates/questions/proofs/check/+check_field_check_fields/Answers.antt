-- A field's questions are by its tag and content; along a row, what is left answers as the whole. The content of a field is
-- shorter than the row that it stands in.
use Rattle.std.proofs.Common.{rules}
use Rattle.std.proofs.lemmas.Result.{err_from_is_err_and}
use Rattle.questions.proofs.Asking.{too-deep, goes_in, allowed, not-allowed, room-inside, asking-all, asking-cut}
use Rattle.questions.proofs.Asking.{asking-complete, asking-incomplete, asking-falls}
use Rattle.questions.proofs.Asking.{asking-inner, asking-room, asking-tag, asking-no, asking-on}
use Rattle.questions.proofs.check.+check_field_check_fields.Goals as goal

pub check_field-returns-then-is_expression-depth : goal.check_field-returns-then-is_expression-depth
check_field-returns-then-is_expression-depth t c = search (too-deep, rules)

pub check_field-check_fields-requires : goal.check_field-check_fields-requires
check_field-check_fields-requires t c = search (room-inside, rules)

pub check_field-returns-then-is_composite : goal.check_field-returns-then-is_composite
check_field-returns-then-is_composite t c = search (goes_in, rules)

pub check_field-returns-then-content_allowed : goal.check_field-returns-then-content_allowed
check_field-returns-then-content_allowed t c = search (allowed, rules)

pub check_field-returns : goal.check_field-returns
check_field-returns t c = search (not-allowed, rules)

pub check_fields-loop-tag-init : goal.check_fields-loop-tag-init
check_fields-loop-tag-init t c = search asking-all

pub check_fields-returns-in_default : goal.check_fields-returns-in_default
check_fields-returns-in_default t c = search asking-tag

pub check_fields-check_field-requires : goal.check_fields-check_field-requires
check_fields-check_field-requires t c = search (asking-inner, asking-room, rules)

pub check_fields-returns-in_err-check_field-in-Found : goal.check_fields-returns-in_err-check_field-in-Found
check_fields-returns-in_err-check_field-in-Found t c =
    let p = err_from_is_err_and c.from_residual.result c.from_residual.ensures.1 in
    let k = c.in_err-check_field-in-Found.ensures in
    rw (p.1, p.2) (search asking-no)

pub check_fields-loop-tag-smaller : goal.check_fields-loop-tag-smaller
check_fields-loop-tag-smaller t c = search asking-falls

pub check_fields-loop-tag-preserved : goal.check_fields-loop-tag-preserved
check_fields-loop-tag-preserved t c = let k = c.in_ok-check_field-in-Found.ensures in search asking-on

pub check_fields-returns-in-Cut : goal.check_fields-returns-in-Cut
check_fields-returns-in-Cut t c = search asking-cut

pub check_fields-returns-then-is_complete : goal.check_fields-returns-then-is_complete
check_fields-returns-then-is_complete t c = search asking-complete

pub check_fields-returns : goal.check_fields-returns
check_fields-returns t c = search asking-incomplete
