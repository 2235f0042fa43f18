-- A split without an amount is rejected, and else the steps decide, one after the other.
use Rattle.matching.proofs.Answering.{answer-split, answer-equal, answer-taken, answer-bounding, answer-reserve}
use Rattle.matching.proofs.answer.Pass.cover_payout.Goals as goal

pub returns-then-not-is_present-clause-answers : goal.returns-then-not-is_present-clause-answers
returns-then-not-is_present-clause-answers c = search answer-split

pub returns-in-Some-clause-answers : goal.returns-in-Some-clause-answers
returns-in-Some-clause-answers c = search answer-equal

pub returns-then-is_taken-clause-answers : goal.returns-then-is_taken-clause-answers
returns-then-is_taken-clause-answers c = search answer-taken

pub returns-in-Some-by_backing-clause-answers : goal.returns-in-Some-by_backing-clause-answers
returns-in-Some-by_backing-clause-answers c = search (answer-bounding, rw c.by_backing.ensures.same.file at c.by_backing-2.ensures.answers)

pub returns-clause-answers : goal.returns-clause-answers
returns-clause-answers c =
    answer-reserve _ _ _ c.requires _ c.part-part.ensures _ c.payout_amount.ensures.reads _ c.is_present.ensures c.if-not-is_present.false
    _ c.by_backing.ensures.answers c.in_default.is _ c.by_backing.ensures.marks _ c.is_taken.ensures c.if-is_taken.false
    _ (rw c.by_backing.ensures.same.file at c.by_backing-2.ensures.answers) c.in_default-by_backing.is _ c.by_backing-2.ensures.marks
    _ (rw (c.by_backing-2.ensures.same.file, c.by_backing.ensures.same.file) at c.by_reserve.ensures.answers)
