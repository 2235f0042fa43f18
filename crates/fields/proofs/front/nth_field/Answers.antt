-- What is left behind i fields has the n-th at n - i.
use Rattle.fields.proofs.Places.{passed_none, passed-one, passed-all, passed-end, is-zero, reads-nth}
use Rattle.fields.proofs.front.nth_field.Goals as goal

pub loop-init : goal.loop-init
loop-init c = search passed_none

pub loop-preserved : goal.loop-preserved
loop-preserved c = search passed-one

pub returns-after-loop-clause-reads : goal.returns-after-loop-clause-reads
returns-after-loop-clause-reads c = search (reads-nth, passed-all)

pub returns-after-loop-clause-shows : goal.returns-after-loop-clause-shows
returns-after-loop-clause-shows c = search passed-all

pub returns-then-is_empty-clause-reads : goal.returns-then-is_empty-clause-reads
returns-then-is_empty-clause-reads c = search (reads-nth, passed-end, is-zero)

pub returns-then-is_empty-clause-shows : goal.returns-then-is_empty-clause-shows
returns-then-is_empty-clause-shows c = search (passed-end, is-zero)
