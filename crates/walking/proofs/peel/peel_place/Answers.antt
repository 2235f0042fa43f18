-- t is the inside of the wrappers passed so far, a part of s that starts at the place: peeling it is peeling s.
use Rattle.std.proofs.Common.{rules}
use Rattle.walking.proofs.peel.peel_place.Invariants.{peeling-all, stop, stop-place, empty, empty-place, falls, in-range, on}
use Rattle.walking.proofs.peel.peel_place.Goals as goal

pub loop-t-init : goal.loop-t-init
loop-t-init c = search peeling-all

pub overflow_add-at : goal.overflow_add-at
overflow_add-at c = search (in-range, rules)

pub loop-t-smaller : goal.loop-t-smaller
loop-t-smaller c = search falls

pub loop-t-preserved : goal.loop-t-preserved
loop-t-preserved c = search on

pub returns-then-not-is_wrapper-clause-reads : goal.returns-then-not-is_wrapper-clause-reads
returns-then-not-is_wrapper-clause-reads c = search stop

pub returns-then-not-is_wrapper-clause-stands : goal.returns-then-not-is_wrapper-clause-stands
returns-then-not-is_wrapper-clause-stands c = search stop-place

pub returns-then-not-is_whole-clause-reads : goal.returns-then-not-is_whole-clause-reads
returns-then-not-is_whole-clause-reads c = search empty

pub returns-then-not-is_whole-clause-stands : goal.returns-then-not-is_whole-clause-stands
returns-then-not-is_whole-clause-stands c = search empty-place
