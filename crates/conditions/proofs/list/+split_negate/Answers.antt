-- A required expression gives itself or, where it is And, its parts; a denied one what is inside `not`, the negations of the
-- parts of Or, or itself flipped; of a list of parts, whoever lists what is left has listed all.
use Rattle.std.proofs.Common.{arith, rules}
use Rattle.fields.proofs.Gathering.{gathering-all, gathering-room, gathering-within, gathering-on, gathering-done, parts-fall, parts-room, front-falls, front-room, note-room}
use Rattle.conditions.proofs.Splitting.{split-here, split_parts, negated-here, negated-other, negated-not, negated-or, none-split, front-split, each-falls, conditions, as-denied, as-required}
use Rattle.conditions.proofs.list.+split_negate.Goals as goal

pub list_each-loop-part-init : goal.list_each-loop-part-init
list_each-loop-part-init t c = search (gathering-all, rules)

pub list_each-list_one-requires : goal.list_each-list_one-requires
list_each-list_one-requires t c =
    let within = gathering-within (conditions c.args.denied) _ _ _ _ c.loop-part.invariant _ _ c.in-Some.ensures.steps in
    (omega (arith, within, c.decreases), gathering-room (conditions c.args.denied) _ _ _ _ c.loop-part.invariant _ _ c.in-Some.ensures.steps)

pub list_each-loop-part-preserved : goal.list_each-loop-part-preserved
list_each-loop-part-preserved t c =
    gathering-on (conditions c.args.denied) _ _ _ _ c.loop-part.invariant _ _ c.in-Some.ensures.steps c.list_one.new.conditions c.list_one.ensures

pub list_each-returns : goal.list_each-returns
list_each-returns t c = gathering-done (conditions c.args.denied) _ _ _ _ c.loop-part.invariant c.in-None.ensures.steps

pub negate-split_front-requires : goal.negate-split_front-requires
negate-split_front-requires t c = (search parts-fall, search parts-room)

pub negate-returns-then-tag-eq-NOT : goal.negate-returns-then-tag-eq-NOT
negate-returns-then-tag-eq-NOT t c = search negated-not

pub negate-list_each-requires : goal.negate-list_each-requires
negate-list_each-requires t c = (search each-falls, search parts-room)

pub negate-returns-then-tag-eq-OR : goal.negate-returns-then-tag-eq-OR
negate-returns-then-tag-eq-OR t c = search negated-or

pub negate-note-requires : goal.negate-note-requires
negate-note-requires t c = search note-room

pub negate-returns-then-is_comparison : goal.negate-returns-then-is_comparison
negate-returns-then-is_comparison t c = search negated-here

pub negate-returns-else-is_comparison : goal.negate-returns-else-is_comparison
negate-returns-else-is_comparison t c = search negated-other

pub split-list_each-requires : goal.split-list_each-requires
split-list_each-requires t c = (search each-falls, search parts-room)

pub split-returns-then-tag-eq-AND : goal.split-returns-then-tag-eq-AND
split-returns-then-tag-eq-AND t c = search split_parts

pub split-note-requires : goal.split-note-requires
split-note-requires t c = search note-room

pub split-returns : goal.split-returns
split-returns t c = search split-here

pub split_front-split-requires : goal.split_front-split-requires
split_front-split-requires t c =
    (front-falls _ _ _ c.in-Some.ensures.steps t c.decreases, front-room _ _ _ c.in-Some.ensures.steps c.args.conditions.now c.requires)

pub split_front-returns-in-Some : goal.split_front-returns-in-Some
split_front-returns-in-Some t c = front-split c.args.parts c.args.conditions.now _ _ c.in-Some.ensures.steps c.split.new.conditions c.split.ensures

pub split_front-returns-in_default : goal.split_front-returns-in_default
split_front-returns-in_default t c = none-split c.args.parts c.args.conditions.now c.in_default.ensures.steps

pub list_one-returns-then-denied : goal.list_one-returns-then-denied
list_one-returns-then-denied t c = search as-denied

pub list_one-returns-else-denied : goal.list_one-returns-else-denied
list_one-returns-else-denied t c = search as-required
