-- An expression lists itself and then its parts; of a list of parts, whoever lists what is left has listed all.
use Rattle.std.proofs.Common.{ap, arith, length, rules}
use Rattle.fields.proofs.Gathering.{gathering-all, gathering-room, gathering-within, gathering-on, gathering-done, note-room, parts-fall}
use Rattle.walking.proofs.Visits.{no-expression, expression-parts, expression-alone, noted-room, expressions}
use Rattle.walking.proofs.walk.+visit_expression_visit_parts.Goals as goal

pub visit_expression-returns-then-not-is_expression :
    goal.visit_expression-returns-then-not-is_expression
visit_expression-returns-then-not-is_expression t c = search no-expression

pub visit_expression-note_place-requires : goal.visit_expression-note_place-requires
visit_expression-note_place-requires t c = search note-room

pub visit_expression-visit_parts-requires : goal.visit_expression-visit_parts-requires
visit_expression-visit_parts-requires t c = (search parts-fall, search noted-room)

pub visit_expression-returns-then-not-is_empty : goal.visit_expression-returns-then-not-is_empty
visit_expression-returns-then-not-is_empty t c = search expression-parts

pub visit_expression-returns-else-not-is_empty : goal.visit_expression-returns-else-not-is_empty
visit_expression-returns-else-not-is_empty t c = search expression-alone

pub visit_parts-loop-part-init : goal.visit_parts-loop-part-init
visit_parts-loop-part-init t c = (search rules, search rules, search (gathering-all, rules))

pub visit_parts-visit_expression-requires : goal.visit_parts-visit_expression-requires
visit_parts-visit_expression-requires t c =
    let by = expressions c.args.tag in
    let all = c.loop-part.invariant.2 in
    let within = gathering-within by _ _ _ _ all _ _ c.in-Some.ensures.steps in
    (omega (arith, within, c.decreases, ap length c.loop-part.invariant.1), gathering-room by _ _ _ _ all _ _ c.in-Some.ensures.steps)

pub visit_parts-loop-part-preserved : goal.visit_parts-loop-part-preserved
visit_parts-loop-part-preserved t c = (
  c.loop-part.invariant.0,
  c.loop-part.invariant.1,
  gathering-on (expressions c.args.tag) _ _ _ _ c.loop-part.invariant.2 _ _ c.in-Some.ensures.steps _ c.visit_expression.ensures,
)

pub visit_parts-returns : goal.visit_parts-returns
visit_parts-returns t c =
    rw (c.loop-part.invariant.0, c.loop-part.invariant.1) at
    (gathering-done (expressions c.args.tag) _ _ _ _ c.loop-part.invariant.2 c.in-None.ensures.steps)
