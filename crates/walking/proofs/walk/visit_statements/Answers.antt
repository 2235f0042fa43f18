-- Whoever lists what is left of the row has listed all.
use Rattle.std.proofs.Common.{rules}
use Rattle.fields.proofs.Gathering.{gathering-all, gathering-room, gathering-on, gathering-done}
use Rattle.walking.proofs.Visits.{statements}
use Rattle.walking.proofs.walk.visit_statements.Goals as goal

pub loop-part-init : goal.loop-part-init
loop-part-init c = search (gathering-all, rules)

pub visit_statement-requires : goal.visit_statement-requires
visit_statement-requires c = gathering-room (statements c.args.tag) _ _ _ _ c.loop-part.invariant _ _ c.in-Some.ensures.steps

pub loop-part-preserved : goal.loop-part-preserved
loop-part-preserved c =
    gathering-on (statements c.args.tag) _ _ _ _ c.loop-part.invariant _ _ c.in-Some.ensures.steps _ c.visit_statement.ensures

pub returns : goal.returns
returns c = gathering-done (statements c.args.tag) _ _ _ _ c.loop-part.invariant c.in-None.ensures.steps
