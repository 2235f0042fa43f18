-- The field at the front is visited; where none stands there, there is no expression.
use Rattle.walking.proofs.Visits.{nothing-walked, front-walked}
use Rattle.walking.proofs.walk.list_expression.Goals as goal

pub returns-in-Some-clause-listed : goal.returns-in-Some-clause-listed
returns-in-Some-clause-listed c =
    front-walked c.args.tag c.args.table.now c.empty_table-places.result c.empty_table-places.ensures.items c.empty_table-places.ensures.none
    c.fields_at.result c.args.s.now c.fields_at.ensures.rest c.fields_at.ensures.place _ _ c.in-Some.ensures.steps
    c.visit_expression.new.places c.visit_expression.ensures

pub returns-in_default-clause-listed : goal.returns-in_default-clause-listed
returns-in_default-clause-listed c =
    nothing-walked c.args.tag c.args.table.now c.empty_table-places.result c.empty_table-places.ensures.items c.empty_table-places.ensures.none
    c.fields_at.result c.args.s.now c.fields_at.ensures.rest c.in_default.ensures.steps
