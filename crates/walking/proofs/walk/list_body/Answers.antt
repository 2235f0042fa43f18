-- The body of an entry is the statements among its parts, which stand behind its head.
use Rattle.std.proofs.Common.{◌∙◌}
use Rattle.walking.proofs.Visits.{nothing-in-body, body-walked}
use Rattle.walking.proofs.walk.list_body.Goals as goal

pub returns-in-Some-clause-listed : goal.returns-in-Some-clause-listed
returns-in-Some-clause-listed c =
    body-walked c.args.tag c.args.table.now c.empty_table-places.result c.empty_table-places.ensures.items c.empty_table-places.ensures.none
    c.fields_at.result c.args.file.now c.args.place (c.fields_at.ensures.rest ∙ c.skip.ensures) c.fields_at.ensures.place _ _ c.in-Some.ensures.steps
    c.parts.result c.parts.ensures.place c.parts.ensures.reads c.visit_statements.new.places c.visit_statements.ensures

pub returns-in_default-clause-listed : goal.returns-in_default-clause-listed
returns-in_default-clause-listed c =
    nothing-in-body c.args.tag c.args.table.now c.empty_table-places.result c.empty_table-places.ensures.items c.empty_table-places.ensures.none
    c.fields_at.result c.args.file.now c.args.place (c.fields_at.ensures.rest ∙ c.skip.ensures) c.in_default.ensures.steps
