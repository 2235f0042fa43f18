-- Whoever lists the asset parameters that are left has listed all.
use Rattle.fields.proofs.Gathering.{gathering-on, gathering-done}
use Rattle.entries.proofs.Naming.{parameters, parameters-listed}
use Rattle.entries.proofs.calls.list_parameters.Goals as goal

pub loop-field-preserved : goal.loop-field-preserved
loop-field-preserved c = gathering-on parameters _ _ _ _ c.loop-field.invariant _ _ c.in-Some.ensures.steps _ c.list_parameter.ensures

pub returns : goal.returns
returns c =
    parameters-listed _ _ c.into_iter-field-iterator.ensures.into_iter_gives _ _ _ _ c.requires _ c.skip.ensures _ c.parts_of.ensures.shows
    c.fields_at-field-items.ensures.rest c.fields_at-field-items.ensures.place c.parts_of.ensures.reads c.args.places.now c.loop-field.places
    (gathering-done parameters _ _ _ _ c.loop-field.invariant c.in-None.ensures.steps)
