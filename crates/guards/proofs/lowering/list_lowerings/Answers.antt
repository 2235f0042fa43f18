-- Whoever lists what is left of the entry's parts has listed all.
use Rattle.std.proofs.Common.{◌∙◌}
use Rattle.fields.specs.Field.{front}
use Rattle.fields.proofs.Gathering.{gathering-on, gathering-done}
use Rattle.guards.proofs.Lowerings.{lowerings, no-entry, parts-listed}
use Rattle.guards.proofs.lowering.list_lowerings.Goals as goal

pub loop-part-preserved : goal.loop-part-preserved
loop-part-preserved c =
    gathering-on (lowerings (front c.args.amount.now)) _ _ _ _ c.loop-part.invariant _ _ c.in-Some-part.ensures.steps _ c.list_lowering.ensures

pub returns-in-None-clause-listed : goal.returns-in-None-clause-listed
returns-in-None-clause-listed c =
    parts-listed (front c.args.amount.now) c.args.file.now c.args.place c.fields_at.result (c.fields_at.ensures.rest ∙ c.skip.ensures)
    c.args.table.now c.empty_table-lowerings.result c.empty_table-lowerings.ensures.items c.empty_table-lowerings.ensures.none
    c.fields_at.ensures.place _ _ c.in-Some.ensures.steps _ _ c.into_iter-part-iterator.ensures.into_iter_gives c.parts-part-items.ensures.place
    c.parts-part-items.ensures.reads c.loop-part.lowerings
    (gathering-done (lowerings (front c.args.amount.now)) _ _ _ _ c.loop-part.invariant c.in-None.ensures.steps)

pub returns-in_default-clause-listed : goal.returns-in_default-clause-listed
returns-in_default-clause-listed c =
    no-entry (front c.args.amount.now) c.args.file.now c.args.place c.fields_at.result (c.fields_at.ensures.rest ∙ c.skip.ensures)
    c.args.table.now c.empty_table-lowerings.result c.empty_table-lowerings.ensures.items c.empty_table-lowerings.ensures.none c.in_default.ensures.steps
