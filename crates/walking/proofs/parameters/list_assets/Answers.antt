-- Whoever lists the asset parameters that are left has listed all.
use Rattle.fields.proofs.Gathering.{gathering-all, gathering-room, gathering-ends, gathering-on, gathering-done, note-room}
use Rattle.walking.proofs.Assets.{assets, entry-listed, place-small, room-left}
use Rattle.walking.proofs.parameters.list_assets.Goals as goal

pub loop-field-init : goal.loop-field-init
loop-field-init c =
    gathering-all _ _ _
    (room-left _ _ c.into_iter-field-iterator.ensures.into_iter_gives _ c.args.s.now c.fields_at-field-items.ensures.rest c.fields_at-field-items.ensures.place
    _ c.parts_of.ensures.shows c.requires _ c.empty_table-assets.ensures.none)

pub list_asset-requires-clause-place : goal.list_asset-requires-clause-place
list_asset-requires-clause-place c =
    place-small _ _ c.into_iter-field-iterator.ensures.into_iter_gives _ c.args.s.now c.fields_at-field-items.ensures.rest c.fields_at-field-items.ensures.place
    _ c.parts_of.ensures.shows c.requires c.in-Some.field (gathering-ends assets _ _ _ _ c.loop-field.invariant _ _ c.in-Some.ensures.steps)

pub list_asset-requires-clause-room : goal.list_asset-requires-clause-room
list_asset-requires-clause-room c =
    note-room c.in-Some.field c.loop-field.assets (gathering-room assets _ _ _ _ c.loop-field.invariant _ _ c.in-Some.ensures.steps)

pub loop-field-preserved : goal.loop-field-preserved
loop-field-preserved c = gathering-on assets _ _ _ _ c.loop-field.invariant _ _ c.in-Some.ensures.steps _ c.list_asset.ensures

pub returns-clause-listed : goal.returns-clause-listed
returns-clause-listed c =
    entry-listed _ _ c.into_iter-field-iterator.ensures.into_iter_gives _ c.args.s.now c.fields_at-field-items.ensures.rest c.fields_at-field-items.ensures.place
    _ c.parts_of.ensures.shows c.requires c.parts_of.ensures.reads c.args.table.now c.empty_table-assets.result c.loop-field.assets
    c.empty_table-assets.ensures.items c.empty_table-assets.ensures.none (gathering-done assets _ _ _ _ c.loop-field.invariant c.in-None.ensures.steps)
