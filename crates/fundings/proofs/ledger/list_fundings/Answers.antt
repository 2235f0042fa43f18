-- The set that each map has so far, with what the entries ahead name that fund it, is the set of all.
use Rattle.fundings.proofs.Entries.{entries-all, entries-past, entries-inside, entries-on, entries-done}
use Rattle.fundings.proofs.ledger.list_fundings.Goals as goal

pub loop-field-init : goal.loop-field-init
loop-field-init c =
    entries-all _ _ _ c.into_iter-field-iterator.ensures.into_iter_gives c.fields_at-field-items.ensures.rest c.fields_at-field-items.ensures.place
    _ c.clear.ensures

pub loop-field-preserved-then-tag-ne-ENTRY : goal.loop-field-preserved-then-tag-ne-ENTRY
loop-field-preserved-then-tag-ne-ENTRY c =
    entries-past _ _ _ c.loop-field.invariant _ _ c.in-Some.ensures.steps _ c.tag.ensures c.if-tag-ne-ENTRY.true

pub entry_at-entry-requires-clause-within : goal.entry_at-entry-requires-clause-within
entry_at-entry-requires-clause-within c = entries-inside _ _ _ c.loop-field.invariant _ _ c.in-Some.ensures.steps

pub loop-field-preserved : goal.loop-field-preserved
loop-field-preserved c =
    entries-on _ _ _ c.loop-field.invariant _ _ c.in-Some.ensures.steps _ c.tag.ensures c.if-tag-ne-ENTRY.false c.list_entry.new.maps.items
    (rw (c.entry_at-entry.ensures.file, c.entry_at-entry.ensures.place) at c.in_ok-list_entry.ensures)

pub returns : goal.returns
returns c = entries-done _ _ _ c.loop-field.invariant c.in-None.ensures.steps
