-- Field by field, the set found so far and what the entries ahead name have the set of all; two that differ stay so.
use Rattle.fundings.proofs.Funders.{ledger-all, ledger-past, ledger-inside, ledger-several, ledger-on, ledger-done}
use Rattle.fundings.proofs.Shown.{funding-small}
use Rattle.fundings.proofs.token.ledger_funding_number.Goals as goal

pub loop-field-init : goal.loop-field-init
loop-field-init c =
    ledger-all _ _ _ _ c.into_iter-field-iterator.ensures.into_iter_gives c.fields_at-field-items.ensures.rest c.fields_at-field-items.ensures.place

pub loop-field-preserved-then-tag-ne-ENTRY : goal.loop-field-preserved-then-tag-ne-ENTRY
loop-field-preserved-then-tag-ne-ENTRY c =
    ledger-past _ _ _ _ c.loop-field.invariant _ _ c.in-Some.ensures.steps _ c.tag.ensures c.if-tag-ne-ENTRY.true

pub entry_at-requires-clause-within : goal.entry_at-requires-clause-within
entry_at-requires-clause-within c = ledger-inside _ _ _ _ c.loop-field.invariant _ _ c.in-Some.ensures.steps

pub returns-then-found-eq1-clause-reads : goal.returns-then-found-eq1-clause-reads
returns-then-found-eq1-clause-reads c =
    ledger-several _ _ _ _ c.loop-field.invariant _ _ c.in-Some.ensures.steps _ c.tag.ensures c.if-tag-ne-ENTRY.false _
    (rw (c.entry_at.ensures.file, c.entry_at.ensures.place) at c.joined_with-found.ensures) c.if-found-eq1.true

pub loop-field-preserved : goal.loop-field-preserved
loop-field-preserved c =
    ledger-on _ _ _ _ c.loop-field.invariant _ _ c.in-Some.ensures.steps _ c.tag.ensures c.if-tag-ne-ENTRY.false _
    (rw (c.entry_at.ensures.file, c.entry_at.ensures.place) at c.joined_with-found.ensures)

pub returns-clause-reads : goal.returns-clause-reads
returns-clause-reads c = ledger-done _ _ _ _ c.loop-field.invariant c.in-None.ensures.steps

pub returns-clause-small : goal.returns-clause-small
returns-clause-small c =
    funding-small c.args.file.now c.args.map.now c.requires _ (ledger-done _ _ _ _ c.loop-field.invariant c.in-None.ensures.steps)
