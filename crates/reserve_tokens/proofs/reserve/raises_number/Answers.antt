-- Field by field, the number agreed on so far and those of the entries ahead agree on that of all; one that bars the field leaves none.
use Rattle.fields.proofs.EndOf.{end-all, end-behind}
use Rattle.reserve_tokens.proofs.Reserving.{ahead-all, ahead-past, ahead-on, entry-barred, ahead-end}
use Rattle.reserve_tokens.proofs.reserve.raises_number.Goals as goal

pub loop-field-init : goal.loop-field-init
loop-field-init c = (
  end-all _ _ _ c.into_iter-field-iterator.ensures.into_iter_gives c.fields_at-field-items.ensures.rest c.fields_at-field-items.ensures.place,
  ahead-all _ _ _ _ c.into_iter-field-iterator.ensures.into_iter_gives c.fields_at-field-items.ensures.rest c.fields_at-field-items.ensures.place,
)

pub loop-field-preserved-then-tag-ne-ENTRY : goal.loop-field-preserved-then-tag-ne-ENTRY
loop-field-preserved-then-tag-ne-ENTRY c = (
  end-behind _ _ c.loop-field.invariant.0 _ _ c.in-Some.ensures.steps,
  ahead-past _ _ _ _ c.loop-field.invariant.1 c.loop-field.invariant.0 _ _ c.in-Some.ensures.steps _ c.tag.ensures c.if-tag-ne-ENTRY.true,
)

pub returns-then-agreed-eq0 : goal.returns-then-agreed-eq0
returns-then-agreed-eq0 c =
    entry-barred _ _ _ _ c.loop-field.invariant.1 c.loop-field.invariant.0 _ _ c.in-Some.ensures.steps _ c.tag.ensures c.if-tag-ne-ENTRY.false
    _ c.after_entry-agreed.ensures c.if-agreed-eq0.true

pub loop-field-preserved : goal.loop-field-preserved
loop-field-preserved c = (
  end-behind _ _ c.loop-field.invariant.0 _ _ c.in-Some.ensures.steps,
  ahead-on _ _ _ _ c.loop-field.invariant.1 c.loop-field.invariant.0 _ _ c.in-Some.ensures.steps _ c.tag.ensures c.if-tag-ne-ENTRY.false
      _ c.after_entry-agreed.ensures,
)

pub returns : goal.returns
returns c = ahead-end _ _ _ _ c.loop-field.invariant.1 c.in-None.ensures.steps
