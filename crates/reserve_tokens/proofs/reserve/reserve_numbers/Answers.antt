-- Field by field, of each state field the number agreed on so far and those of the entries ahead agree on that of all.
use Rattle.fields.proofs.EndOf.{end-all, end-behind}
use Rattle.reserve_tokens.proofs.Replacing.{each-ahead_all, each-found, each-ahead_past, each-ahead_on, each-ahead_end}
use Rattle.reserve_tokens.proofs.reserve.reserve_numbers.Goals as goal

pub loop-field-init : goal.loop-field-init
loop-field-init c = (
  end-all _ _ _ c.into_iter-field-iterator.ensures.into_iter_gives c.fields_at-field-items.ensures.rest c.fields_at-field-items.ensures.place,
  each-ahead_all _ _ c.requires.few _ _ c.into_iter-field-iterator.ensures.into_iter_gives c.fields_at-field-items.ensures.rest
      c.fields_at-field-items.ensures.place,
)

pub loop-field-preserved-then-tag-ne-ENTRY : goal.loop-field-preserved-then-tag-ne-ENTRY
loop-field-preserved-then-tag-ne-ENTRY c = (
  end-behind _ _ c.loop-field.invariant.0 _ _ c.in-Some.ensures.steps,
  each-ahead_past _ _ _ _ c.loop-field.invariant.1 c.loop-field.invariant.0 _ _ c.in-Some.ensures.steps _ c.tag.ensures c.if-tag-ne-ENTRY.true,
)

pub after_entry_of_each-requires-clause-before : goal.after_entry_of_each-requires-clause-before
after_entry_of_each-requires-clause-before c = each-found _ _ _ _ c.loop-field.invariant.1

pub loop-field-preserved : goal.loop-field-preserved
loop-field-preserved c = (
  end-behind _ _ c.loop-field.invariant.0 _ _ c.in-Some.ensures.steps,
  each-ahead_on _ _ _ _ c.loop-field.invariant.1 c.loop-field.invariant.0 _ _ c.in-Some.ensures.steps _ c.tag.ensures c.if-tag-ne-ENTRY.false _
      c.after_entry_of_each.ensures,
)

pub start_each-requires : goal.start_each-requires
start_each-requires c = each-ahead_end _ _ _ _ c.loop-field.invariant.1 c.in-None.ensures.steps
