-- The number found so far and those of the guards ahead have the only one; a second leaves none.
use Rattle.std.proofs.Common.{◌∙◌}
use Rattle.reserve_tokens.proofs.Guarding.{no-entry, guarding-all, guarding-past, guarding-second, guarding-on, guarding-end}
use Rattle.reserve_tokens.proofs.guard.only_guard_number.Goals as goal

pub loop-part-init : goal.loop-part-init
loop-part-init c =
    guarding-all _ _ _ (c.fields_at.ensures.rest ∙ c.skip.ensures) c.fields_at.ensures.place _ _ c.in-Some.ensures.steps _ _
    c.into_iter-part-iterator.ensures.into_iter_gives c.parts-part-items.ensures.reads c.parts-part-items.ensures.place

pub returns-in_default : goal.returns-in_default
returns-in_default c = no-entry _ _ c.fields_at.result (c.fields_at.ensures.rest ∙ c.skip.ensures) c.in_default.ensures.steps

pub loop-part-preserved-then-tag-ne-GUARD : goal.loop-part-preserved-then-tag-ne-GUARD
loop-part-preserved-then-tag-ne-GUARD c =
    guarding-past _ _ _ _ c.loop-part.invariant _ _ c.in-Some-part.ensures.steps _ c.tag.ensures c.if-tag-ne-GUARD.true

pub returns-then-found-number : goal.returns-then-found-number
returns-then-found-number c =
    guarding-second _ _ _ _ c.loop-part.invariant _ _ c.in-Some-part.ensures.steps _ c.tag.ensures c.if-tag-ne-GUARD.false _ c.guard_number-number.ensures
    c.if-found-number.true

pub loop-part-preserved : goal.loop-part-preserved
loop-part-preserved c =
    guarding-on _ _ _ _ c.loop-part.invariant _ _ c.in-Some-part.ensures.steps _ c.tag.ensures c.if-tag-ne-GUARD.false _ c.guard_number-number.ensures
    c.if-found-number.false _ c.join-found.ensures

pub returns : goal.returns
returns c = guarding-end _ _ _ _ c.loop-part.invariant c.in-None.ensures.steps
