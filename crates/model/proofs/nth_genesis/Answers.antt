-- The genesis fields are selected by their tag, and each holds one statement.
use Rattle.tags.specs.Tag.{Genesis}
use Rattle.model.specs.Model.{genesis}
use Rattle.model.proofs.Accessors.{inner-none, inner-nth, inner-place}
use Rattle.model.proofs.nth_genesis.Goals as goal

pub returns-in_err-nth_from : goal.returns-in_err-nth_from
unfolding genesis
returns-in_err-nth_from c = let w = c.in_err-nth_from.was in rw c.from_residual.ensures (search inner-none)

pub returns-clause-reads : goal.returns-clause-reads
unfolding genesis
returns-clause-reads c = let w = c.in_ok-nth_from.was in search inner-nth

pub returns-clause-place : goal.returns-clause-place
returns-clause-place c =
    inner-place Genesis Genesis c.args.n c.fields_at.result.rest.now c.args.file.now c.fields_at.ensures.rest c.fields_at.result.place
    c.nth_from.result c.nth_from.ensures.found c.fields_at.ensures.place c.in_ok-nth_from.field-0 c.in_ok-nth_from.was
    c.parts.result c.next.new.self c.parts.ensures.place c.next.result c.next.ensures.steps
