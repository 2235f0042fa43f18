-- The first field of the row that has the name is counted among those of its tag.
use Rattle.std.proofs.Common.{◌≡◌, filter, eqb, arith, rules, inl}
use Rattle.std.proofs.lemmas.Iterator.Search.{position_from_yields_List}
use Rattle.std.proofs.lemmas.Iterator.Consumers.{YieldsList-from_filter, YieldsList-at}
use Rattle.laws.specs.Texts.{same_bytes}
use Rattle.tags.specs.Tag.{State}
use Rattle.fields.specs.Field.{fields, row, tag}
use Rattle.fields.proofs.InARow.{along-row}
use Rattle.model.specs.Model.{name_of}
use Rattle.reserves.proofs.Placing.{first, few-left, number-counted, number-within}
use Rattle.reserves.proofs.state.state_number.Goals as goal

pub position-requires-clause-fits : goal.position-requires-clause-fits
position-requires-clause-fits c = inl (omega (arith, few-left c.filter.result.iter))

-- what the chain finds
asked : (c : goal.After-position) → c.position.result
    ≡ first name_of (same_bytes c.args.name.now) (filter (λ f. eqb (tag f) State) (row (fields c.fields_at.result.rest.now)))
asked c =
    position_from_yields_List (λ f. same_bytes c.args.name.now (name_of f)) c.position.new.self _ c.position.result c.position.ensures.ran
    (YieldsList-from_filter _ (λ f. eqb (tag f) State) (YieldsList-at c.filter.ensures.source (along-row _)) c.filter.ensures.closure (λ x b q k. search rules))
    (λ x b q k. search rules)

pub returns-clause-counted : goal.returns-clause-counted
returns-clause-counted c = number-counted c.args.file.now c.args.name.now _ c.fields_at.ensures.rest _ (asked c)

pub returns-clause-within : goal.returns-clause-within
returns-clause-within c = number-within c.args.file.now c.args.name.now _ c.fields_at.ensures.rest _ (asked c)
