-- The fields of that tag are asked one by one.
use Rattle.std.proofs.Common.{rules, tests, ◌∙◌}
use Rattle.std.proofs.lemmas.Iterator.Search.{all_from_yields_List}
use Rattle.std.proofs.lemmas.Iterator.Consumers.{YieldsList-from_filter, YieldsList-at}
use Rattle.tags.specs.Tag.{State, between}
use Rattle.tags.proofs.Ranges.{between-one}
use Rattle.fields.specs.Field.{fields_from, tag}
use Rattle.fields.proofs.InARow.{along-row}
use Rattle.raises.specs.Raising.{default_passes}
use Rattle.raises.proofs.Zeros.{defaults-all}
use Rattle.raises.proofs.zero.default_is_zero.Goals as goal

pub returns : goal.returns
unfolding fields_from
returns c =
    all_from_yields_List (default_passes c.args.name.now) _ _ _ c.all.ensures.ran
    (YieldsList-from_filter _ (λ f. between State State (tag f)) (YieldsList-at c.filter.ensures.source (along-row _)) c.filter.ensures.closure (λ x b q k. search (rules, tests, between-one)))
    (λ x b q k. search (rules, tests))
    ∙ defaults-all _ _ _ c.fields_at.ensures.rest
