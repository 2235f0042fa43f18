-- The chain gives those of the row that pass the filter.
use Rattle.std.proofs.Common.{rules}
use Rattle.std.proofs.lemmas.Iterator.Consumers.{nth_from_yields_List, YieldsList-from_filter, YieldsList-at}
use Rattle.tags.specs.Tag.{between}
use Rattle.fields.specs.Field.{tag}
use Rattle.fields.proofs.InARow.{along-placed, along-reaching}
use Rattle.model.proofs.Accessors.{nth-reach}
use Rattle.model.proofs.nth_from.Goals as goal

pub returns-clause-found : goal.returns-clause-found
returns-clause-found c =
    nth_from_yields_List c.nth.result c.nth.new.self c.args.n c.nth.ensures.ran
    (YieldsList-from_filter _ (λ p. between c.args.low c.args.high (tag p.this)) (YieldsList-at c.filter.ensures.source (along-placed _)) c.filter.ensures.closure (λ x b q k. search rules))

pub returns-clause-reach : goal.returns-clause-reach
returns-clause-reach c =
    nth-reach c.args.row (λ p. between c.args.low c.args.high (tag p.this)) c.args.n c.nth.result
    (nth_from_yields_List c.nth.result c.nth.new.self c.args.n c.nth.ensures.ran
    (YieldsList-from_filter _ (λ q. between c.args.low c.args.high (tag q.0.this)) (YieldsList-at c.filter.ensures.source (along-reaching _)) c.filter.ensures.closure (λ x b q k. search rules)))
