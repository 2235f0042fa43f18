-- The names are those of the fields that pass both filters.
use Rattle.std.proofs.Common.{rules, eqb, ap, ◌∙◌}
use Rattle.std.proofs.lemmas.Iterator.Search.{any_from_yields_List}
use Rattle.std.proofs.lemmas.Iterator.Consumers.{YieldsList-from_filter, YieldsList-at}
use Rattle.laws.specs.Texts.{same_bytes}
use Rattle.tags.specs.Tag.{Parameter}
use Rattle.fields.specs.Field.{fields, tag}
use Rattle.fields.proofs.InARow.{along-row}
use Rattle.model.specs.Model.{name_of}
use Rattle.walking.specs.Walking.{is_asset_parameter}
use Rattle.walking.proofs.Assets.{any-asset}
use Rattle.walking.proofs.parameters.has_asset_parameter.Goals as goal

pub returns : goal.returns
returns c =
    any_from_yields_List (λ f. same_bytes c.args.name.now (name_of f)) c.any.new.self _ c.any.result c.any.ensures.ran
    (YieldsList-from_filter _ is_asset_parameter
    (YieldsList-at c.filter-2.ensures.source
    (YieldsList-from_filter _ (λ f. eqb (tag f) Parameter) (YieldsList-at c.filter.ensures.source (along-row _)) c.filter.ensures.closure
    (λ x b q k. search rules)))
    c.filter-2.ensures.closure (λ x b q k. search rules))
    (λ x b q k. search rules)
    ∙ any-asset c.args.s.now c.args.name.now c.fields_at.result.rest.now (ap fields c.fields_at.ensures.rest ∙ c.parts_of.ensures.reads)
