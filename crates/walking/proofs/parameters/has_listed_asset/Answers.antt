-- One that is listed has the name exactly where some asset parameter has it.
use Rattle.std.proofs.Common.{rules, ◌∙◌}
use Rattle.std.proofs.lemmas.Iterator.{YieldsList-from_slice}
use Rattle.std.proofs.lemmas.Iterator.Search.{any_from_yields_List}
use Rattle.walking.specs.Assets.{named_by}
use Rattle.walking.proofs.Assets.{any-listed}
use Rattle.walking.proofs.parameters.has_listed_asset.Goals as goal

pub returns : goal.returns
returns c =
    any_from_yields_List (named_by c.args.s.now c.args.name.now) c.any.new.self _ c.any.result c.any.ensures.ran
    (YieldsList-from_slice c.listed.result.now (search rules)) (λ x b q k. search rules)
    ∙ any-listed c.args.s.now c.args.name.now c.args.assets.now c.requires (search rules) _ c.listed.ensures
