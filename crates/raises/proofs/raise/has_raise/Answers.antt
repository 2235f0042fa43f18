-- The parts of the entry are asked one by one, and only statements raise.
use Rattle.std.proofs.Common.{rules, tests, ◌∙◌}
use Rattle.std.proofs.lemmas.Iterator.Search.{any_from_yields_List}
use Rattle.fields.proofs.InARow.{along-row}
use Rattle.raises.specs.Raising.{is_raise}
use Rattle.raises.proofs.Statements.{any-raise}
use Rattle.raises.proofs.raise.has_raise.Goals as goal

pub returns : goal.returns
returns c =
    any_from_yields_List (is_raise c.args.name.now) _ _ _ c.any.ensures.ran (along-row _) (λ x b q k. search (rules, tests)) ∙ any-raise _ _ _ _ c.fields_at.ensures.rest c.parts_of.ensures.reads
