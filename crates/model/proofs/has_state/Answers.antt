-- The names are those of the fields that pass the filter.
use Rattle.std.proofs.Common.{rules, eqb, ◌∙◌, sym}
use Rattle.std.proofs.lemmas.Iterator.Search.{any_from_yields_List}
use Rattle.std.proofs.lemmas.Iterator.Consumers.{YieldsList-from_filter, YieldsList-at}
use Rattle.laws.specs.Texts.{same_bytes}
use Rattle.laws.proofs.Lists.{any-map}
use Rattle.tags.specs.Tag.{State}
use Rattle.fields.specs.Field.{tag, fields_from}
use Rattle.fields.proofs.InARow.{along-row}
use Rattle.tags.proofs.Ranges.{between-one}
use Rattle.model.specs.Model.{name_of, state_names}
use Rattle.model.proofs.has_state.Goals as goal

pub returns : goal.returns
unfolding state_names fields_from
returns c =
    any_from_yields_List (λ f. same_bytes c.args.name.now (name_of f)) c.any.new.self _ c.any.result c.any.ensures.ran
    (YieldsList-from_filter _ (λ f. eqb (tag f) State) (YieldsList-at c.filter.ensures.source (along-row _)) c.filter.ensures.closure (λ x b q k. search rules))
    (λ x b q k. search rules)
    ∙ rw c.fields_at.ensures.rest (sym (any-map name_of (same_bytes c.args.name.now) _) ∙ simp between-one)
