-- An entry that sets and adds to nothing changes no number.
use Rattle.std.proofs.Common.{rules, tests}
use Rattle.std.proofs.lemmas.Iterator.Search.{any_from_yields_List}
use Rattle.tags.specs.Tag.{Set, AddTo, between}
use Rattle.fields.specs.Field.{tag}
use Rattle.fields.proofs.InARow.{along-row}
use Rattle.reserve_tokens.proofs.Replacing.{each-passed-over, nothing-assigned}
use Rattle.reserve_tokens.proofs.reserve.after_entry_of_each.Goals as goal

pub returns-else-any : goal.returns-else-any
returns-else-any c =
    let asked = any_from_yields_List (λ f. between Set AddTo (tag f)) _ _ _ c.any.ensures.ran (along-row _) (λ x b q k. search (rules, tests)) in
    each-passed-over c.args.facts.now.file.now c.args.places.now c.args.numbers.now c.requires.before c.args.place
    (nothing-assigned c.args.facts.now.file.now c.args.place _ c.skip.ensures _ c.parts_of.ensures.reads _ c.fields_at-statements.ensures.rest _ asked c.if-any.false)
