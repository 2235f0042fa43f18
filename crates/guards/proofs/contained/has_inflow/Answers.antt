-- The table has all members of the amount, and one of them decides where one is `p.amount`.
use Rattle.std.proofs.Common.{rules, drop, ◌∙◌}
use Rattle.std.proofs.lemmas.Iterator.{YieldsList-from_slice}
use Rattle.std.proofs.lemmas.Iterator.Search.{any_from_yields_List}
use Rattle.fields.specs.Field.{front}
use Rattle.tokens.specs.Tokens.{is_inflow}
use Rattle.guards.proofs.Members.{members-any}
use Rattle.guards.proofs.contained.has_inflow.Goals as goal

pub returns : goal.returns
returns c =
    any_from_yields_List (λ n. is_inflow (front c.args.entry.now) (front (drop n c.args.amount.now))) c.any.new.self _ c.any.result c.any.ensures.ran
    (YieldsList-from_slice c.args.members.now (search rules)) (λ x b q k. search rules)
    ∙ members-any (front c.args.entry.now) c.args.amount.now c.args.members.now c.requires.members
