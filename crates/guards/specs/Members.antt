-- The members in an amount: only they can be an asset parameter's `p.amount`.
use Rattle.std.specs.Prelude.{Bool, List, eqb}
use Rattle.laws.specs.Lists.{any, filter}
use Rattle.tags.specs.Tag.{Member}
use Rattle.fields.specs.Field.{Field, tag}
use Rattle.walking.specs.Walking.{walk, without_places}
use Rattle.tokens.specs.Tokens.{is_inflow}

-- in walk order
unfoldable pub members_in : Field → List Field
members_in amount = filter (λ f. eqb (tag f) Member) (without_places (walk 0 amount))

-- one of them is `p.amount`, p an asset parameter of the entry
unfoldable pub member_inflow : Field → Field → Bool
member_inflow entry amount = any (is_inflow entry) (members_in amount)
