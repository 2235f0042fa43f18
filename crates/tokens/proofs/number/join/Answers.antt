-- An empty set adds nothing, the same token neither, and two that differ leave 1.
use Rattle.tokens.proofs.Joining.{joined-empty, joined-first, joined-equal, joined_same, joined-differ}
use Rattle.std.proofs.Common.{rules}
use Rattle.tokens.proofs.number.join.Goals as goal

pub returns-then-b-eq0 : goal.returns-then-b-eq0
returns-then-b-eq0 c = search joined-empty

pub returns-then-a-eq0 : goal.returns-then-a-eq0
returns-then-a-eq0 c = search joined-first

pub returns-then-a-b : goal.returns-then-a-b
returns-then-a-b c = search joined-equal

pub returns-then-same_token : goal.returns-then-same_token
returns-then-same_token c = joined_same _ _ _ (search rules) (search rules) _ c.same_token.ensures c.if-same_token.true

pub returns : goal.returns
returns c = joined-differ _ _ _ (search rules) (search rules) _ c.same_token.ensures c.if-same_token.false
