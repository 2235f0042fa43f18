-- An unknown token differs from none.
use Rattle.tokens.proofs.Agreeing.{first-unknown, second-unknown, both-known}
use Rattle.tokens.proofs.set.tokens_differ.Goals as goal

pub returns-then-a-eq0 : goal.returns-then-a-eq0
returns-then-a-eq0 c = search first-unknown

pub returns-then-b-eq0 : goal.returns-then-b-eq0
returns-then-b-eq0 c = search second-unknown

pub returns : goal.returns
returns c = search both-known
