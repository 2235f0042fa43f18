-- A condition that names no token has the number 0.
use Rattle.tokens.proofs.Numbers.{number-none, number-some}
use Rattle.tokens.proofs.number.condition_number.Goals as goal

pub returns-then-token_at-eq0 : goal.returns-then-token_at-eq0
returns-then-token_at-eq0 c = search number-none

pub returns : goal.returns
returns c = search number-some
