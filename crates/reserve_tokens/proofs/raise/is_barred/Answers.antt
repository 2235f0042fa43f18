-- The number found so far bars the field only where it stands for no token, and of any other the two tokens decide.
use Rattle.reserve_tokens.proofs.Held.{same_number, unknown-bars, number-bars}
use Rattle.reserve_tokens.proofs.raise.is_barred.Goals as goal

pub returns-then-number-found : goal.returns-then-number-found
returns-then-number-found c = search same_number

pub returns-then-token-eq0 : goal.returns-then-token-eq0
returns-then-token-eq0 c = search unknown-bars

pub returns : goal.returns
returns c = search number-bars
