-- A number below 2 stands for no token, and any other for what the comparison at its place names.
use Rattle.std.proofs.Common.{refl}
use Rattle.tokens.proofs.Joining.{token-none, token-there}
use Rattle.tokens.proofs.Shown.{token-shows}
use Rattle.tokens.proofs.number.token_of.Goals as goal

pub returns-then-number-lt2-clause-reads : goal.returns-then-number-lt2-clause-reads
returns-then-number-lt2-clause-reads c = search token-none

pub returns-clause-reads : goal.returns-clause-reads
returns-clause-reads c = search token-there

pub returns-clause-shows : goal.returns-clause-shows
returns-clause-shows c = token-shows _ _ _ (search token-there) _ refl
