-- The number stands for a token of the file, or is 1 for none.
use Rattle.reserve_tokens.proofs.Numbers.{reserve-found}
use Rattle.reserve_tokens.proofs.reserve.reserve_number.Goals as goal

pub returns-clause-some : goal.returns-clause-some
returns-clause-some c = rw c.started.ensures (reserve-found _ c.args.name.now c.args.facts.now.short).some

pub returns-clause-small : goal.returns-clause-small
returns-clause-small c = rw c.started.ensures (reserve-found _ c.args.name.now c.args.facts.now.short).small
