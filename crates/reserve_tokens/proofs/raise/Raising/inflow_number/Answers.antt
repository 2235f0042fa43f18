-- A raise whose amount a call credits too has no token; else the number of the guard's token stands.
use Rattle.reserve_tokens.proofs.Raised.{credited-too, not-credited}
use Rattle.reserve_tokens.proofs.raise.Raising.inflow_number.Goals as goal

pub returns-then-is_credited : goal.returns-then-is_credited
returns-then-is_credited c = search (credited-too c.args.self.now)

pub returns : goal.returns
returns c = search (not-credited c.args.self.now)
