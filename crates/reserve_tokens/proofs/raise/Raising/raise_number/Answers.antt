-- For `p.amount` the guard decides, for any other raise the first debit of the amount.
use Rattle.reserve_tokens.proofs.Raised.{assets-here, raise-comes-in, raise-debited}
use Rattle.reserve_tokens.proofs.raise.Raising.raise_number.Goals as goal

pub is_listed_inflow-requires : goal.is_listed_inflow-requires
is_listed_inflow-requires c = search assets-here

pub returns-then-is_listed_inflow : goal.returns-then-is_listed_inflow
returns-then-is_listed_inflow c = search (raise-comes-in c.args.self.now)

pub returns : goal.returns
returns c = search (raise-debited c.args.self.now)
