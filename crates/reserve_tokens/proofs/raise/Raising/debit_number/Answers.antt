-- The map of the first debit decides, and without a debit there is none.
use Rattle.reserve_tokens.proofs.Raised.{no-debit, debit-there}
use Rattle.reserve_tokens.proofs.raise.Raising.debit_number.Goals as goal

pub returns-in-Some : goal.returns-in-Some
returns-in-Some c = search (debit-there c.args.self.now)

pub returns-in-None : goal.returns-in-None
returns-in-None c = search (no-debit c.args.self.now)
