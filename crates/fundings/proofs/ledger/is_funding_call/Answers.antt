-- The first of the two tests that fails decides, and the last where none does.
use Rattle.fundings.proofs.Calls.{no-credit, by-amount}
use Rattle.fundings.proofs.ledger.is_funding_call.Goals as goal

pub returns-then-not-is_credit : goal.returns-then-not-is_credit
returns-then-not-is_credit c = rw (← c.skip-s.ensures) (search no-credit)

pub returns : goal.returns
returns c =
    let asked = rw c.part.ensures at c.is_listed_inflow.ensures in
    rw (← c.skip-s.ensures) (search by-amount)
