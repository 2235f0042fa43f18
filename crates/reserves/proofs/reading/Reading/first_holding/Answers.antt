-- The fields of the numbers that were passed do not hold the token, so those that are left decide.
use Rattle.laws.proofs.Told.{told_is}
use Rattle.reserves.proofs.Same.{same_then}
use Rattle.reserves.proofs.Holders.{holding-end, holding-found, holding-on}
use Rattle.reserves.proofs.reading.Reading.first_holding.Goals as goal

pub returns-then-holds_token-clause-found : goal.returns-then-holds_token-clause-found
returns-then-holds_token-clause-found c = search (holding-found, rw c.loop-listed.invariant.0.file at c.holds_token.ensures.holds, told_is)

pub loop-listed-preserved : goal.loop-listed-preserved
loop-listed-preserved c =
    (same_then _ _ _ c.loop-listed.invariant.0 c.holds_token.ensures.same, search (holding-on, rw c.loop-listed.invariant.0.file at c.holds_token.ensures.holds, told_is))

pub returns-clause-found : goal.returns-clause-found
returns-clause-found c = search holding-end
