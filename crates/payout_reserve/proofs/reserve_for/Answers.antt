-- The payout stands alone in a table, and nothing is known yet.
use Rattle.reserves.proofs.Remembering.{facts-none}
use Rattle.payout_reserve.proofs.Reserving.{alone-asked}
use Rattle.payout_reserve.proofs.reserve_for.Goals as goal

pub new-requires-clause-right : goal.new-requires-clause-right
new-requires-clause-right c = search facts-none

pub returns : goal.returns
returns c = alone-asked _ _ _ _ (rw (c.new.ensures.same_file, c.nothing_known-facts.ensures.file c.requires) at c.reserve_bounding_payout.ensures.found)
