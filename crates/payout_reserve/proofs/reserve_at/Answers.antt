-- All calls are in the table.
use Rattle.std.proofs.Common.{rules}
use Rattle.payout_reserve.proofs.Reserving.{all-calls}
use Rattle.payout_reserve.proofs.reserve_at.Goals as goal

pub reserve_among-requires : goal.reserve_among-requires
reserve_among-requires c = search (all-calls, rules)
