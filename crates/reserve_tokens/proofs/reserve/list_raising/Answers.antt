-- The lent table has room for all calls of the entry.
use Rattle.std.proofs.Common.{rules}
use Rattle.walking.proofs.Assets.{assets-listed}
use Rattle.fundings.proofs.Calls.{room-lent, calls-front}
use Rattle.reserve_tokens.proofs.reserve.list_raising.Goals as goal

pub invariant_of-result-clause-called : goal.invariant_of-result-clause-called
invariant_of-result-clause-called c =
    rw (c.into_view.ensures.items, c.into_view.ensures.count)
    (calls-front _ _ _ _ _ c.list_body.ensures.listed (room-lent _ _ _ _ _ c.list_body.ensures.listed (search rules)))

pub invariant_of-result-clause-listed : goal.invariant_of-result-clause-listed
invariant_of-result-clause-listed c = search assets-listed
