-- The state field that covers a payout by itself: no backing is tried before it, and none is used up.
use Rattle.std.specs.Prelude.{ℕ, List}
use Rattle.std.specs.Prelude.{Option}
use Rattle.fields.specs.Field.{Field, Fields}
use Rattle.walking.specs.Walking.{peel}
use Rattle.guards.specs.Payouts.{payout_token, payout_amount}
use Rattle.reserves.specs.Reserves.{reserve_bounding_payout}
use Rattle.claim.specs.Claim.{payout_at}

-- that of the k-th payout of an entry, counted from 0; a payout that is not there asks for no token, and has none
unfoldable pub payout_reserve : Fields → Field → ℕ → Option (List ℕ)
payout_reserve model entry k =
    let p = payout_at model entry k in
    reserve_bounding_payout model entry (peel (payout_amount p)) (payout_token p)
