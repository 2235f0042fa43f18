-- The k-th payout stands at its place in a table of all.
use Rattle.std.proofs.Common.{rules}
use Rattle.walking.specs.Walking.{is_payout}
use Rattle.payout_reserve.proofs.Reserving.{payout-missing, payout-found}
use Rattle.payout_reserve.proofs.reserve_among.Goals as goal

pub returns-in_err-payout : goal.returns-in_err-payout
returns-in_err-payout c =
    let all = c.list_where-payouts.ensures.listed is_payout (λ s r p. search rules) in
    rw c.from_residual.ensures (payout-missing _ _ _ c.requires _ _ all _ c.listed.ensures _ (search rules))

pub returns : goal.returns
returns c =
    let all = c.list_where-payouts.ensures.listed is_payout (λ s r p. search rules) in
    payout-found _ _ _ c.requires _ _ all _ c.listed.ensures _ (search rules) _ (search rules) _ c.reserve_for.ensures
