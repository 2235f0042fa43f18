-- The ninth question, or the reserve of the payout.
use Rattle.std.proofs.Common.{arith, ◌≡◌, Ok, Err}
use Rattle.std.proofs.lemmas.Result.{err_from_is_err_and}
use Rattle.payout_reserve.proofs.Asking.{entry-nowhere, entry-answered}
use Rattle.payout_reserve.proofs.entry_reserve.Goals as goal

pub returns-in_err-place : goal.returns-in_err-place
returns-in_err-place c =
    let p = err_from_is_err_and c.from_residual.result c.from_residual.ensures.1 in
    let was : c.place_or_refusal.result ≡ Err c.in_err-place.field-0.0 = grind arith in
    rw (p.1, p.2) (search entry-nowhere)

pub returns : goal.returns
returns c =
    let found : c.place_or_refusal.result ≡ Ok c.in_ok-place.place = grind arith in
    search entry-answered
