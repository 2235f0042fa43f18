-- The first covering reserve decides, and where there is none the payout is rejected.
use Rattle.std.proofs.Common.{arith, ◌≡◌, Some, None}
use Rattle.std.proofs.lemmas.Result.{err_from_is_err_and}
use Rattle.matching.specs.declared.answer.Reason.TheVariants.{NoReserve}
use Rattle.matching.proofs.Answering.{reserve-none, reserve-covers}
use Rattle.matching.proofs.answer.Pass.by_reserve.Goals as goal

pub returns-in_err-index-clause-answers : goal.returns-in_err-index-clause-answers
returns-in_err-index-clause-answers c =
    let p = err_from_is_err_and c.from_residual.result c.from_residual.ensures.1 in
    let none : c.reserve_bounding_payout-reserve.result ≡ None = grind arith in
    let why : c.in_err-index.field-0.0 ≡ NoReserve = grind arith in
    rw (p.1, p.2, why) (search reserve-none)

pub returns-clause-answers : goal.returns-clause-answers
returns-clause-answers c =
    let some : c.reserve_bounding_payout-reserve.result ≡ Some c.in_ok-index.index = grind arith in
    search reserve-covers
