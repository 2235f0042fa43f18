-- The answer is the definition's with the marks that the code's stand for, and what it takes away is what the definition takes.
use Rattle.std.proofs.Common.{arith, ◌≡◌, Ok, Err}
use Rattle.std.proofs.lemmas.Result.{err_from_is_err_and}
use Rattle.matching.proofs.Whole.{covered-all, rejected-all, uses-few}
use Rattle.matching.proofs.answer.Pass.answer_payout.Goals as goal

pub returns-in_err-cover-clause-answers : goal.returns-in_err-cover-clause-answers
returns-in_err-cover-clause-answers c =
    let p = err_from_is_err_and c.from_residual.result c.from_residual.ensures.1 in
    let was : c.cover_payout.result ≡ Err c.in_err-cover.field-0.0 = grind arith in
    rw (p.1, p.2) (search rejected-all)

pub returns-clause-answers : goal.returns-clause-answers
returns-clause-answers c =
    let was : c.cover_payout.result ≡ Ok c.in_ok-cover.cover = grind arith in
    search covered-all

pub returns-clause-uses : goal.returns-clause-uses
returns-clause-uses c = search uses-few
