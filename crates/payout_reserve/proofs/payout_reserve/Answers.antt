-- Questions 1 to 8, and then the entry.
use Rattle.std.proofs.Common.{arith, ◌≡◌, Ok, Err}
use Rattle.std.proofs.lemmas.Result.{err_from_is_err_and}
use Rattle.claim.proofs.Fitting.{answered-short}
use Rattle.payout_reserve.proofs.Asking.{file-passed, file-refused}
use Rattle.payout_reserve.proofs.payout_reserve.Goals as goal

pub returns-in_err-check_file : goal.returns-in_err-check_file
returns-in_err-check_file c =
    let p = err_from_is_err_and c.from_residual.result c.from_residual.ensures.1 in
    let was : c.check_file.result ≡ Err c.in_err-check_file.field-0.0 = grind arith in
    rw (p.1, p.2) (search file-refused)

pub entry_reserve-requires : goal.entry_reserve-requires
entry_reserve-requires c =
    let passed : c.check_file.result ≡ Ok tt = grind arith in
    search answered-short

pub returns : goal.returns
returns c =
    let passed : c.check_file.result ≡ Ok tt = grind arith in
    search file-passed
