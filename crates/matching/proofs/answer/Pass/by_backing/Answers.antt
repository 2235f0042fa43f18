-- What the search finds decides, and where it finds nothing the next step does.
use Rattle.std.proofs.Common.{arith, ◌≡◌, Some, None}
use Rattle.matching.proofs.Answering.{backing-none, backing-conflict, backing-covers}
use Rattle.matching.proofs.answer.Pass.by_backing.Goals as goal

pub returns-in_err-i-clause-answers : goal.returns-in_err-i-clause-answers
returns-in_err-i-clause-answers c =
    let none : c.first_free.result ≡ None = grind arith in
    let left : c.from_residual.result ≡ None = grind arith in
    rw left (search backing-none)

pub returns-then-tokens_conflict-clause-answers : goal.returns-then-tokens_conflict-clause-answers
returns-then-tokens_conflict-clause-answers c =
    let some : c.first_free.result ≡ Some c.in_ok-i.i = grind arith in
    search backing-conflict

pub returns-clause-answers : goal.returns-clause-answers
returns-clause-answers c =
    let some : c.first_free.result ≡ Some c.in_ok-i.i = grind arith in
    search backing-covers
