-- Payout by payout: those before the k-th have their covers.
use Rattle.std.proofs.Common.{rules, arith, ◌≡◌, Ok, Err}
use Rattle.std.proofs.lemmas.Result.{err_from_is_err_and}
use Rattle.reserves.proofs.Same.{same_then}
use Rattle.verdict.specs.declared.entry.Objection.TheVariants.{Rejected}
use Rattle.verdict.proofs.Running.{objected, running_none, rejected-told, rejected-unwritten, running-on, done-told, done-written}
use Rattle.verdict.proofs.entry.match_payouts.Goals as goal

pub loop-k-init : goal.loop-k-init
loop-k-init c = search running_none

pub returns-in_err-cover-clause-answer : goal.returns-in_err-cover-clause-answer
returns-in_err-cover-clause-answer c =
    let p = err_from_is_err_and c.from_residual.result c.from_residual.ensures.1 in
    let was : c.map_err.result ≡ Err c.in_err-cover.field-0.0 = grind arith in
    let w = objected _ c.answer_payout-answer.result c.map_err.result c.map_err.ensures.cases c.in_err-cover.field-0.0 was in
    let is : c.in_err-cover.field-0.0 ≡ Rejected c.loop-k.k-counter w.0 = search (w.2, rules) in
    let rejected : c.answer_payout-answer.result ≡ Err w.0 = w.1 in
    let answers = rw c.loop-k.invariant.0.file at c.answer_payout-answer.ensures.answers in
    rw (p.1, p.2, is) (rejected-told _ _ _ _ _ c.loop-k.invariant.1 c.loop-k-test.true _ c.answer_payout-answer.new.self answers _ rejected)

pub returns-in_err-cover-clause-covers : goal.returns-in_err-cover-clause-covers
returns-in_err-cover-clause-covers c =
    let was : c.map_err.result ≡ Err c.in_err-cover.field-0.0 = grind arith in
    let w = objected _ c.answer_payout-answer.result c.map_err.result c.map_err.ensures.cases c.in_err-cover.field-0.0 was in
    let rejected : c.answer_payout-answer.result ≡ Err w.0 = w.1 in
    let answers = rw c.loop-k.invariant.0.file at c.answer_payout-answer.ensures.answers in
    rejected-unwritten _ _ _ _ _ c.loop-k.invariant.1 c.loop-k-test.true _ c.answer_payout-answer.new.self answers _ rejected _

pub loop-k-preserved : goal.loop-k-preserved
loop-k-preserved c =
    let was : c.answer_payout-answer.result ≡ Ok c.in_ok-cover.cover = grind arith in
    let answers = rw c.loop-k.invariant.0.file at c.answer_payout-answer.ensures.answers in
    let admits = rw c.loop-k.invariant.0.file at c.answer_payout-answer.ensures.admits in
    (same_then _ _ _ c.loop-k.invariant.0 c.answer_payout-answer.ensures.same, search running-on)

pub returns-clause-answer : goal.returns-clause-answer
returns-clause-answer c = search done-told

pub returns-clause-covers : goal.returns-clause-covers
returns-clause-covers c = search (done-written, rules)
