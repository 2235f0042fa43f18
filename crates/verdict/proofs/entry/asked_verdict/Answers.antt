-- The first no, or the matching.
use Rattle.std.proofs.Common.{arith, ◌≡◌, Ok, Err}
use Rattle.verdict.proofs.Placing.{handed-on, told-no, left-no, entered-passed, room-passed, told-unpaid, left-unpaid, told-matched, left-matched}
use Rattle.verdict.proofs.entry.asked_verdict.Goals as goal

pub returns-in_err-ask_entry-clause-answer : goal.returns-in_err-ask_entry-clause-answer
returns-in_err-ask_entry-clause-answer c =
    let was : c.ask_entry.result ≡ Err c.in_err-ask_entry.field-0.0 = grind arith in
    handed-on _ _ _ c.from_residual.ensures.1 (search told-no)

pub returns-in_err-ask_entry-clause-covers : goal.returns-in_err-ask_entry-clause-covers
returns-in_err-ask_entry-clause-covers c =
    let was : c.ask_entry.result ≡ Err c.in_err-ask_entry.field-0.0 = grind arith in
    search left-no

pub returns-then-entry-eq0-clause-answer : goal.returns-then-entry-eq0-clause-answer
returns-then-entry-eq0-clause-answer c =
    let passed : c.ask_entry.result ≡ Ok tt = grind arith in
    search told-unpaid

pub returns-then-entry-eq0-clause-covers : goal.returns-then-entry-eq0-clause-covers
returns-then-entry-eq0-clause-covers c =
    let passed : c.ask_entry.result ≡ Ok tt = grind arith in
    search left-unpaid

pub cover_payouts-requires-clause-entered : goal.cover_payouts-requires-clause-entered
cover_payouts-requires-clause-entered c =
    let passed : c.ask_entry.result ≡ Ok tt = grind arith in
    search entered-passed

pub cover_payouts-requires-clause-room : goal.cover_payouts-requires-clause-room
cover_payouts-requires-clause-room c =
    let passed : c.ask_entry.result ≡ Ok tt = grind arith in
    search room-passed

pub returns-clause-answer : goal.returns-clause-answer
returns-clause-answer c =
    let passed : c.ask_entry.result ≡ Ok tt = grind arith in
    search told-matched

pub returns-clause-covers : goal.returns-clause-covers
returns-clause-covers c =
    let passed : c.ask_entry.result ≡ Ok tt = grind arith in
    search left-matched
