-- Raise by raise, the number agreed on so far and those ahead agree on that of all; one that bars the field leaves none.
use Rattle.std.proofs.Common.{rules, tests}
use Rattle.std.proofs.lemmas.Iterator.Consumers.{YieldsList-turn, YieldsList-end}
use Rattle.std.proofs.lemmas.List.{length_push}
use Rattle.reserve_tokens.proofs.Reserving.{along-raises, still-barred, raises-all, raises-barred, raises-on, raises-done}
use Rattle.reserve_tokens.proofs.reserve.after_raises.Goals as goal

pub returns-then-before-eq0 : goal.returns-then-before-eq0
returns-then-before-eq0 c = search still-barred

pub loop-raise-init : goal.loop-raise-init
loop-raise-init c = raises-all _ _ _ _ c.requires c.if-before-eq0.false

pub is_barred-requires : goal.is_barred-requires
is_barred-requires c = c.loop-raise.invariant.found

pub returns-then-is_barred : goal.returns-then-is_barred
returns-then-is_barred c =
    let turn = YieldsList-turn
    (along-raises _ c.args.entry.now.facts.now.file.now c.args.name.now _ _ c.skip.ensures _ c.parts_of.ensures.reads _ c.fields_at-statements.ensures.rest
    _ _ c.into_iter-raise-iterator.ensures.into_iter_gives c.filter-raise-items.ensures.source c.filter-raise-items.ensures.closure (λ x b q k. search (rules, tests)))
    c.loop-raise.yielded _ c.loop-raise.yielded_by _ _ c.in-Some.raise c.in-Some.is c.next.ensures.steps in
    search raises-barred

pub loop-raise-preserved : goal.loop-raise-preserved
loop-raise-preserved c =
    let turn = YieldsList-turn
    (along-raises _ c.args.entry.now.facts.now.file.now c.args.name.now _ _ c.skip.ensures _ c.parts_of.ensures.reads _ c.fields_at-statements.ensures.rest
    _ _ c.into_iter-raise-iterator.ensures.into_iter_gives c.filter-raise-items.ensures.source c.filter-raise-items.ensures.closure (λ x b q k. search (rules, tests)))
    c.loop-raise.yielded _ c.loop-raise.yielded_by _ _ c.in-Some.raise c.in-Some.is c.next.ensures.steps in
    let short = c.args.entry.now.facts.now.short in
    let grown = length_push c.loop-raise.yielded c.in-Some.raise in
    search raises-on

pub returns : goal.returns
returns c =
    let done = YieldsList-end
    (along-raises _ c.args.entry.now.facts.now.file.now c.args.name.now _ _ c.skip.ensures _ c.parts_of.ensures.reads _ c.fields_at-statements.ensures.rest
    _ _ c.into_iter-raise-iterator.ensures.into_iter_gives c.filter-raise-items.ensures.source c.filter-raise-items.ensures.closure (λ x b q k. search (rules, tests)))
    c.loop-raise.yielded _ c.loop-raise.yielded_by _ _ c.in-None.is c.next.ensures.steps in
    raises-done _ _ _ _ _ _ c.loop-raise.invariant done.1
