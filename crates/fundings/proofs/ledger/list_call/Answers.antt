-- A call that funds some map funds its own.
use Rattle.std.proofs.Common.{rules}
use Rattle.std.proofs.lemmas.Result.{on_ok_weaker}
use Rattle.fundings.proofs.Joins.{funder-known, joins-nothing, joins-own, call-small}
use Rattle.fundings.proofs.ledger.list_call.Goals as goal

pub returns-then-not-is_funding_call : goal.returns-then-not-is_funding_call
returns-then-not-is_funding_call c = search joins-nothing

pub overflow_add-call : goal.overflow_add-call
overflow_add-call c = let known = funder-known c.args.funder.now in search (call-small, rules)

pub join_map-requires : goal.join_map-requires
join_map-requires c = let known = funder-known c.args.funder.now in search (call-small, rules)

pub returns : goal.returns
returns c =
    on_ok_weaker _
    (joins-own _ c.args.funder.now.entry.place c.args.call _ c.is_funding_call.ensures c.args.named
    c.args.maps.now.items c.if-not-is_funding_call.false c.join_map.new.maps.items)
    c.join_map.ensures
