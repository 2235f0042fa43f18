-- The set is joined to those of the maps that the calls so far fund.
use Rattle.fundings.proofs.Joins.{joining-none, joining-on, joining-done}
use Rattle.fundings.proofs.ledger.list_calls.Goals as goal

pub loop-call-init : goal.loop-call-init
loop-call-init c = search joining-none

pub loop-call-preserved : goal.loop-call-preserved
loop-call-preserved c =
    joining-on c.args.funder.now.entry.file.now _ c.args.named c.args.calls.now c.args.maps.now.items _ c.loop-call.maps.items c.loop-call.invariant
    c.loop-call-test.true _ c.from.ensures c.list_call.new.maps.items c.in_ok-list_call.ensures

pub returns : goal.returns
returns c = search joining-done
