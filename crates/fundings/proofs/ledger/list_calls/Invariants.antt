-- The set is joined to those of the maps that the calls so far fund.
use Rattle.fundings.specs.Funder.{entry_of}
use Rattle.fundings.proofs.Joins.{Joining}
use Rattle.fundings.proofs.ledger.list_calls.Given as goal

abbrev pub invariant-loop-call : goal.invariant-loop-call
invariant-loop-call l = Joining l.funder.entry.file.now (entry_of l.funder) l.named l.calls l.initial.maps.items l.call-index l.maps.items
