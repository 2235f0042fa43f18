-- The set that each map has so far, with what the entries ahead name that fund it, is the set of all.
use Rattle.fundings.proofs.Entries.{Entries}
use Rattle.fundings.proofs.ledger.list_fundings.Given as goal

abbrev pub invariant-loop-field : goal.invariant-loop-field
invariant-loop-field l = Entries l.file l.field-iterator l.maps.items
