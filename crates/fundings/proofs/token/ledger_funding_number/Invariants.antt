-- Field by field, the set found so far and what the entries ahead name have the set of all.
use Rattle.fundings.proofs.Funders.{Ledger}
use Rattle.fundings.proofs.token.ledger_funding_number.Given as goal

abbrev pub invariant-loop-field : goal.invariant-loop-field
invariant-loop-field l = Ledger l.file l.map l.found l.field-iterator
