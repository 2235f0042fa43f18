-- Two bytes hold it.
use Rattle.std.proofs.Common.{rules}
use Rattle.fundings.proofs.Joins.{joined-small}
use Rattle.fundings.proofs.ledger.join_tokens.Goals as goal

pub overflow_cast-result : goal.overflow_cast-result
overflow_cast-result c = search (joined-small, rules)
