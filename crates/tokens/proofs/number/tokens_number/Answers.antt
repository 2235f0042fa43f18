-- What the clauses name, and then the guards; two that differ stay so. The number stands for what the entry names, so it is small.
use Rattle.tokens.proofs.Numbers.{number_small}
use Rattle.tokens.proofs.Searching.{guards-joined, clauses-several}
use Rattle.tokens.proofs.number.tokens_number.Goals as goal

pub returns-then-named-eq1-clause-reads : goal.returns-then-named-eq1-clause-reads
returns-then-named-eq1-clause-reads c = search clauses-several

pub returns-clause-reads : goal.returns-clause-reads
returns-clause-reads c = search guards-joined

pub returns-clause-small : goal.returns-clause-small
returns-clause-small c = number_small _ c.args.entry.now.place c.args.entry.now.short _ (search guards-joined)
