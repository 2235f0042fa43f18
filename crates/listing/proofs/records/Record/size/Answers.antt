-- Only an accepted entry's record has covers behind its numbers.
use Rattle.std.proofs.Common.{rules}
use Rattle.listing.proofs.Reading.{size-alone, size-unknown, size-covers}
use Rattle.listing.proofs.records.Record.size.Goals as goal

pub returns-in-Ok-Accepted : goal.returns-in-Ok-Accepted
returns-in-Ok-Accepted c = search (size-covers, rules)

pub returns-in_default : goal.returns-in_default
returns-in_default c = size-alone _ _ c.in_default.ensures (search rules)

pub returns-in_default-2 : goal.returns-in_default-2
returns-in_default-2 c = size-unknown _ (rw c.in_default.is at c.outcome.ensures).1
