-- Guard by guard its number is written behind the others.
use Rattle.fields.specs.Field.{front}
use Rattle.reserves.proofs.Holders.{Listing}
use Rattle.reserves.proofs.ahead.list_ahead.Given as goal

abbrev pub invariant-loop-n : goal.invariant-loop-n
invariant-loop-n g l = Listing l.file l.lowerings (front l.amount) l.fn.guard l.ahead l.numbers.items l.n
