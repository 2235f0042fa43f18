-- Field by field, of each state field the number agreed on so far and those of the entries ahead agree on that of all.
use Rattle.fields.proofs.EndOf.{EndOf}
use Rattle.reserve_tokens.proofs.Replacing.{EachAhead}
use Rattle.reserve_tokens.proofs.reserve.reserve_numbers.Given as goal

abbrev pub invariant-loop-field : goal.invariant-loop-field
invariant-loop-field l = EndOf l.facts.file.now l.field-iterator × EachAhead l.facts.file.now l.places l.numbers l.field-iterator
