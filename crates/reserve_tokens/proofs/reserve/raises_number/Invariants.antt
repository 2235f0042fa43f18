-- Field by field, the number agreed on so far and those of the entries ahead agree on that of all.
use Rattle.fields.proofs.EndOf.{EndOf}
use Rattle.reserve_tokens.proofs.Reserving.{Ahead}
use Rattle.reserve_tokens.proofs.reserve.raises_number.Given as goal

abbrev pub invariant-loop-field : goal.invariant-loop-field
invariant-loop-field l = EndOf l.facts.file.now l.field-iterator × Ahead l.facts.file.now l.name l.agreed l.field-iterator
