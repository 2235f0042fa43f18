-- What is left of the text, from the number so far, has the number of the whole text.
use Rattle.fields.proofs.number.text_number.Invariants.{none, more, all, all-small}
use Rattle.fields.proofs.number.text_number.Goals as goal

pub loop-byte-init : goal.loop-byte-init
loop-byte-init c = search none

pub loop-byte-preserved : goal.loop-byte-preserved
loop-byte-preserved c = search more

pub returns-clause-same : goal.returns-clause-same
returns-clause-same c = search all

pub returns-clause-small : goal.returns-clause-small
returns-clause-small c = search all-small
