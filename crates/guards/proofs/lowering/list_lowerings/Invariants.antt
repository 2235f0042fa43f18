-- Whoever lists what is left of the entry's parts has listed all.
use Rattle.fields.specs.Field.{front}
use Rattle.fields.proofs.Gathering.{Gathering}
use Rattle.guards.proofs.Lowerings.{lowerings_in}
use Rattle.guards.proofs.lowering.list_lowerings.Given as goal

abbrev pub invariant-loop-part : goal.invariant-loop-part
invariant-loop-part l = Gathering (lowerings_in (front l.amount)) l.initial.part-iterator l.initial.lowerings l.part-iterator l.lowerings
