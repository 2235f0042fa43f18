-- The bytes before this one are written.
use Rattle.std.proofs.Common.{take}
use Rattle.output.specs.Writes.{Writes}
use Rattle.output.proofs.Output.write_text.Given as goal

abbrev pub invariant-loop-byte : goal.invariant-loop-byte
invariant-loop-byte l = Writes (take l.byte-index l.text) l.initial.self l.self
