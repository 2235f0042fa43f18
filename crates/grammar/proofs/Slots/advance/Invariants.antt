-- What is left of the slots answers as the whole row does.
use Rattle.std.proofs.Common.{◌≡◌, length, map}
use Rattle.grammar.specs.Grammar.{advance}
use Rattle.grammar.specs.Slots.{slot_number, slot_list}
use Rattle.grammar.proofs.Slots.advance.Given as goal

abbrev pub invariant-loop-slot : goal.invariant-loop-slot
invariant-loop-slot l = advance (map slot_number l.left) l.tag ≡ advance (slot_list l.self) l.tag

abbrev pub decreases-loop-slot : goal.decreases-loop-slot
decreases-loop-slot l = length l.left
