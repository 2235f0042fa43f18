-- Down into a field with the bytes of its content, along its parts with the bytes behind each.
use Rattle.std.proofs.Common.{◌+◌, ◌*◌, length}
use Rattle.equality.proofs.Comparing.{Comparing}
use Rattle.equality.proofs.+expr_eq_parts_eq.Given as goal

abbrev pub decreases-expr_eq : goal.decreases-expr_eq
decreases-expr_eq l = 2 * length l.a.now

abbrev pub decreases-parts_eq : goal.decreases-parts_eq
decreases-parts_eq l = 2 * length l.a.now + 1

abbrev pub invariant-parts_eq-loop-part : goal.invariant-parts_eq-loop-part
invariant-parts_eq-loop-part l = Comparing l.a l.b l.part-iterator l.others
