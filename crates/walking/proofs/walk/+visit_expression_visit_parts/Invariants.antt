-- An expression lists itself and then its parts; of a list of parts, whoever lists what is left has listed all.
use Rattle.std.proofs.Common.{◌+◌, ◌*◌, ◌≡◌, length}
use Rattle.fields.proofs.Gathering.{Gathering}
use Rattle.walking.specs.Walking.{walk_parts}
use Rattle.walking.specs.Table.{places_of}
use Rattle.walking.proofs.walk.+visit_expression_visit_parts.Given as goal

abbrev pub decreases-visit_expression : goal.decreases-visit_expression
decreases-visit_expression l = 2 * length l.field.part.now

abbrev pub decreases-visit_parts : goal.decreases-visit_parts
decreases-visit_parts l = 2 * length l.s.now + 1

abbrev pub invariant-visit_parts-loop-part : goal.invariant-visit_parts-loop-part
invariant-visit_parts-loop-part l =
    (l.initial.part-iterator.place ≡ l.place) × (l.initial.part-iterator.rest.now ≡ l.s)
    × Gathering (λ n fs. places_of l.tag (walk_parts n fs)) l.initial.part-iterator l.initial.places l.part-iterator l.places
