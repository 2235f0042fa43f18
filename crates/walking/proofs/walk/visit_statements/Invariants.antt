-- Whoever lists what is left of the row has listed all.
use mathlib.Core.List.{flat_map}
use Rattle.fields.specs.Field.{placed}
use Rattle.fields.proofs.Gathering.{Gathering}
use Rattle.walking.specs.Walking.{stmt_exprs}
use Rattle.walking.specs.Table.{places_of}
use Rattle.walking.proofs.walk.visit_statements.Given as goal

abbrev pub invariant-loop-part : goal.invariant-loop-part
invariant-loop-part l = Gathering (λ n fs. places_of l.tag (flat_map stmt_exprs (placed n fs))) l.parts l.initial.places l.part-iterator l.places
