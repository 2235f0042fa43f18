-- Whoever lists the asset parameters that are left has listed all.
use mathlib.Core.List.{flat_map}
use Rattle.fields.specs.Field.{placed}
use Rattle.fields.proofs.Gathering.{Gathering}
use Rattle.walking.specs.Assets.{named_parameter}
use Rattle.walking.proofs.parameters.list_assets.Given as goal

abbrev pub invariant-loop-field : goal.invariant-loop-field
invariant-loop-field l = Gathering (λ n fs. flat_map named_parameter (placed n fs)) l.initial.field-iterator l.initial.assets l.field-iterator l.assets
