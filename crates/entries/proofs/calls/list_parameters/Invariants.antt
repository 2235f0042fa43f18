-- Whoever lists the asset parameters that are left has listed all.
use Rattle.fields.proofs.Gathering.{Gathering}
use Rattle.entries.specs.Calls.{asset_places}
use Rattle.entries.proofs.calls.list_parameters.Given as goal

abbrev pub invariant-loop-field : goal.invariant-loop-field
invariant-loop-field l = Gathering asset_places l.initial.field-iterator l.initial.places l.field-iterator l.places
