-- Field by field, its place is written.
use Rattle.std.proofs.Common.{◌≡◌, get_or, drop}
use Rattle.fields.specs.Field.{front}
use Rattle.model.specs.Model.{name_of}
use Rattle.reserve_tokens.proofs.Replacing.{Replacing}
use Rattle.reserves.specs.States.{state_name}
use Rattle.reserves.proofs.holding.list_places.Given as goal

abbrev pub invariant-loop-j : goal.invariant-loop-j
invariant-loop-j l = Replacing (λ i place. name_of (front (drop place l.file)) ≡ state_name l.file (get_or l.indices i 0)) l.initial.places l.places l.j
