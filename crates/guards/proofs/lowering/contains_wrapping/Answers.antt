-- The walk counts the Wrappings, and there is one where the count is not 0.
use Rattle.std.proofs.Common.{ℕ, ◌≡◌, List, arith, leb, length}
use Rattle.fields.specs.Table.{Listed}
use Rattle.fields.specs.Field.{front}
use Rattle.walking.specs.Walking.{walk}
use Rattle.walking.specs.Table.{places_of}
use Rattle.walking.proofs.Callers.{places-any}
use Rattle.guards.specs.Guards.{contains_wrapping}
use Rattle.guards.proofs.lowering.contains_wrapping.Goals as goal

counted : (s table last : List ℕ) (n : ℕ) → Listed (places_of 0x3D (walk 0 (front s))) table 0 last n → leb 1 n ≡ contains_wrapping (front s)
unfolding contains_wrapping
counted s table last n l =
    let e : n ≡ length (places_of 0x3D (walk 0 (front s))) = omega (arith, l.count) in
    rw e (places-any 0x3D (walk 0 (front s)))

pub returns : goal.returns
returns c = search counted
