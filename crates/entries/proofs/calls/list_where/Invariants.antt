-- The calls that are gone through are listed where they pass.
use Rattle.std.proofs.Common.{◌≡◌}
use Rattle.fields.specs.Field.{front}
use Rattle.entries.proofs.Choosing.{Choosing}
use Rattle.entries.proofs.calls.list_where.Given as goal

abbrev pub invariant-loop-call : goal.invariant-loop-call
invariant-loop-call g l =
    Choosing l.file (λ passes. (s : _) (r : _) → goal.F-post g l.test s r → r ≡ passes (front s.now)) l.calls l.initial.places l.call-index l.places
