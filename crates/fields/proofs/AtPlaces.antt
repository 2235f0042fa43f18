-- Whether a field passes, by its place.
use Rattle.std.proofs.Common.{ℕ, Bool, List, drop}
use Rattle.fields.specs.Field.{Field, front}

-- whether the field at a place of s passes
unfoldable pub field_at : (Field → Bool) → List ℕ → ℕ → Bool
field_at p s n = p (front (drop n s))
