-- No field has the tag 0.
use Rattle.std.proofs.Common.{◌≡◌, ℕ, leb}
use Rattle.fields.specs.Field.{Field, tag}
use Rattle.walking.specs.Walking.{present}
use Rattle.walking.proofs.shape.is_present.Goals as goal

present-read : (f : Field) (t : ℕ) → t ≡ tag f → leb 1 t ≡ present f
present-read f t e = rw e

pub returns : goal.returns
returns c = search present-read
