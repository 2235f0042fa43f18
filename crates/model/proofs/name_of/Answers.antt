-- The first part is the name.
use Rattle.std.proofs.Common.{◌≡◌, List, ℕ}
use Rattle.fields.specs.Field.{front, part, text}
use Rattle.model.specs.Model.{name_of}
use Rattle.model.proofs.name_of.Goals as goal

name-read : (s x y : List ℕ) → front x ≡ part 0 (front s) → y ≡ text (front x) → y ≡ name_of (front s)
name-read s x y e f = rw (← e) f

pub returns : goal.returns
returns c = search name-read
