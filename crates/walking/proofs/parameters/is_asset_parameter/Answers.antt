-- The second part is the type name.
use Rattle.std.proofs.Common.{◌≡◌, Bool, List, ℕ}
use Rattle.laws.specs.Texts.{bytes, same_bytes}
use Rattle.fields.specs.Field.{front, text, part}
use Rattle.walking.specs.Walking.{is_asset_parameter}
use Rattle.walking.proofs.parameters.is_asset_parameter.Goals as goal

asset-read : (s x y : List ℕ) (r : Bool) → front x ≡ part 1 (front s) → y ≡ text (front x) → r ≡ same_bytes y (bytes "Q_Asset") → r ≡ is_asset_parameter (front s)
unfolding is_asset_parameter
asset-read s x y r e f g = rw (← e, ← f) g

pub returns : goal.returns
returns c = search asset-read
