-- The p of `p.amount` is looked for among the asset parameters.
use Rattle.std.proofs.Common.{◌≡◌, Bool, List, ℕ}
use Rattle.laws.specs.Lists.{any}
use Rattle.laws.specs.Texts.{same_bytes}
use Rattle.fields.specs.Field.{Field}
use Rattle.walking.specs.Walking.{asset_amount_backer, asset_params}
use Rattle.tokens.specs.Tokens.{is_inflow}

pub inflow-read : (entry f : Field) (x : List ℕ) → x ≡ asset_amount_backer f → (r : Bool) → r ≡ any (same_bytes x) (asset_params entry) → r ≡ is_inflow entry f
unfolding is_inflow
inflow-read entry f x e r g = rw (← e) g
