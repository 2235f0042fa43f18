-- The payouts, the caller debits and the asset parameters of an entry, by their places in the file.
use Rattle.std.specs.Prelude.{ℕ, Bool, cond, ◌&&◌, List, [], ◌∷◌, eqb, drop}
use mathlib.Core.List.{flat_map}
use Rattle.laws.specs.Lists.{filter}
use Rattle.tags.specs.Tag.{Parameter}
use Rattle.fields.specs.Field.{Field, Fields, Placed, tag, front, placed}
use Rattle.walking.specs.Walking.{is_asset_parameter, body_exprs}

-- what stands at a place of the file passes a test
unfoldable pub passes_at : List ℕ → (Field → Bool) → ℕ → Bool
passes_at file test k = test (front (drop k file))

-- of some places, those where it does
abbrev pub places_where : List ℕ → (Field → Bool) → List ℕ → List ℕ
places_where file test ks = filter (passes_at file test) ks

-- the expressions of an entry's body that pass a test, with their places
abbrev pub body_where : (Field → Bool) → Placed → List Placed
body_where test entry = filter (λ p. test p.this) (body_exprs entry)

-- the place of an asset parameter; none of any other field
unfoldable pub asset_place : Placed → List ℕ
asset_place p = cond (eqb (tag p.this) Parameter && is_asset_parameter p.this) (p.place ∷ []) []

-- those of a row of fields that starts at a place
abbrev pub asset_places : ℕ → Fields → List ℕ
asset_places base fs = flat_map asset_place (placed base fs)
