-- The asset parameters of an entry, listed in a table.
use Rattle.std.specs.Prelude.{ℕ, ◌≤◌, ◌≡◌, Bool, cond, ◌&&◌, List, [], ◌∷◌, eqb, length, take, drop}
use mathlib.Core.List.{flat_map}
use Rattle.laws.specs.Texts.{same_bytes}
use Rattle.tags.specs.Tag.{Parameter}
use Rattle.fields.specs.Field.{Field, Placed, tag, front, placed_parts}
use Rattle.fields.specs.Number.{short_number}
use Rattle.fields.specs.declared.named.Named.{Named}
use Rattle.fields.specs.declared.table.TableView.{TableView}
use Rattle.model.specs.Model.{name_of}
use Rattle.walking.specs.Walking.{is_asset_parameter}

-- what is listed of an asset parameter: the short number of its name, and its place; nothing of any other field
unfoldable pub named_parameter : Placed → List Named
named_parameter p =
    cond (eqb (tag p.this) Parameter && is_asset_parameter p.this) (record { number = short_number (name_of p.this); place = p.place } ∷ []) []

-- those of an entry, whose own place is 0
unfoldable pub named_assets : Field → List Named
named_assets entry = flat_map named_parameter (placed_parts (record { place = 0; this = entry }))

-- what is listed is one of that name
unfoldable pub named_by : (s name : List ℕ) → Named → Bool
named_by s name a = eqb a.number (short_number name) && same_bytes name (name_of (front (drop a.place s)))

-- a table in which the asset parameters of the entry at the front of s are listed, if there was room for so many
abbrev pub Assets : (s : List ℕ) → TableView Named → Type 0
Assets s table = table.count ≤ length table.items.now → take table.count table.items.now ≡ named_assets (front s)
