-- The tokens that fund a map.
use Rattle.std.specs.Prelude.{ℕ, Bool}
use mathlib.Core.List.{List, flat_map}
use Rattle.laws.specs.Lists.{any, filter}
use Rattle.fields.specs.Field.{Field, Fields}
use Rattle.model.specs.Model.{entries}
use Rattle.walking.specs.Walking.{without_places, exprs}
use Rattle.tokens.specs.Tokens.{single, tokens_named, is_funding}

-- an entry that has a call which funds the map
unfoldable pub funds : List ℕ → Field → Bool
funds m entry = any (is_funding m entry) (exprs entry)

-- all tokens named by entries that fund the map
unfoldable pub ledger_funding_tokens : Fields → List ℕ → List (List ℕ)
ledger_funding_tokens model m = flat_map tokens_named (filter (funds m) (without_places (entries model)))

-- the map's single funding token
unfoldable pub funding_token : Fields → List ℕ → List ℕ
funding_token model m = single (ledger_funding_tokens model m)
