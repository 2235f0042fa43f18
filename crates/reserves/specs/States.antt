-- State fields by their names and by their numbers among all.
use Rattle.std.specs.Prelude.{ℕ, cond, List, [], get_or, Option, None, Some}
use Rattle.laws.specs.Lists.{any, position}
use Rattle.laws.specs.Texts.{same_bytes}
use Rattle.fields.specs.Field.{Fields, fields}
use Rattle.model.specs.Model.{state_names}

-- the name of the i-th state field
unfoldable pub state_name : List ℕ → ℕ → List ℕ
state_name file i = get_or (state_names (fields file)) i []

-- the number of a state field of that name
unfoldable pub state_index : Fields → List ℕ → ℕ
state_index model r = position (same_bytes r) (state_names model)

-- if some state field has the name
unfoldable pub state_number : Fields → List ℕ → Option ℕ
state_number model r = cond (any (same_bytes r) (state_names model)) (Some (state_index model r)) None
