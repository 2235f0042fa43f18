-- What the code asks of a state field's default, of a genesis statement, and of a statement and an entry that may raise it.
use Rattle.std.specs.Prelude.{ℕ, Bool, true, cond, ◌&&◌, ◌||◌, not, List, eqb}
use Rattle.laws.specs.Lists.{any, all}
use Rattle.laws.specs.Texts.{same_bytes}
use Rattle.tags.specs.Tag.{SubtractFrom, Add, Sub}
use Rattle.fields.specs.Field.{Field, tag, part}
use Rattle.model.specs.Model.{name_of, body}
use Rattle.walking.specs.Walking.{peel, present}
use Rattle.raises.specs.Raises.{assigns, value, sets_from, is_zero}

-- Zero

-- digits 0, and underscores between them
unfoldable pub zero_digits : List ℕ → Bool
zero_digits l = all (λ c. eqb c 0x30 || eqb c 0x5F) l

-- a state field that is not r, has no default or a zero one
unfoldable pub default_passes : List ℕ → Field → Bool
default_passes r s = cond (same_bytes r (name_of s) && present (part 2 s)) (is_zero (part 2 s)) true

-- a genesis statement that does not assign to r, or assigns zero
unfoldable pub genesis_passes : List ℕ → Field → Bool
genesis_passes r g = cond (assigns r (part 0 g)) (is_zero (part 1 (part 0 g))) true

-- Raises

-- a statement that raises r
unfoldable pub is_raise : List ℕ → Field → Bool
is_raise r s = assigns r s && not (eqb (tag s) SubtractFrom || sets_from Sub r s)

-- by what it does
unfoldable pub raised_by : List ℕ → Field → Field
raised_by r s = cond (sets_from Add r s) (peel (part 1 (value s))) (value s)

-- an entry that raises r
unfoldable pub raising : List ℕ → Field → Bool
raising r entry = any (is_raise r) (body entry)
