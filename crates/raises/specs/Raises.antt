-- Where a state field starts, and what raises it.
use Rattle.std.specs.Prelude.{ℕ, Bool, cond, ◌&&◌, ◌||◌, eqb}
use mathlib.Core.List.{List, [], ◌∷◌, map, flat_map}
use Rattle.laws.specs.Lists.{all, filter}
use Rattle.laws.specs.Texts.{same_bytes}
use Rattle.tags.specs.Tag.{State, Set, SubtractFrom, Integer, Add, Sub, is_assign}
use Rattle.fields.specs.Field.{Field, Fields, tag, text, part, fields_from}
use Rattle.model.specs.Model.{name_of, genesis, body}
use Rattle.walking.specs.Walking.{peel, present, ident}

-- The start

-- the defaults of the state fields named r: none where there is no default
unfoldable pub defaults : Fields → List ℕ → List Field
defaults model r = filter present (map (part 2) (filter (λ s. same_bytes (name_of s) r) (fields_from State State model)))

-- a statement that sets, adds to or subtracts from r
unfoldable pub assigns : List ℕ → Field → Bool
assigns r s = is_assign (tag s) && same_bytes (ident (part 0 s)) r

-- the value of every genesis assignment to r: set, add or subtract
unfoldable pub genesis_values : Fields → List ℕ → List Field
genesis_values model r = map (part 1) (filter (assigns r) (genesis model))

-- an integer of 0 and _ only, peeled; the empty text passes
unfoldable pub is_zero : Field → Bool
is_zero v = eqb (tag (peel v)) Integer && all (λ c. eqb c 0x30 || eqb c 0x5F) (text (peel v))

-- r starts at zero
unfoldable pub starts_at_zero : Fields → List ℕ → Bool
starts_at_zero model r = all is_zero (defaults model r) && all is_zero (genesis_values model r)

-- Raises

-- what an assignment sets, adds or subtracts, peeled
unfoldable pub value : Field → Field
value s = peel (part 1 s)

-- r set to r plus, or r minus, something: the value and its first side peeled
unfoldable pub sets_from : ℕ → List ℕ → Field → Bool
sets_from operator r s = eqb (tag s) Set && eqb (tag (value s)) operator && same_bytes (ident (peel (part 0 (value s)))) r

-- what an assignment to r raises it by, peeled: any subtraction from r is no raise, r set to r plus v raises by v, `r += v`
-- by v, and any other set by its whole value
unfoldable pub raise : List ℕ → Field → List Field
raise r s =
    cond (eqb (tag s) SubtractFrom || sets_from Sub r s) []
    (cond (sets_from Add r s) (peel (part 1 (value s)) ∷ []) (value s ∷ []))

-- the raises of r in an entry
unfoldable pub raises : List ℕ → Field → List Field
raises r entry = flat_map (raise r) (filter (assigns r) (body entry))
