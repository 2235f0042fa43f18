-- The guards that bound an amount by a state field, the assignments that lower the field by it, and what the amount must contain.
use Rattle.std.specs.Prelude.{ℕ, Bool, cond, ◌&&◌, ◌||◌, not, List, [], map, eqb}
use Rattle.laws.specs.Lists.{any, filter}
use Rattle.tags.specs.Tag.{SubtractFrom, Wrapping, Lt, Gt, Le, Ge, Sub}
use Rattle.fields.specs.Field.{Field, tag, part, nothing}
use Rattle.walking.specs.Walking.{peel, walk, without_places, guards, ident}
use Rattle.equality.specs.Equality.{expr_eq}
use Rattle.tokens.specs.Tokens.{is_inflow}
use Rattle.raises.specs.Raises.{assigns, value, sets_from}

-- the amount must contain some asset parameter's `p.amount`
unfoldable pub contains_inflow : Field → Field → Bool
contains_inflow entry amount = any (is_inflow entry) (without_places (walk 0 amount))

-- the r of a guard that, peeled, says r >, >= amount or amount <, <= r, sides peeled
unfoldable pub guarded_field : Field → List ℕ
guarded_field guard =
    let g = peel guard in
    cond (eqb (tag g) Gt || eqb (tag g) Ge) (ident (peel (part 0 g)))
    (cond (eqb (tag g) Lt || eqb (tag g) Le) (ident (peel (part 1 g))) [])

-- the amount of such a guard
unfoldable pub guarded_amount : Field → Field
guarded_amount guard =
    let g = peel guard in
    cond (eqb (tag g) Gt || eqb (tag g) Ge) (peel (part 1 g))
    (cond (eqb (tag g) Lt || eqb (tag g) Le) (peel (part 0 g)) nothing)

-- the state fields that guards bound the amount by, in the order of the guards
unfoldable pub guarded_by : Field → Field → List (List ℕ)
guarded_by entry amount = map guarded_field (filter (λ g. expr_eq (guarded_amount g) amount) (guards entry))

-- what an assignment lowers r by: `r -= amount`, or r set to r minus amount, sides peeled
unfoldable pub lowered_by : List ℕ → Field → Field
lowered_by r s = cond (eqb (tag s) SubtractFrom) (value s) (cond (sets_from Sub r s) (peel (part 1 (value s))) nothing)

-- Wrapping stands somewhere in the expression
unfoldable pub contains_wrapping : Field → Bool
contains_wrapping e = any (λ f. eqb (tag f) Wrapping) (without_places (walk 0 e))

-- an assignment lowers r by the amount, and no Wrapping stands anywhere in its value
unfoldable pub lowers : Field → List ℕ → Field → Bool
lowers amount r s = assigns r s && not (contains_wrapping (part 1 s)) && expr_eq (lowered_by r s) amount
