-- The conditions that an entry requires, taken apart: limits as they are, denials negated, then guards of the body.
use Rattle.std.specs.Prelude.{ℕ, ◌+◌, Bool, true, false, cond, eqb}
use mathlib.Core.List.{List, [], ◌∷◌, ◌++◌, flat_map}
use Rattle.tags.specs.Tag.{Limits, Denies, Guard, Not, Or, And, Eq, Ne, Lt, Gt, Le, Ge, between}
use Rattle.fields.specs.Field.{Field, Fields, Placed, tag, parts, size, placed_from}
use Rattle.fields.specs.Field.Field.{field}
use Rattle.fields.specs.Field.Fields.{end, next}

-- a condition is an expression at a place, with the mark "flipped": its comparison is meant the other way round
pub record Condition : Type 0 where
  pub place : ℕ
  pub flipped : Bool
  pub this : Field

unfoldable mutual
  -- an expression that is required: And is split, unpeeled
  pub split_and : ℕ → Field → List Condition
  split_and n (field t x ps) =
      cond (eqb t And) (split_each (n + 3) ps) (record { place = n; flipped = false; this = field t x ps } ∷ [])

  -- each of some parts
  pub split_each : ℕ → Fields → List Condition
  split_each n (end r) = []
  split_each n (next f fs) = split_and n f ++ split_each (n + size f) fs

-- the first of some parts
unfoldable pub split_first : ℕ → Fields → List Condition
split_first n (end r) = []
split_first n (next f fs) = split_and n f

unfoldable mutual
  -- an expression that is denied, unpeeled: `not e` gives e, split; Or gives both negations; a comparison is flipped; others
  -- give nothing
  pub negated : ℕ → Field → List Condition
  negated n (field t x ps) =
      cond (eqb t Not) (split_first (n + 3) ps)
      (cond (eqb t Or) (negated_each (n + 3) ps)
      (cond (between Eq Ge t) (record { place = n; flipped = true; this = field t x ps } ∷ []) []))

  -- each of some parts
  pub negated_each : ℕ → Fields → List Condition
  negated_each n (end r) = []
  negated_each n (next f fs) = negated n f ++ negated_each (n + size f) fs

-- the first of some parts
unfoldable pub negated_first : ℕ → Fields → List Condition
negated_first n (end r) = []
negated_first n (next f fs) = negated n f

-- of a clause or a guard: a denial is negated, a limit and a guard stand as they are
unfoldable pub conditions_of : Placed → List Condition
conditions_of p =
    cond (eqb (tag p.this) Denies) (negated_first (p.place + 3) (parts p.this)) (split_first (p.place + 3) (parts p.this))

-- of those parts whose tags are from `low` to `high`, the first part at a place
abbrev pub conditions_from : (low high : ℕ) → ℕ → Fields → List Condition
conditions_from low high n fs = flat_map conditions_of (placed_from low high n fs)

-- of an entry: its clauses, then the guards of its body, with places counted from the entry's own
unfoldable pub required_conditions : Field → List Condition
required_conditions entry = conditions_from Limits Denies 3 (parts entry) ++ conditions_from Guard Guard 3 (parts entry)

-- Eq/Ne, Lt/Ge, Gt/Le trade places
unfoldable pub opposite : ℕ → ℕ
opposite t =
    cond (eqb t Eq) Ne (cond (eqb t Ne) Eq
    (cond (eqb t Lt) Ge (cond (eqb t Ge) Lt
    (cond (eqb t Gt) Le (cond (eqb t Le) Gt t)))))

-- the operator of a condition, after any flipping
unfoldable pub operator : Condition → ℕ
operator c = cond c.flipped (opposite (tag c.this)) (tag c.this)
