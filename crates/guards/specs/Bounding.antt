-- The guards of a row of fields that bound an amount.
use Rattle.std.specs.Prelude.{Bool, List, [], ◌∷◌, Option, Some, None}
use Rattle.laws.specs.Lists.{filter}
use Rattle.tags.specs.Tag.{Guard}
use Rattle.fields.specs.Field.{Field, Fields, fields, after, front, part, fields_from}
use Rattle.fields.specs.declared.field.Field.{Field as Found}
use Rattle.equality.specs.Equality.{expr_eq}
use Rattle.guards.specs.Guards.{guarded_amount}

-- a guard bounds the amount by its state field
unfoldable pub bounds : Field → Field → Bool
bounds amount guard = expr_eq (guarded_amount (part 0 guard)) amount

-- those of a row
unfoldable pub bounding : Field → Fields → List Field
bounding amount fs = filter (bounds amount) (fields_from Guard Guard fs)

-- a guard that was found, and those behind it; none where none was
abbrev pub bounding_from : Field → Option Found → List Field
bounding_from amount None = []
bounding_from amount (Some g) = front g.part.now ∷ bounding amount (fields (after g.part.now))
