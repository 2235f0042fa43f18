-- The amount of an asset parameter. It stands nowhere in the file: the parameter's name alone is there.
use Rattle.std.specs.Prelude.{ℕ, List, []}
use Rattle.laws.specs.Texts.{bytes}
use Rattle.tags.specs.Tag.{Name, Identifier, Member}
use Rattle.fields.specs.Field.{Field}
use Rattle.fields.specs.Field.Field.{field}
use Rattle.fields.specs.Field.Fields.{end, next}

-- `p.amount`
abbrev pub amount_of : List ℕ → Field
amount_of p = field Member [] (next (field Identifier p (end [])) (next (field Name (bytes "amount") (end [])) (end [])))
