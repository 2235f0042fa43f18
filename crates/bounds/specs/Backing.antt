-- How the code hands on a backing's amount.
use Rattle.fields.specs.Field.{Field, front}
use Rattle.equality.specs.Amount.{amount_of}
use Rattle.bounds.specs.declared.Amount.{Amount}
use Rattle.bounds.specs.declared.Amount.TheVariants.{Expression, OfParameter}

-- the amount of a parameter is known by its name, any other by the expression that stands in the file
unfoldable pub backing_field : Amount → Field
backing_field (Expression x) = front x.now
backing_field (OfParameter p) = amount_of p.now
