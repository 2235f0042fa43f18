-- Which expressions equal themselves: those in which no in-asset, native or date stands.
use Rattle.std.specs.Prelude.{ℕ, Bool, true, not, ◌&&◌, ◌||◌, eqb}
use Rattle.tags.specs.Tag.{Name, Date, Native, InAsset, is_expression, composite}
use Rattle.fields.specs.Field.{Field, Fields}
use Rattle.fields.specs.Field.Field.{field}
use Rattle.fields.specs.Field.Fields.{end, next}

unfoldable mutual
  -- whether the tag of a field, and of every field in it, passes the test
  pub every_tag : Field → (ℕ → Bool) → Bool
  every_tag (field t x ps) p = p t && every_tags ps p

  pub every_tags : Fields → (ℕ → Bool) → Bool
  every_tags (end r) p = true
  every_tags (next f fs) p = every_tag f p && every_tags fs p

-- in-asset, native and date equal nothing, themselves included
unfoldable pub equals_nothing : ℕ → Bool
equals_nothing t = eqb t InAsset || eqb t Native || eqb t Date

-- the tags of an expression and of all that stands in it: a member has a name
unfoldable pub in_expression : ℕ → Bool
in_expression t = is_expression t || eqb t Name

-- whether a field, of an expression or not, equals itself: a tag that is of no expression and has no parts, as a type name
-- or an unknown one, equals nothing either
abbrev pub equals_itself : Field → Bool
equals_itself f = every_tag f (λ t. not (equals_nothing t) && (composite t || in_expression t))
