-- Equality of expressions: same shape, operators and texts, wrappers included.
use Rattle.std.specs.Prelude.{ℕ, Bool, true, false, not, ◌&&◌, ◌||◌, List, eqb}
use Rattle.laws.specs.Lists.{filter}
use Rattle.laws.specs.Texts.{same_bytes}
use Rattle.tags.specs.Tag.{Name, Integer, String, Identifier, Caller, Now, composite}
use Rattle.fields.specs.Field.{Field, Fields, tag_of, whole}
use Rattle.fields.specs.Field.Field.{field}
use Rattle.fields.specs.Field.Fields.{end, next}

abbrev pub is_underscore : ℕ → Bool
is_underscore c = eqb c 0x5F

-- a text without its underscores
unfoldable pub strip : List ℕ → List ℕ
strip x = filter (λ c. not (is_underscore c)) x

-- the texts of two fields of one tag: integers are the same without underscores, names, strings and identifiers as they
-- stand. Caller equals caller, now equals now. A field of another tag, as in-asset, native or date, equals nothing.
unfoldable pub same_text : ℕ → List ℕ → List ℕ → Bool
same_text t x y =
    eqb t Caller || eqb t Now
    || eqb t Integer && same_bytes (strip x) (strip y)
    || (eqb t Name || eqb t String || eqb t Identifier) && same_bytes x y

unfoldable mutual
  -- one tag, and the same text or parts
  pub expr_eq : Field → Field → Bool
  expr_eq (field t x ps) (field u y qs) = eqb t u && (composite t || same_text t x y) && parts_eq ps qs

  -- as many parts, each equal to its counterpart
  pub parts_eq : Fields → Fields → Bool
  parts_eq (end r) (end s) = true
  parts_eq (end r) (next g gs) = false
  parts_eq (next f fs) (end s) = false
  parts_eq (next f fs) (next g gs) = expr_eq f g && parts_eq fs gs

-- whether whole fields of one tag stand at the fronts of a and b
abbrev pub same_tag : List ℕ → List ℕ → Bool
same_tag a b = whole a && whole b && eqb (tag_of a) (tag_of b)
