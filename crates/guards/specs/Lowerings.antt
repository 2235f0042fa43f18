-- The assignments of an entry that lower some state field by an amount, as they are listed.
use Rattle.std.specs.Prelude.{ℕ, Bool, cond, ◌&&◌, not, List, [], ◌∷◌, eqb, drop}
use mathlib.Core.List.{flat_map}
use Rattle.laws.specs.Lists.{any}
use Rattle.laws.specs.Texts.{same_bytes}
use Rattle.tags.specs.Tag.{is_assign}
use Rattle.fields.specs.Field.{Field, Placed, front, tag, part, placed_parts}
use Rattle.fields.specs.Number.{short_number}
use Rattle.fields.specs.declared.named.Named.{Named}
use Rattle.walking.specs.Walking.{ident}
use Rattle.equality.specs.Equality.{expr_eq}
use Rattle.guards.specs.Guards.{contains_wrapping, lowered_by}

-- the name of the state field that an assignment assigns to
abbrev pub target : Field → List ℕ
target s = ident (part 0 s)

-- an assignment lowers its own target by the amount, and no Wrapping stands anywhere in its value
unfoldable pub is_lowering : Field → Field → Bool
is_lowering amount s = is_assign (tag s) && expr_eq (lowered_by (target s) s) amount && not (contains_wrapping (part 1 s))

-- what is listed of a part of the entry, where it is one of them: the number of its target's name, and its place in the file
unfoldable pub lowering_at : Field → Placed → List Named
lowering_at amount p = cond (is_lowering amount p.this) (record { number = short_number (target p.this); place = p.place } ∷ []) []

-- of all parts
unfoldable pub lowering_numbers : Field → Placed → List Named
lowering_numbers amount entry = flat_map (lowering_at amount) (placed_parts entry)

-- what is listed is an assignment to r: names whose numbers differ need not be compared
unfoldable pub lowers_at : (file r : List ℕ) → Named → Bool
lowers_at file r l = eqb l.number (short_number r) && same_bytes (target (front (drop l.place file))) r

-- one of those that are listed has the target r
abbrev pub lowered_in : (file r : List ℕ) → List Named → Bool
lowered_in file r ls = any (lowers_at file r) ls
