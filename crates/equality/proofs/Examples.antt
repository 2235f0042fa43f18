-- The definition computed on examples: what is equal, and what a hurried reading would take for equal.
use Rattle.std.proofs.Common.{ℕ, ◌≡◌, refl, Bool, true, false, List, [], ◌∷◌}
use Prim.Native.String.{String}
use Rattle.laws.specs.Lists.{any, all}
use Rattle.laws.specs.Texts.{same_bytes, bytes}
use Rattle.tags.specs.Tag.{is_expression, composite}
use Rattle.tags.specs.Tag as tag
use Rattle.fields.specs.Field.{Field, fields, fields_to, nth, front, nothing}
use Rattle.fields.specs.Field.Field.{field}
use Rattle.fields.specs.Field.Fields.{end, next}
use Rattle.equality.specs.Equality.{strip, same_text, expr_eq, parts_eq}
use Rattle.equality.specs.Itself.{every_tag, every_tags, equals_nothing, in_expression, equals_itself}

-- a field with a text, and fields with one, two and three parts
abbrev leaf : ℕ → String → Field
leaf t x = field t (bytes x) (end [])

abbrev one : ℕ → Field → Field
one t f = field t [] (next f (end []))

abbrev two : ℕ → Field → Field → Field
two t f g = field t [] (next f (next g (end [])))

abbrev three : ℕ → Field → Field → Field → Field
three t f g h = field t [] (next f (next g (next h (end []))))

abbrev integer : String → Field
integer x = leaf tag.Integer x

abbrev identifier : String → Field
identifier x = leaf tag.Identifier x

abbrev member : String → String → Field
member x y = two tag.Member (identifier x) (leaf tag.Name y)

abbrev caller : Field
caller = leaf tag.Caller ""

abbrev now : Field
now = leaf tag.Now ""

-- wrapping(checked(f) - 1)
abbrev inside : Field → Field
inside f = one tag.Wrapping (two tag.Sub (one tag.Checked f) (integer "1"))

record Pair : Type 0 where
  left : Field
  right : Field

abbrev with : Field → Field → Pair
with f g = record { left = f; right = g }

abbrev itself : Field → Pair
itself f = with f f

unfoldable equal : Pair → Bool
equal p = expr_eq p.left p.right

-- underscores do not count in an integer, wherever they stand; a field in a file may have more behind it
abbrev same : List Pair
same =
    with (integer "10") (integer "1_0")
    ∷ with (integer "10") (integer "_1__0_")
    ∷ with (integer "") (integer "__")
    ∷ with (inside (integer "1_0")) (inside (integer "10"))
    ∷ with (front (0x34 ∷ 0 ∷ 0 ∷ [])) (front (0x34 ∷ 0 ∷ 0 ∷ 0x35 ∷ 0 ∷ 0 ∷ []))
    ∷ itself (integer "")
    ∷ itself (leaf tag.String "")
    ∷ itself (leaf tag.String "a_b")
    ∷ itself (identifier "n")
    ∷ itself caller
    ∷ itself now
    ∷ itself (member "a" "amount")
    ∷ itself (one tag.Call (identifier "f"))
    ∷ itself (inside (member "a" "amount"))
    ∷ []

-- no values of integers, no underscores taken out of other texts; date, native and in-asset not even themselves, nor what
-- they stand in; no wrapper left out, no other operator, order or number of parts; a missing part equals nothing
abbrev different : List Pair
different =
    with (integer "010") (integer "10")
    ∷ with (integer "10") (integer "1_00")
    ∷ with (integer "") (integer "0")
    ∷ with (integer "1") (leaf tag.String "1")
    ∷ with (identifier "a_b") (identifier "ab")
    ∷ with (leaf tag.String "a_b") (leaf tag.String "ab")
    ∷ with (leaf tag.String "a") (identifier "a")
    ∷ with caller now
    ∷ itself (leaf tag.Date "2024-01-01")
    ∷ itself (leaf tag.Native "")
    ∷ itself (leaf tag.InAsset "")
    ∷ itself (inside (leaf tag.Date ""))
    ∷ itself (inside (leaf tag.Native ""))
    ∷ itself (inside (two tag.Eq (identifier "t") (leaf tag.InAsset "")))
    ∷ with (one tag.Checked (identifier "n")) (identifier "n")
    ∷ with (one tag.Checked (identifier "n")) (one tag.Wrapping (identifier "n"))
    ∷ with (one tag.Checked (one tag.Checked (identifier "n"))) (one tag.Checked (identifier "n"))
    ∷ with (two tag.Add (identifier "n") (integer "1")) (two tag.Sub (identifier "n") (integer "1"))
    ∷ with (two tag.Add (identifier "n") (integer "1")) (two tag.Add (integer "1") (identifier "n"))
    ∷ with (two tag.Add (identifier "n") (integer "1")) (two tag.Add (identifier "n") (integer "2"))
    ∷ with (member "a" "amount") (member "a" "token")
    ∷ with (member "a" "amount") (member "b" "amount")
    ∷ with (one tag.Call (identifier "f")) (two tag.Call (identifier "f") caller)
    ∷ with (three tag.Call (identifier "f") caller caller) (two tag.Call (identifier "f") caller)
    ∷ itself nothing
    ∷ with nothing caller
    ∷ with caller nothing
    ∷ itself (front [])
    ∷ itself (front (0x34 ∷ 0 ∷ []))
    ∷ itself (front (0x33 ∷ 0 ∷ 2 ∷ 0x61 ∷ []))
    ∷ []

all_same : all equal same ≡ true
unfolding same_bytes composite fields fields_to nth strip same_text expr_eq parts_eq equal
all_same = refl

none-same : any equal different ≡ false
unfolding same_bytes composite fields fields_to nth strip same_text expr_eq parts_eq equal
none-same = refl

-- what equals itself, by the definition of that: the same, and not where an in-asset stands deep inside
of-itself : equals_itself (inside (member "a" "amount")) ∷ equals_itself (inside (leaf tag.InAsset "")) ∷ equals_itself nothing ∷ []
    ≡ true ∷ false ∷ false ∷ []
unfolding composite is_expression every_tag every_tags equals_nothing in_expression
of-itself = refl
