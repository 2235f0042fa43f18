-- The definition computed on examples: what a backing bounds, and what a hurried reading would take for bounded.
use Rattle.std.proofs.Common.{ℕ, ◌≡◌, refl, Bool, true, false, List, [], ◌∷◌, ◌++◌}
use Rattle.laws.specs.Lists.{any, all}
use Rattle.laws.specs.Texts.{same_bytes}
use Rattle.tags.specs.Tag.{composite, is_wrapper}
use Rattle.tags.specs.Tag as tag
use Rattle.fields.specs.Field.{fields, fields_to, front, nth}
use Rattle.fields.proofs.Writing.{write, word, name, integer, identifier}
use Rattle.walking.specs.Walking.{peel, peel_first}
use Rattle.equality.specs.Equality.{strip, same_text, expr_eq, parts_eq}
use Rattle.bounds.specs.Bounds.{goes_left, wrapping_inside, bounded_by_backing, left_bounded}

infixl 80 ◌plus◌ ◌minus◌ ◌times◌ ◌over◌ ◌modulo◌ ◌shifted◌
infixl 70 ◌by◌
-- the bytes of expressions
abbrev n : List ℕ
n = identifier "n"

abbrev one : List ℕ
one = integer "1"

abbrev two : List ℕ
two = integer "2"

abbrev date : List ℕ
date = word tag.Date "2024-01-01"

abbrev checked : List ℕ → List ℕ
checked e = write tag.Checked e

abbrev wrapping : List ℕ → List ℕ
wrapping e = write tag.Wrapping e

abbrev ◌plus◌ : List ℕ → List ℕ → List ℕ
e plus f = write tag.Add (e ++ f)

abbrev ◌minus◌ : List ℕ → List ℕ → List ℕ
e minus f = write tag.Sub (e ++ f)

abbrev ◌times◌ : List ℕ → List ℕ → List ℕ
e times f = write tag.Mul (e ++ f)

abbrev ◌over◌ : List ℕ → List ℕ → List ℕ
e over f = write tag.Div (e ++ f)

abbrev ◌modulo◌ : List ℕ → List ℕ → List ℕ
e modulo f = write tag.Rem (e ++ f)

abbrev ◌shifted◌ : List ℕ → List ℕ → List ℕ
e shifted f = write tag.Shr (e ++ f)

-- bounded by n, with wrapping off and on
abbrev by_n : List ℕ → Bool
by_n amount = bounded_by_backing (front amount) (front n) false

abbrev by_n_wrapping : List ℕ → Bool
by_n_wrapping amount = bounded_by_backing (front amount) (front n) true

-- bounded by n however wrapping is: it is n, wrappers aside, or goes left to n by Div, Rem and Shr, or by a Sub for which
-- a Checked around it turned wrapping off
abbrev always : List (List ℕ)
always =
    n
    ∷ (n ++ one)
    ∷ checked n
    ∷ wrapping n
    ∷ wrapping (checked (wrapping n))
    ∷ n over two
    ∷ n shifted one
    ∷ n modulo integer "3"
    ∷ wrapping (n over two)
    ∷ wrapping n over two
    ∷ ((n over two) modulo two) shifted two
    ∷ checked (n minus one)
    ∷ wrapping (checked (n minus one))
    ∷ checked (wrapping n minus one)
    ∷ checked ((n over two) minus one) shifted one
    ∷ wrapping (checked (n minus one) over two)
    ∷ wrapping (checked ((n minus one) over two))
    ∷ checked ((((n minus one) minus n) modulo two) minus (n plus n))
    ∷ []

-- only with wrapping off from the start: a Sub with no wrapper around it
abbrev unless_wrapping : List (List ℕ)
unless_wrapping =
    n minus one
    ∷ n minus n
    ∷ wrapping n minus one
    ∷ checked n minus one
    ∷ (n over two) minus one
    ∷ (n minus one) over two
    ∷ ((((n minus one) over two) modulo two) shifted two) minus one
    ∷ []

-- never: a Sub inside Wrapping, also through Div or another wrapper; right sides; other operators, on the way too; what
-- is no operator; what has no part inside, or one that is cut, whatever stands behind it
abbrev never : List (List ℕ)
never =
    wrapping (n minus one)
    ∷ wrapping ((n over two) minus one)
    ∷ wrapping ((n minus one) over two)
    ∷ wrapping (n minus one) over two
    ∷ wrapping (checked n minus one)
    ∷ checked (wrapping (n minus one))
    ∷ wrapping (checked (wrapping (n minus one)))
    ∷ one minus n
    ∷ two over n
    ∷ two modulo n
    ∷ two shifted n
    ∷ one minus (n minus one)
    ∷ two times n
    ∷ n times two
    ∷ n plus integer "0"
    ∷ integer "0" plus n
    ∷ (n times two) over two
    ∷ (n plus one) minus one
    ∷ checked (n plus one)
    ∷ identifier "m"
    ∷ identifier "m" over n
    ∷ write tag.Negate n
    ∷ write tag.Not n
    ∷ write tag.And (n ++ n)
    ∷ write tag.Eq (n ++ n)
    ∷ write tag.Member (n ++ name "amount")
    ∷ write tag.Call n
    ∷ write tag.Call (identifier "f" ++ n)
    ∷ write tag.Guard n
    ∷ []
    ∷ (checked [] ++ n)
    ∷ (wrapping (checked []) ++ n)
    ∷ (([] minus []) ++ n)
    ∷ (([] over []) ++ n)
    ∷ (write tag.Div (tag.Identifier ∷ 0 ∷ 2 ∷ 0x6E ∷ []) ++ n)
    ∷ (tag.Div ∷ 0 ∷ 9 ∷ n)
    ∷ []

always-bounded : all by_n always ∷ all by_n_wrapping always ∷ [] ≡ true ∷ true ∷ []
unfolding same_bytes composite is_wrapper fields fields_to nth peel peel_first strip same_text expr_eq parts_eq goes_left wrapping_inside bounded_by_backing left_bounded
always-bounded = refl

bounded-unless-wrapping : all by_n unless_wrapping ∷ any by_n_wrapping unless_wrapping ∷ [] ≡ true ∷ false ∷ []
unfolding same_bytes composite is_wrapper fields fields_to nth peel peel_first strip same_text expr_eq parts_eq goes_left wrapping_inside bounded_by_backing left_bounded
bounded-unless-wrapping = refl

never-bounded : any by_n never ∷ any by_n_wrapping never ∷ [] ≡ false ∷ false ∷ []
unfolding same_bytes composite is_wrapper fields fields_to nth peel peel_first strip same_text expr_eq parts_eq goes_left wrapping_inside bounded_by_backing left_bounded
never-bounded = refl

-- Other backings

record Pair : Type 0 where
  amount : List ℕ
  backing : List ℕ

abbrev ◌by◌ : List ℕ → List ℕ → Pair
a by b = record { amount = a; backing = b }

abbrev bounded : Pair → Bool
bounded p = bounded_by_backing (front p.amount) (front p.backing) false

-- equality is that of expressions: underscores do not count, and a wrapper around an amount that equals the backing does
-- not either, whatever is inside
abbrev yes : List Pair
yes =
    (integer "1_0" over two) by integer "10"
    ∷ (n plus one) by (n plus one)
    ∷ wrapping (n minus one) by (n minus one)
    ∷ wrapping ((n minus one) over two) by (n minus one)
    ∷ ((one minus n) minus n) by (one minus n)
    ∷ []

-- integers are no values, a date equals not even itself, a backing that is less bounds nothing, and neither does a missing
-- one; the backing is taken as it stands, wrappers included
abbrev no : List Pair
no =
    (integer "010" over two) by integer "10"
    ∷ one by two
    ∷ date by date
    ∷ (date over two) by date
    ∷ checked date by date
    ∷ n by (n over two)
    ∷ n by (n minus one)
    ∷ wrapping ((n minus one) minus one) by (n minus one)
    ∷ (n over checked two) by (n over two)
    ∷ checked n by checked n
    ∷ n by checked n
    ∷ n by []
    ∷ (n over two) by []
    ∷ [] by []
    ∷ []

others-bounded : all bounded yes ∷ any bounded no ∷ [] ≡ true ∷ false ∷ []
unfolding same_bytes composite is_wrapper fields fields_to nth peel peel_first strip same_text expr_eq parts_eq goes_left wrapping_inside bounded_by_backing left_bounded
others-bounded = refl
