-- A field equals itself where no tag in it equals nothing: its text is the same as itself, and so on inside.
use Rattle.std.proofs.Common.{ℕ, ◌<◌, ◌≡◌, refl, ◌∙◌, Bool, true, false, not, ◌&&◌, ◌||◌, List, [], arith, leb-true, leb-false, ne_eqb, eq-eqb, T, leb, eqb, leb→le}
use mathlib.Core.Bool.{beq, and-true, and-false, or-true}
use borrow.Author.Tests.{lt-leb}
use Rattle.laws.specs.Texts.{same_bytes}
use Rattle.laws.proofs.Numbers.{below}
use Rattle.laws.proofs.Texts.{bytes_same}
use Rattle.laws.proofs.Truths.{and_left, and_right, same_truth}
use Rattle.tags.specs.Tag.{is_expression, composite}
use Rattle.fields.specs.Field.{Field, Fields}
use Rattle.fields.specs.Field.Field.{field}
use Rattle.fields.specs.Field.Fields.{end, next}
use Rattle.equality.specs.Equality.{strip, same_text, expr_eq, parts_eq}
use Rattle.equality.specs.Itself.{every_tag, every_tags, equals_nothing, in_expression, equals_itself}

-- whether a field of this tag, with a text and no parts, equals itself: with no text it is the same
same-with-none : (t : ℕ) (x : List ℕ) → same_text t x x ≡ same_text t [] []
unfolding same_text strip same_bytes
same-with-none t x = rw (bytes_same (strip x), bytes_same x)

abbrev passes : ℕ → Bool
passes t = not (equals_nothing t) && (composite t || in_expression t)

-- computed at each tag up to the last, 4D
low-tags : (t : ℕ) → t < 0x4E → composite t || same_text t [] [] ≡ passes t
unfolding composite same_text strip same_bytes equals_nothing in_expression is_expression
low-tags t h = same_truth _ _ (below (λ t. beq (composite t || same_text t [] []) (passes t)) 0x4E refl t h)

-- behind it a tag is of no class
module _ (t : ℕ) (h : 0x4D < t) where
  past : (m n : ℕ) → T (leb n 0x4D) → leb m t && leb t n ≡ false
  past m n l = rw (lt-leb t n (omega (arith, leb→le n 0x4D l))) (and-false (leb m t))

  other : (m : ℕ) → T (leb m 0x4D) → eqb t m ≡ false
  other m l = ne_eqb t m (λ e. omega (arith, leb→le m 0x4D l))

  high-tags : composite t || same_text t [] [] ≡ passes t
  unfolding composite same_text strip same_bytes equals_nothing in_expression is_expression
  high-tags = simp (past, other, tt {0})

tag-itself : (t : ℕ) (x : List ℕ) → composite t || same_text t x x ≡ passes t
tag-itself t x = rw (same-with-none t x) (go (leb t 0x4D) refl)
  where
    go : (k : Bool) → leb t 0x4D ≡ k → composite t || same_text t [] [] ≡ passes t
    go true h = low-tags t (omega (arith, leb-true t 0x4D h))
    go false h = high-tags t (leb-false t 0x4D h)

mutual
  unfolding expr_eq parts_eq every_tag every_tags

  -- of every field, and by the tags in it alone: every text and every list is the same as itself
  pub equals-itself : (f : Field) → expr_eq f f ≡ equals_itself f
  equals-itself (field t x ps) = rw (eq-eqb t t refl, tag-itself t x, parts-themselves ps)

  parts-themselves : (ps : Fields) → parts_eq ps ps ≡ every_tags ps passes
  parts-themselves (end r) = refl
  parts-themselves (next f fs) = rw (equals-itself f, parts-themselves fs)

-- the tags of expressions are among those that pass, but for in-asset, native and date
expression-tag : (t : ℕ) → in_expression t ≡ true → passes t ≡ not (equals_nothing t)
expression-tag t e = rw (e, or-true (composite t)) (and-true (not (equals_nothing t)))

mutual
  unfolding every_tag every_tags

  expression-tags : (f : Field) → every_tag f in_expression ≡ true → every_tag f passes ≡ every_tag f (λ t. not (equals_nothing t))
  expression-tags (field t x ps) e =
      rw (
        expression-tag t (and_left (in_expression t) (every_tags ps in_expression) e),
        expressions-tags ps (and_right (in_expression t) (every_tags ps in_expression) e),
      )

  expressions-tags : (ps : Fields) → every_tags ps in_expression ≡ true → every_tags ps passes ≡ every_tags ps (λ t. not (equals_nothing t))
  expressions-tags (end r) e = refl
  expressions-tags (next f fs) e =
      rw (
        expression-tags f (and_left (every_tag f in_expression) (every_tags fs in_expression) e),
        expressions-tags fs (and_right (every_tag f in_expression) (every_tags fs in_expression) e),
      )

-- an expression equals itself exactly where no in-asset, native or date stands in it. The premise, that only expressions
-- and members' names stand in it, holds of every expression of a file that passes the questions; without it a type name or
-- a field of an unknown tag, which equal nothing either, could stand in it.
pub expression-equals-itself : (f : Field) → every_tag f in_expression ≡ true → expr_eq f f ≡ every_tag f (λ t. not (equals_nothing t))
expression-equals-itself f e = equals-itself f ∙ expression-tags f e
