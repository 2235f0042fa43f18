-- How many conditions there are at most: each is an expression of its own, which takes three bytes at least.
use Rattle.std.proofs.Common.{ℕ, ◌+◌, ◌*◌, ◌≤◌, List, ◌++◌, arith, eqb, length, length-append}
use Rattle.laws.proofs.Truths.{chosen}
use Rattle.tags.specs.Tag.{Denies, Not, Or, And, Eq, Ge, between}
use Rattle.fields.specs.Field.{Field, Fields, Placed, tag, parts, size, sizes}
use Rattle.fields.specs.Field.Field.{field}
use Rattle.fields.specs.Field.Fields.{end, next}
use Rattle.fields.proofs.Places.{parts-inside}
use Rattle.conditions.specs.Conditions.{Condition, split_and, split_each, split_first, negated, negated_each, negated_first, conditions_of}

-- so many conditions fit into so many bytes
abbrev Fit : ℕ → List Condition → Type 0
Fit b cs = 3 * length cs ≤ b

fit_append : (a b : ℕ) (cs ds : List Condition) → Fit a cs → Fit b ds → Fit (a + b) (cs ++ ds)
fit_append a b cs ds p q = rw length-append (omega arith)

mutual
  unfolding split_and size

  pub split-few : (n : ℕ) (f : Field) → 3 * length (split_and n f) ≤ size f
  split-few n (field t x ps) =
      chosen (Fit (size (field t x ps))) (eqb t And) (omega (arith, split-each-few (n + 3) ps)) (omega arith)

  pub split-each-few : (n : ℕ) (fs : Fields) → 3 * length (split_each n fs) ≤ sizes fs
  split-each-few n (end r) = omega arith
  split-each-few n (next f fs) =
      fit_append (size f) (sizes fs) (split_and n f) (split_each (n + size f) fs) (split-few n f) (split-each-few (n + size f) fs)

pub split-first-few : (n : ℕ) (fs : Fields) → 3 * length (split_first n fs) ≤ sizes fs
unfolding split_first sizes
split-first-few n (end r) = omega arith
split-first-few n (next f fs) = omega (arith, split-few n f)

mutual
  unfolding negated size

  pub negated-few : (n : ℕ) (f : Field) → 3 * length (negated n f) ≤ size f
  negated-few n (field t x ps) =
      chosen (Fit (size (field t x ps))) (eqb t Not) (omega (arith, split-first-few (n + 3) ps))
      (chosen (Fit (size (field t x ps))) (eqb t Or) (omega (arith, negated-each-few (n + 3) ps))
      (chosen (Fit (size (field t x ps))) (between Eq Ge t) (omega arith) (omega arith)))

  pub negated-each-few : (n : ℕ) (fs : Fields) → 3 * length (negated_each n fs) ≤ sizes fs
  negated-each-few n (end r) = omega arith
  negated-each-few n (next f fs) =
      fit_append (size f) (sizes fs) (negated n f) (negated_each (n + size f) fs) (negated-few n f) (negated-each-few (n + size f) fs)

negated-first-few : (n : ℕ) (fs : Fields) → 3 * length (negated_first n fs) ≤ sizes fs
unfolding negated_first sizes
negated-first-few n (end r) = omega arith
negated-first-few n (next f fs) = omega (arith, negated-few n f)

-- of a clause or a guard: its expression stands behind its head
pub conditions-few : (p : Placed) → 3 + 3 * length (conditions_of p) ≤ size p.this
unfolding conditions_of
conditions-few p =
    let l : 3 * length (conditions_of p) ≤ sizes (parts p.this) =
    chosen (Fit (sizes (parts p.this))) (eqb (tag p.this) Denies)
    (negated-first-few (p.place + 3) (parts p.this)) (split-first-few (p.place + 3) (parts p.this)) in
    omega (arith, parts-inside p.this)
