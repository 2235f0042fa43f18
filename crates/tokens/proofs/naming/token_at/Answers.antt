-- The number is read back as a condition, whose operator decides.
use Rattle.std.proofs.Common.{ℕ, ◌%◌, ◌≡◌, ◌∙◌, cond, List, [], eq-eqb, ne_eqb, leb, drop}
use Rattle.fields.specs.Field.{front, tag}
use Rattle.conditions.specs.Conditions.{opposite, operator}
use Rattle.conditions.specs.Table.{condition_at}
use Rattle.tokens.specs.Tokens.{beside_in_asset, token_named}
use Rattle.tokens.specs.Numbers.{token_at}
use Rattle.tokens.proofs.naming.token_at.Goals as goal

module _ (entry : List ℕ) (k : ℕ) (s : List ℕ) (e : s ≡ drop (k % 32768) entry) (t : ℕ) (f : t ≡ tag (front s)) (o : ℕ)
    (g : o ≡ cond (leb 32768 k) (opposite t) t) where
  other : (o ≡ 0x42 → ⊥) → [] ≡ token_at entry k
  unfolding token_at token_named condition_at operator
  other n = rw (← e, ← f, ← g, ne_eqb o 0x42 n)

  named : o ≡ 0x42 → (r : List ℕ) → r ≡ beside_in_asset (front s) → r ≡ token_at entry k
  unfolding token_at token_named condition_at operator
  named h r q = q ∙ rw (← e, ← f, ← g, eq-eqb o 0x42 h)

pub returns-then-operator_of-ne-EQ : goal.returns-then-operator_of-ne-EQ
returns-then-operator_of-ne-EQ c = search other

pub returns : goal.returns
returns c = search named
