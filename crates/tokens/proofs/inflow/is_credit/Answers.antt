-- The member's name is one of the three.
use Rattle.std.proofs.Common.{ℕ, ◌≡◌, refl, Bool, true, false, ◌||◌, List}
use Rattle.laws.specs.Texts.{bytes, same_bytes}
use Rattle.fields.specs.Field.{Field}
use Rattle.walking.specs.Walking.{method}
use Rattle.tokens.specs.Tokens.{is_credit}
use Rattle.tokens.proofs.inflow.is_credit.Goals as goal

one_of_three : (f : Field) (m : List ℕ) → m ≡ method f → (a b c : Bool) → a ≡ same_bytes m (bytes "credit") → b ≡ same_bytes m (bytes "set") →
    c ≡ same_bytes m (bytes "insert") → a || b || c ≡ is_credit f
unfolding is_credit
one_of_three f m e a b c p q r = rw (← e, ← p, ← q, ← r) (grouped a b c)
  where
    grouped : (a b c : Bool) → a || b || c ≡ a || (b || (c || false))
    grouped true b c = refl
    grouped false true c = refl
    grouped false false true = refl
    grouped false false false = refl

pub returns : goal.returns
returns c = search one_of_three
