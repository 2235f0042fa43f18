-- The first of the three tests that fails decides, and the last where none does.
use Rattle.std.proofs.Common.{ℕ, ◌≡◌, ◌∙◌, Bool, true, false, not, List}
use borrow.Author.Tests.{not-true, not-false}
use Rattle.laws.specs.Texts.{same_bytes}
use Rattle.fields.specs.Field.{Field, front, part}
use Rattle.walking.specs.Walking.{peel, receiver}
use Rattle.tokens.specs.Tokens.{is_inflow, is_credit, is_funding}
use Rattle.tokens.proofs.inflow.is_funding.Goals as goal

module _ (m : List ℕ) (entry f : Field) (a : Bool) (e : a ≡ is_credit f) where
  no-credit : not a ≡ true → false ≡ is_funding m entry f
  unfolding is_funding
  no-credit h = rw (← e, not-true a h)

  module _ (h : not a ≡ false) (x : List ℕ) (g : x ≡ receiver f) (b : Bool) (k : b ≡ same_bytes x m) where
    other-map : not b ≡ true → false ≡ is_funding m entry f
    unfolding is_funding
    other-map i = rw (← e, not-false a h, ← g, ← k, not-true b i)

    by-amount : not b ≡ false → (p q : List ℕ) → front p ≡ part 2 f → front q ≡ peel (front p) → (r : Bool) → r ≡ is_inflow entry (front q) → r ≡ is_funding m entry f
    unfolding is_funding
    by-amount i p q u v r o = o ∙ rw (← e, not-false a h, ← g, ← k, not-false b i, v, u)

pub returns-then-not-is_credit : goal.returns-then-not-is_credit
returns-then-not-is_credit c = search no-credit

pub returns-then-not-same_bytes : goal.returns-then-not-same_bytes
returns-then-not-same_bytes c = search other-map

pub returns : goal.returns
returns c = search by-amount
