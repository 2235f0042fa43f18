-- Equal names have equal numbers, so names are compared only where their numbers are equal.
use Rattle.std.proofs.Common.{ℕ, ◌≡◌, refl, sym, ◌∙◌, Bool, true, false, ◌&&◌, List, eq-eqb, ne_eqb, eqb}
use mathlib.Core.Bool.{and-false}
use Rattle.laws.specs.Texts.{same_bytes}
use Rattle.laws.proofs.Texts.{bytes-equal}
use Rattle.fields.specs.Number.{short_number}

-- what the code tests
module _ (name : List ℕ) (own number : ℕ) (e : own ≡ short_number name) (b : Bool) where
  pub other-number : (number ≡ own → ⊥) → false ≡ eqb number (short_number name) && b
  other-number n = rw (ne_eqb number (short_number name) (λ h. n (h ∙ sym e)))

  pub equal-number : number ≡ own → b ≡ eqb number (short_number name) && b
  equal-number h = rw (eq-eqb number (short_number name) (h ∙ e))

-- of a name itself the comparison alone decides
pub number-told : (x y : List ℕ) → eqb (short_number x) (short_number y) && same_bytes x y ≡ same_bytes x y
number-told x y = go (same_bytes x y) refl
  where
    go : (b : Bool) → same_bytes x y ≡ b → eqb (short_number x) (short_number y) && b ≡ b
    go true h = rw (bytes-equal x y h, eq-eqb (short_number y) _ refl)
    go false h = and-false (eqb (short_number x) (short_number y))
