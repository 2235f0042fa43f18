-- What a test of a callee's answer says, by the callee's contract: `search (law, told)` takes a law's premise from the two.
use Rattle.std.proofs.Common.{◌≡◌, sym, ◌∙◌, Bool, true, false, not, ℕ}
use borrow.Author.Tests.{not-true, not-false}

module _ (u w : Bool) (e : u ≡ w) where
  pub told_is : (k : Bool) → u ≡ k → w ≡ k
  told_is k h = sym e ∙ h

  pub told-not : not u ≡ true → w ≡ false
  told-not h = sym e ∙ not-true u h

  pub told-so : not u ≡ false → w ≡ true
  told-so h = sym e ∙ not-false u h

module _ (m n x y : ℕ) (e : m ≡ x) (f : n ≡ y) where
  pub told_same : m ≡ n → x ≡ y
  told_same h = sym e ∙ h ∙ f

  pub told-other : (m ≡ n → ⊥) → x ≡ y → ⊥
  told-other h g = h (e ∙ g ∙ sym f)

pub ruleset told = (told_is, told-not, told-so, told_same, told-other)
