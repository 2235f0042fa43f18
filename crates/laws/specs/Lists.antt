-- Tests of the elements of a list.
use Rattle.std.specs.Prelude.{ℕ, zero, suc, Bool, cond, List, [], ◌∷◌}
-- The library's words: whether some element passes a test, whether every element does, the elements that pass, and the
-- first of them.
pub use Rattle.std.specs.List.{list_any as any, list_all as all, filter, find}

module _ {A : Type 0} where
  -- all but that one
  unfoldable pub remove_first : (A → Bool) → List A → List A
  remove_first f [] = []
  remove_first f (x ∷ xs) = cond (f x) xs (x ∷ remove_first f xs)

  -- how many stand before it
  unfoldable pub position : (A → Bool) → List A → ℕ
  position f [] = zero
  position f (x ∷ xs) = cond (f x) zero (suc (position f xs))

  -- each with its number, counted from n
  unfoldable pub numbered : ℕ → List A → List (ℕ × A)
  numbered n [] = []
  numbered n (x ∷ xs) = (n, x) ∷ numbered (suc n) xs
