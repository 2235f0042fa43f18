-- Elements of a list by their numbers: those whose numbers are marked, and the first number that passes a test.
use Rattle.std.specs.Prelude.{ℕ, zero, suc, Bool, cond, List, [], ◌∷◌}

-- the elements whose numbers are marked, in order
unfoldable pub chosen_by : {A : Type 0} → (ℕ → Bool) → List A → List A
chosen_by p [] = []
chosen_by p (x ∷ xs) = cond (p zero) (x ∷ chosen_by (λ i. p (suc i)) xs) (chosen_by (λ i. p (suc i)) xs)

-- the first of n numbers, counted from i, that passes; the one behind them where none does
unfoldable pub first_from : (ℕ → Bool) → (i n : ℕ) → ℕ
first_from p i zero = i
first_from p i (suc n) = cond (p i) i (first_from p (suc i) n)

-- what n numbers stand for, the last first
unfoldable pub down_from : {A : Type 0} → (ℕ → A) → ℕ → List A
down_from f zero = []
down_from f (suc n) = f n ∷ down_from f n
