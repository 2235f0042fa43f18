-- Laws of numbers that are compared, or tested one after the other.
use Rattle.std.proofs.Common.{ℕ, zero, suc, ◌<◌, ◌≡◌, refl, sym, Bool, true, false, not, ◌&&◌, ◌||◌, ⊎_elim, eq-or-lt_of_le, le_of_suc-le-suc, not-suc-le-zero, eqb-true, eq-eqb, ne_eqb, eqb}
use borrow.Author.Tests.{eqb-false}
use Rattle.laws.proofs.Truths.{and_left, and_right}

-- equal numbers are equal either way round, and different ones differ
pub number-symmetric : (m n : ℕ) → eqb m n ≡ eqb n m
number-symmetric m n = go (eqb m n) refl
  where
    go : (k : Bool) → eqb m n ≡ k → eqb m n ≡ eqb n m
    go true e = rw (e, eq-eqb n m (sym (eqb-true m n e)))
    go false e = rw (e, ne_eqb n m (λ h. eqb-false m n e (sym h)))

-- what a computed test shows of every number below a bound holds of each
abbrev pub holds_below : (ℕ → Bool) → ℕ → Bool
holds_below f zero = true
holds_below f (suc n) = f n && holds_below f n

pub below : (f : ℕ → Bool) (n : ℕ) → holds_below f n ≡ true → (k : ℕ) → k < n → f k ≡ true
below f zero t k h = absurd (not-suc-le-zero h)
below f (suc n) t k h =
    ⊎_elim (λ e. rw e (and_left (f n) (holds_below f n) t))
    (λ l. below f n (and_right (f n) (holds_below f n) t) k l) (eq-or-lt_of_le (le_of_suc-le-suc h))

-- the same where the test has a premise
abbrev pub implies : (ℕ → Bool) → (ℕ → Bool) → ℕ → Bool
implies f g k = not (f k) || g k

pub implied : (f g : ℕ → Bool) (n : ℕ) → holds_below (implies f g) n ≡ true → (k : ℕ) → k < n → f k ≡ true → g k ≡ true
implied f g n t k h e = rw e at (below (implies f g) n t k h)
