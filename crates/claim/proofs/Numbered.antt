-- Where things are numbered from 0, the one with a number stands at that index.
use Rattle.std.proofs.Common.{ℕ, zero, suc, ◌+◌, ◌≤◌, ◌<◌, arith, zero-add, ◌≡◌, Bool, true, ◌&&◌, List, [], ◌∷◌, map, eqb-true, eqb, length}
use mathlib.Core.Bool.{false≢true}
use Rattle.laws.specs.Lists.{any, position, numbered}
use Rattle.laws.proofs.Finding.{find-passes, find-position, any-finds}
use Rattle.laws.proofs.Truths.{and_left, and_right, either}
use Rattle.claim.specs.Claim.{passes_at}

-- an index at which an element passes is below the length
pub at-below : {A : Type 0} (f : A → Bool) (l : List A) (i : ℕ) → passes_at f l i ≡ true → i < length l
unfolding passes_at
at-below f [] i e = absurd (false≢true e)
at-below f (x ∷ xs) zero e = omega arith
at-below f (x ∷ xs) (suc i) e = omega (arith, at-below f xs i e)

-- what the first that passes t implies holds at its position
pub at_position : {A : Type 0} (t f : A → Bool) → ((x : A) → t x ≡ true → f x ≡ true) → (l : List A) → any t l ≡ true →
    passes_at f l (position t l) ≡ true
unfolding passes_at
at_position t f p l e =
    let (x, h) = any-finds t l e in
    rw (passes_at, find-position t l, h) (p x (find-passes t l x h))

-- things made of numbered ones, which keep their numbers
module _ {A B : Type 0} (mk : ℕ × A → B) (index : B → ℕ) (kept : (p : ℕ × A) → index (mk p) ≡ p.0) (f : B → Bool) where
  numbers : ℕ → List A → List B
  numbers n l = map mk (numbered n l)

  has : ℕ → B → Bool
  has i b = eqb i (index b) && f b

  has-number : (i : ℕ) (p : ℕ × A) → has i (mk p) ≡ true → i ≡ p.0
  unfolding has
  has-number i p e = rw (kept p) at (eqb-true i (index (mk p)) (and_left (eqb i (index (mk p))) (f (mk p)) e))

  -- none has a number below the first's
  none_before : (n i : ℕ) (l : List A) → any (has i) (numbers n l) ≡ true → n ≤ i
  unfolding numbered numbers
  none_before n i [] e = absurd (false≢true e)
  none_before n i (x ∷ xs) e =
      either (has i (mk (n, x))) (any (has i) (numbers (suc n) xs)) (λ h. omega (arith, has-number i (n, x) h))
      (λ h. omega (arith, none_before (suc n) i xs h)) e

  at_from : (n i : ℕ) (l : List A) → any (has (n + i)) (numbers n l) ≡ true → passes_at f (numbers n l) i ≡ true
  unfolding numbered passes_at numbers has
  at_from n i [] e = e
  at_from n zero (x ∷ xs) e =
      either (has (n + 0) (mk (n, x))) (any (has (n + 0)) (numbers (suc n) xs))
      (λ h. and_right (eqb (n + 0) (index (mk (n, x)))) (f (mk (n, x))) h)
      (λ h. absurd (omega (arith, none_before (suc n) (n + 0) xs h))) e
  at_from n (suc i) (x ∷ xs) e =
      let on : n + suc i ≡ suc n + i = omega arith in
      either (has (n + suc i) (mk (n, x))) (any (has (n + suc i)) (numbers (suc n) xs))
      (λ h. absurd (omega (arith, has-number (n + suc i) (n, x) h)))
      (λ h. at_from (suc n) i xs (rw on at h)) e

  -- the one with the number i, if it passes, passes at index i
  pub at-number : (i : ℕ) (l : List A) → any (λ b. eqb i (index b) && f b) (map mk (numbered 0 l)) ≡ true →
      passes_at f (map mk (numbered 0 l)) i ≡ true
  unfolding numbers has
  at-number i l e = at_from 0 i l (rw zero-add e)
