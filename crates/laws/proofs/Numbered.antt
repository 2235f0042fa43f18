-- Each element of a list with its number.
use Rattle.std.proofs.Common.{ℕ, zero, suc, ◌+◌, ◌<◌, ◌≡◌, refl, ap, ◌∙◌, List, [], ◌∷◌, map, arith, add-zero, length, get_or}
use Rattle.laws.specs.Lists.{numbered}

module _ {A : Type 0} where
  pub numbered-length : (n : ℕ) (l : List A) → length (numbered n l) ≡ length l
  unfolding numbered
  numbered-length n [] = refl
  numbered-length n (x ∷ xs) = rw (numbered-length (suc n) xs)

  module _ {B : Type 0} (f : ℕ × A → B) where
    numbered-from : (n : ℕ) (l : List A) (i : ℕ) (d : B) (e : A) → i < length l → get_or (map f (numbered n l)) i d ≡ f (n + i, get_or l i e)
    unfolding numbered
    numbered-from n [] i d e h = absurd (omega arith)
    numbered-from n (x ∷ xs) zero d e h = rw (add-zero n)
    numbered-from n (x ∷ xs) (suc i) d e h = rw (numbered-from (suc n) xs i d e (omega arith)) (ap (λ k. f (k, get_or xs i e)) (omega arith))

    pub numbered-at : (l : List A) (i : ℕ) (d : B) (e : A) → i < length l → get_or (map f (numbered 0 l)) i d ≡ f (i, get_or l i e)
    numbered-at l i d e h = numbered-from 0 l i d e h ∙ ap (λ k. f (k, get_or l i e)) (omega arith)
