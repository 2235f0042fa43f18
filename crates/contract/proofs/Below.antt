-- Texts one behind the other, those of the numbers below n: the next one stands behind them.
use Rattle.std.proofs.Common.{ℕ, zero, suc, ◌*◌, ◌≤◌, ◌<◌, ◌≡◌, refl, sym, ◌∙◌, List, [], ◌∷◌, ◌++◌, append_assoc, append-nil, arith, length, length-append}
use mathlib.Core.List.{flat_map}
use Rattle.contract.specs.Records.{below}

module _ {A : Type 0} (f : A → List ℕ) where
  pub each_append : (xs ys : List A) → flat_map f (xs ++ ys) ≡ flat_map f xs ++ flat_map f ys
  unfolding flat_map
  each_append [] ys = refl
  each_append (x ∷ xs) ys = rw (each_append xs ys) (sym (append_assoc (f x) (flat_map f xs) (flat_map f ys)))

  pub each-then : (xs : List A) (x : A) → flat_map f (xs ++ x ∷ []) ≡ flat_map f xs ++ f x
  unfolding flat_map
  each-then xs x = each_append xs (x ∷ []) ∙ rw (append-nil (f x))

-- each is no longer than b
pub each-short : (f : ℕ → List ℕ) (b n : ℕ) → ((i : ℕ) → i < n → length (f i) ≤ b) → length (flat_map f (below n)) ≤ n * b
unfolding below flat_map
each-short f b zero h = omega arith
each-short f b (suc n) h =
    let l : length (flat_map f (below n)) ≤ n * b = each-short f b n (λ i g. h i (omega (arith, g))) in
    rw (each-then f (below n) n, length-append) (omega (arith, l, h n (omega arith)))
