-- How many of a list pass a test: of numbered things at most one has a given number.
use Rattle.std.proofs.Common.{ℕ, zero, suc, ◌+◌, ◌≤◌, ◌<◌, arith, ◌≡◌, refl, ap, Bool, true, false, cond, List, [], ◌∷◌, ◌++◌, map, length, get_or}
use Rattle.std.proofs.Common.{Some}
use Rattle.laws.specs.Lists.{filter, find, remove_first, numbered}

-- a test as a number
abbrev pub bit : Bool → ℕ
bit b = cond b 1 0

module _ {A : Type 0} where
  -- how many pass
  abbrev pub count : (A → Bool) → List A → ℕ
  count f l = length (filter f l)

  pub count-cons : (f : A → Bool) (x : A) (l : List A) → count f (x ∷ l) ≡ bit (f x) + count f l
  count-cons f x l = go (f x) refl
    where
      go : (k : Bool) → f x ≡ k → count f (x ∷ l) ≡ bit (f x) + count f l
      go true h = rw h (omega arith)
      go false h = rw h (omega arith)

  pub count-append : (f : A → Bool) (l m : List A) → count f (l ++ m) ≡ count f l + count f m
  count-append f [] m = omega arith
  count-append f (x ∷ xs) m = omega (arith, count-append f xs m, count-cons f x xs, count-cons f x (xs ++ m))

  -- one that passes is counted
  count-one : (f : A → Bool) (l : List A) (i : ℕ) (d : A) → i < length l → f (get_or l i d) ≡ true → 1 ≤ count f l
  count-one f [] i d h e = omega arith
  count-one f (x ∷ xs) zero d h e = omega (arith, count-cons f x xs, ap bit e)
  count-one f (x ∷ xs) (suc i) d h e = omega (arith, count-cons f x xs, count-one f xs i d (omega arith) e)

  -- if at most one passes, two places whose elements pass are one
  pub only_one : (f : A → Bool) (l : List A) (i j : ℕ) (d : A) → count f l ≤ 1 → i < length l → j < length l →
      f (get_or l i d) ≡ true → f (get_or l j d) ≡ true → i ≡ j
  only_one f [] i j d c h k p q = omega arith
  only_one f (x ∷ xs) zero zero d c h k p q = refl
  only_one f (x ∷ xs) zero (suc j) d c h k p q = omega (arith, count-cons f x xs, ap bit p, count-one f xs j d (omega arith) q)
  only_one f (x ∷ xs) (suc i) zero d c h k p q = omega (arith, count-cons f x xs, ap bit q, count-one f xs i d (omega arith) p)
  only_one f (x ∷ xs) (suc i) (suc j) d c h k p q =
      ap suc (only_one f xs i j d (omega (arith, count-cons f x xs)) (omega arith) (omega arith) p q)

  -- the first that passes t, taken out, is one less of those that pass f, if it passes
  pub count-taken : (t f : A → Bool) (l : List A) (b : A) → find t l ≡ Some b → count f l ≡ bit (f b) + count f (remove_first t l)
  unfolding remove_first
  count-taken t f [] b e = cc
  count-taken t f (x ∷ xs) b e = go (t x) refl (count-taken t f xs b)
    where
      go : (k : Bool) → t x ≡ k → (find t xs ≡ Some b → count f xs ≡ bit (f b) + count f (remove_first t xs)) →
          count f (x ∷ xs) ≡ bit (f b) + count f (remove_first t (x ∷ xs))
      go true h r = cc (count-cons f x xs)
      go false h r = rw h (omega (arith, r (rw h at e), count-cons f x xs, count-cons f x (remove_first t xs)))

-- things made of numbered ones
module _ {A B : Type 0} (mk : ℕ × A → B) (f : B → Bool) where
  pub count_none : ((p : ℕ × A) → f (mk p) ≡ false) → (l : List (ℕ × A)) → count f (map mk l) ≡ 0
  count_none n [] = refl
  count_none n (p ∷ l) = rw (n p) (count_none n l)

  -- only the one with the number i can pass
  module _ (i : ℕ) (only : (p : ℕ × A) → f (mk p) ≡ true → i ≡ p.0) where
    -- none behind it does
    count-behind : (n : ℕ) (l : List A) → i < n → count f (map mk (numbered n l)) ≡ 0
    unfolding numbered
    count-behind n [] h = refl
    count-behind n (x ∷ xs) h = go (f (mk (n, x))) refl (count-behind (suc n) xs (omega arith))
      where
        go : (k : Bool) → f (mk (n, x)) ≡ k → count f (map mk (numbered (suc n) xs)) ≡ 0 →
            count f (map mk (numbered n (x ∷ xs))) ≡ 0
        go true e r = omega (arith, only (n, x) e)
        go false e r = rw e r

    pub count_index : (n : ℕ) (l : List A) → count f (map mk (numbered n l)) ≤ 1
    unfolding numbered
    count_index n [] = omega arith
    count_index n (x ∷ xs) = go (f (mk (n, x))) refl (count_index (suc n) xs)
      where
        go : (k : Bool) → f (mk (n, x)) ≡ k → count f (map mk (numbered (suc n) xs)) ≤ 1 →
            count f (map mk (numbered n (x ∷ xs))) ≤ 1
        go true e r = rw e (omega (arith, count-behind (suc n) xs (omega (arith, only (n, x) e))))
        go false e r = rw e r
