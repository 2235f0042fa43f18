-- The first of a list that passes a test, and the list without it: what is left and the one that was found are all there was.
use Rattle.std.proofs.Common.{zero, suc, ◌≤◌, ◌≡◌, refl, Bool, true, false, cond, ◌||◌, List, [], ◌∷◌, arith, length, drop}
use mathlib.Core.Bool.{false≢true}
use Rattle.std.proofs.Common.{None, Some}
use Rattle.std.proofs.Common.{slice_get}
use Rattle.laws.specs.Lists.{any, filter, find, remove_first, position}
use Rattle.laws.proofs.Truths.{or_right, or_swap}
use Rattle.laws.proofs.Lists.{Every}

module _ {A : Type 0} where
  -- the first that passes a test t
  module _ (t : A → Bool) where
    pub find-passes : (l : List A) (b : A) → find t l ≡ Some b → t b ≡ true
    find-passes [] b e = cc
    find-passes (x ∷ xs) b e = go (t x) refl (find-passes xs b)
      where
        go : (k : Bool) → t x ≡ k → (find t xs ≡ Some b → t b ≡ true) → t b ≡ true
        go true h r = cc
        go false h r = r (rw h at e)

    pub any-not-found : (l : List A) → find t l ≡ None → any t l ≡ false
    any-not-found [] e = refl
    any-not-found (x ∷ xs) e = go (t x) refl (any-not-found xs)
      where
        go : (k : Bool) → t x ≡ k → (find t xs ≡ None → any t xs ≡ false) → any t (x ∷ xs) ≡ false
        go true h r = cc
        go false h r = rw h (r (rw h at e))

    -- where one passes, one is found
    pub any-finds : (l : List A) → any t l ≡ true → (b : A) × (find t l ≡ Some b)
    any-finds [] e = absurd (false≢true e)
    any-finds (x ∷ xs) e = go (t x) refl (any-finds xs)
      where
        go : (k : Bool) → t x ≡ k → (any t xs ≡ true → (b : A) × (find t xs ≡ Some b)) → (b : A) × (find t (x ∷ xs) ≡ Some b)
        go true h r = (x, rw h)
        go false h r = let s = r (rw h at e) in (s.0, rw h s.1)

    -- it is the first of those that pass
    pub find-filter : (l : List A) → find t l ≡ slice_get (filter t l) 0
    find-filter [] = refl
    find-filter (x ∷ xs) = go (t x) refl (find-filter xs)
      where
        go : (k : Bool) → t x ≡ k → find t xs ≡ slice_get (filter t xs) 0 → find t (x ∷ xs) ≡ slice_get (filter t (x ∷ xs)) 0
        go true h r = rw h
        go false h r = rw h r

    -- it stands at its position, as many places behind the first as stand before it
    pub find-position : (l : List A) → slice_get l (position t l) ≡ find t l
    unfolding position
    find-position [] = refl
    find-position (x ∷ xs) = go (t x) refl (find-position xs)
      where
        go : (k : Bool) → t x ≡ k → slice_get xs (position t xs) ≡ find t xs → slice_get (x ∷ xs) (position t (x ∷ xs)) ≡ find t (x ∷ xs)
        go true h r = rw h
        go false h r = rw h r

    -- what holds of it holds of some element
    pub any_found : (f : A → Bool) (l : List A) (b : A) → find t l ≡ Some b → f b ≡ true → any f l ≡ true
    any_found f [] b e h = cc
    any_found f (x ∷ xs) b e h = go (t x) refl (any_found f xs b)
      where
        go : (k : Bool) → t x ≡ k → (find t xs ≡ Some b → f b ≡ true → any f xs ≡ true) → any f (x ∷ xs) ≡ true
        go true k r = cc
        go false k r = or_right (f x) (any f xs) (r (rw k at e) h)

    module _ (f : A → Bool) where
      -- taken out, it and the others are what there was
      pub any-removed : (l : List A) (b : A) → find t l ≡ Some b → any f l ≡ f b || any f (remove_first t l)
      unfolding remove_first
      any-removed [] b e = cc
      any-removed (x ∷ xs) b e = go (t x) refl (any-removed xs b)
        where
          go : (k : Bool) → t x ≡ k → (find t xs ≡ Some b → any f xs ≡ f b || any f (remove_first t xs)) →
              any f (x ∷ xs) ≡ f b || any f (remove_first t (x ∷ xs))
          go true h r = cc
          go false h r = rw (h, r (rw h at e)) (or_swap (f x) (f b) (any f (remove_first t xs)))

      -- and of those that pass another test none is missing
      pub filter-other : (l : List A) → ((x : A) → t x ≡ true → f x ≡ false) → filter f (remove_first t l) ≡ filter f l
      unfolding remove_first
      filter-other [] n = refl
      filter-other (x ∷ xs) n = go (t x) refl (filter-other xs n)
        where
          go : (k : Bool) → t x ≡ k → filter f (remove_first t xs) ≡ filter f xs → filter f (remove_first t (x ∷ xs)) ≡ filter f (x ∷ xs)
          go true h r = rw (h, n x h)
          go false h r = rw (h, r)

    -- of those that pass the test itself, the first is missing
    pub filter-taken : (l : List A) → filter t (remove_first t l) ≡ drop 1 (filter t l)
    unfolding remove_first
    filter-taken [] = refl
    filter-taken (x ∷ xs) = go (t x) refl (filter-taken xs)
      where
        go : (k : Bool) → t x ≡ k → filter t (remove_first t xs) ≡ drop 1 (filter t xs) →
            filter t (remove_first t (x ∷ xs)) ≡ drop 1 (filter t (x ∷ xs))
        go true h r = rw h
        go false h r = rw (h, h) r

    -- some element passes where one is found
    pub any_some : (l : List A) (b : A) → find t l ≡ Some b → any t l ≡ true
    any_some l b e = any_found t l b e (find-passes l b e)

  -- a test that no element passes
  pub find_none : (p : A → Bool) → ((x : A) → p x ≡ false) → (l : List A) → find p l ≡ None
  find_none p f [] = refl
  find_none p f (x ∷ l) = rw (f x) (find_none p f l)

  -- tests that agree on the list
  pub find-same : (p q : A → Bool) (l : List A) → Every (λ x. p x ≡ q x) l → find p l ≡ find q l
  find-same p q [] e = refl
  find-same p q (x ∷ l) e = rw (e.0, find-same p q l e.1)

  pub position-inside : (p : A → Bool) (l : List A) → position p l ≤ length l
  unfolding position
  position-inside p [] = omega arith
  position-inside p (x ∷ l) = go (p x) (position-inside p l)
    where
      go : (k : Bool) → position p l ≤ length l → cond k zero (suc (position p l)) ≤ suc (length l)
      go true h = omega arith
      go false h = omega arith
