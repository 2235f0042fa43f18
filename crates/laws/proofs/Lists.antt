-- Laws of lists that are joined, mapped, filtered and tested, by induction on the list and by cases on a test.
use Rattle.std.proofs.Common.{ℕ, zero, suc, ◌≤◌, ◌<◌, ◌≡◌, refl, sym, ◌∙◌, Bool, true, false, cond, ◌&&◌, ◌||◌, List, [], ◌∷◌, ◌++◌, map, append_assoc, arith, length, get_or, take}
use mathlib.Core.List.{flat_map}
use Rattle.laws.specs.Lists.{any, all, filter}
use Rattle.laws.proofs.Truths.{or_left, or_right, either, chosen}

-- Every element

abbrev pub Every : {A : Type 0} → (A → Type 0) → List A → Type 0
Every P [] = Unit {0}
Every P (x ∷ xs) = P x × Every P xs

module _ {A : Type 0} where
  module _ (P : A → Type 0) where
    pub every_append : (l m : List A) → Every P l → Every P m → Every P (l ++ m)
    every_append [] m p q = q
    every_append (x ∷ xs) m p q = (p.0, every_append xs m p.1 q)

    pub every-filter : (f : A → Bool) (l : List A) → Every P l → Every P (filter f l)
    every-filter f [] p = tt
    every-filter f (x ∷ xs) p = let q = every-filter f xs p.1 in chosen (Every P) (f x) (p.0, q) q

    pub every-at : (l : List A) → Every P l → (n : ℕ) (d : A) → n < length l → P (get_or l n d)
    every-at [] e n d h = absurd (omega (arith, h))
    every-at (x ∷ l) e zero d h = e.0
    every-at (x ∷ l) e (suc n) d h = every-at l e.1 n d (omega (arith, h))

  pub every-weaker : (P Q : A → Type 0) → ((x : A) → P x → Q x) → (l : List A) → Every P l → Every Q l
  every-weaker P Q f [] p = tt
  every-weaker P Q f (x ∷ l) p = (f x p.0, every-weaker P Q f l p.1)

module _ {A B : Type 0} (P : A → Type 0) (Q : B → Type 0) (g : A → List B) (h : (x : A) → P x → Every Q (g x)) where
  pub every-flat_map : (l : List A) → Every P l → Every Q (flat_map g l)
  unfolding flat_map
  every-flat_map [] p = tt
  every-flat_map (x ∷ xs) p = every_append Q (g x) (flat_map g xs) (h x p.0) (every-flat_map xs p.1)

-- Joined and mapped lists

module _ {A : Type 0} where
  pub no-elements : (l : List A) → length l ≡ 0 → l ≡ []
  no-elements [] h = refl
  no-elements (x ∷ l) h = absurd (omega (arith, h))

  module _ {B : Type 0} where
    pub map_at : (f : A → B) (l : List A) (k : ℕ) (d : B) (e : A) → k < length l → get_or (map f l) k d ≡ f (get_or l k e)
    map_at f [] k d e h = absurd (omega (arith, h))
    map_at f (x ∷ l) zero d e h = refl
    map_at f (x ∷ l) (suc k) d e h = map_at f l k d e (omega (arith, h))

    pub flat_map-append : (f : A → List B) (l m : List A) → flat_map f (l ++ m) ≡ flat_map f l ++ flat_map f m
    unfolding flat_map
    flat_map-append f [] m = refl
    flat_map-append f (x ∷ l) m = rw (flat_map-append f l m) (sym (append_assoc (f x) (flat_map f l) (flat_map f m)))

-- Filtered lists

module _ {A : Type 0} where
  pub filter-append : (f : A → Bool) (l m : List A) → filter f (l ++ m) ≡ filter f l ++ filter f m
  filter-append f [] m = refl
  filter-append f (x ∷ xs) m = go (f x) (filter-append f xs m)
    where
      go : (k : Bool) → filter f (xs ++ m) ≡ filter f xs ++ filter f m →
          cond k (x ∷ filter f (xs ++ m)) (filter f (xs ++ m)) ≡ cond k (x ∷ filter f xs) (filter f xs) ++ filter f m
      go true e = rw e
      go false e = e

  pub filter-few : (f : A → Bool) (l : List A) → length (filter f l) ≤ length l
  filter-few f [] = omega arith
  filter-few f (x ∷ l) =
      let h = filter-few f l in
      chosen (λ m. length m ≤ suc (length l)) (f x) {a = x ∷ filter f l} {b = filter f l} (omega (arith, h)) (omega (arith, h))

  -- none passes, so none is left
  pub filter_none : (p : A → Bool) (l : List A) → any p l ≡ false → filter p l ≡ []
  filter_none p [] h = refl
  filter_none p (x ∷ l) h = go (p x) refl (filter_none p l)
    where
      go : (k : Bool) → p x ≡ k → (any p l ≡ false → filter p l ≡ []) → cond k (x ∷ filter p l) (filter p l) ≡ []
      go true e i = cc
      go false e i = i (rw e at h)

  -- to filter and then map is to map and then filter
  pub map-filter : {B : Type 0} (g : A → B) (f : B → Bool) (l : List A) → map g (filter (λ x. f (g x)) l) ≡ filter f (map g l)
  map-filter g f [] = refl
  map-filter g f (x ∷ l) = go (f (g x)) (map-filter g f l)
    where
      go : (k : Bool) → map g (filter (λ x. f (g x)) l) ≡ filter f (map g l) →
          map g (cond k (x ∷ filter (λ x. f (g x)) l) (filter (λ x. f (g x)) l)) ≡ cond k (g x ∷ filter f (map g l)) (filter f (map g l))
      go true e = rw e
      go false e = e

-- Some element, or all

module _ {A : Type 0} where
  -- some element passes in one list or in the other
  pub any_append : (f : A → Bool) (l m : List A) → any f (l ++ m) ≡ any f l || any f m
  any_append f [] m = refl
  any_append f (x ∷ xs) m = go (f x) (any_append f xs m)
    where
      go : (k : Bool) → any f (xs ++ m) ≡ any f xs || any f m → k || any f (xs ++ m) ≡ (k || any f xs) || any f m
      go true r = refl
      go false r = r

  -- one of the first
  pub any_left : (p : A → Bool) (l m : List A) → any p l ≡ true → any p (l ++ m) ≡ true
  any_left p l m e = any_append p l m ∙ or_left (any p l) (any p m) e

  -- one of the first n, by its number
  pub any-among : (p : A → Bool) (l : List A) (n k : ℕ) (d : A) → k < n → n ≤ length l → p (get_or l k d) ≡ true → any p (take n l) ≡ true
  any-among p [] n k d h w e = absurd (omega (arith, h, w))
  any-among p (x ∷ l) zero k d h w e = absurd (omega (arith, h))
  any-among p (x ∷ l) (suc n) zero d h w e = or_left (p x) _ e
  any-among p (x ∷ l) (suc n) (suc k) d h w e = or_right (p x) _ (any-among p l n k d (omega (arith, h)) (omega (arith, w)) e)

  -- a test that no element passes
  pub any_none : (p : A → Bool) → ((x : A) → p x ≡ false) → (l : List A) → any p l ≡ false
  any_none p f [] = refl
  any_none p f (x ∷ l) = rw (f x, any_none p f l)

  -- tests that agree
  pub any_same : (p q : A → Bool) → ((x : A) → p x ≡ q x) → (l : List A) → any p l ≡ any q l
  any_same p q f [] = refl
  any_same p q f (x ∷ l) = rw (f x, any_same p q f l)

  pub any-implied : (f g : A → Bool) → ((x : A) → f x ≡ true → g x ≡ true) → (l : List A) → any f l ≡ true → any g l ≡ true
  any-implied f g p [] e = e
  any-implied f g p (x ∷ xs) e =
      either (f x) (any f xs) (λ h. or_left (g x) (any g xs) (p x h))
      (λ h. or_right (g x) (any g xs) (any-implied f g p xs h)) e

  pub any-map : {B : Type 0} (f : A → B) (test : B → Bool) (l : List A) → any test (map f l) ≡ any (λ x. test (f x)) l
  any-map f test [] = refl
  any-map f test (x ∷ l) = rw (any-map f test l)

  -- some element that passes one test passes another
  pub any-filter : (p q : A → Bool) (l : List A) → any p (filter q l) ≡ any (λ x. q x && p x) l
  any-filter p q [] = refl
  any-filter p q (x ∷ l) = go (q x) (any-filter p q l)
    where
      go : (k : Bool) → any p (filter q l) ≡ any (λ x. q x && p x) l →
          any p (cond k (x ∷ filter q l) (filter q l)) ≡ k && p x || any (λ x. q x && p x) l
      go true e = rw e
      go false e = e

  pub all_append : (f : A → Bool) (l m : List A) → all f (l ++ m) ≡ all f l && all f m
  all_append f [] m = refl
  all_append f (x ∷ xs) m = go (f x) (all_append f xs m)
    where
      go : (b : Bool) → all f (xs ++ m) ≡ all f xs && all f m → b && all f (xs ++ m) ≡ b && all f xs && all f m
      go true e = e
      go false e = refl

-- to take only what passes a test first changes nothing, where a later test implies it
module _ {A : Type 0} (f g : A → Bool) (implies : (x : A) → f x ≡ true → g x ≡ true) where
  pub filter-first : (l : List A) → filter f (filter g l) ≡ filter f l
  filter-first [] = refl
  filter-first (x ∷ xs) = go (f x) (g x) refl refl (filter-first xs)
    where
      go : (j k : Bool) → f x ≡ j → g x ≡ k → filter f (filter g xs) ≡ filter f xs →
          filter f (cond k (x ∷ filter g xs) (filter g xs)) ≡ cond j (x ∷ filter f xs) (filter f xs)
      go true true p q e = rw (p, e)
      go true false p q e = cc (implies x p)
      go false true p q e = rw (p, e)
      go false false p q e = e

  pub any-first : (l : List A) → any f (filter g l) ≡ any f l
  any-first [] = refl
  any-first (x ∷ xs) = go (f x) (g x) refl refl (any-first xs)
    where
      go : (j k : Bool) → f x ≡ j → g x ≡ k → any f (filter g xs) ≡ any f xs →
          any f (cond k (x ∷ filter g xs) (filter g xs)) ≡ j || any f xs
      go true true p q e = rw p
      go true false p q e = cc (implies x p)
      go false true p q e = rw (p, e)
      go false false p q e = e
