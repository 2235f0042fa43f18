-- The elements whose numbers are marked: the first of them that passes a test is found by its number, and to clear its mark is
-- to take it out.
use Rattle.std.proofs.Common.{ℕ, zero, suc, ◌≤◌, ◌<◌, ◌≡◌, refl, sym, ap, ◌∙◌, Bool, true, false, cond, not, ◌&&◌, ◌||◌, List, [], ◌∷◌, arith, ltb-true, ltb-false, ltb, length, get_or, set}
use Rattle.std.proofs.Common.{get_or-set_same}
use Rattle.std.proofs.Common.{None, Some}
use lib.ListN.{get_or-eq_default}
use lib.Seq.{set_out}
use Rattle.laws.specs.Lists.{any, find, remove_first}
use Rattle.laws.specs.Numbers.{chosen_by, first_from, down_from}
use Rattle.laws.proofs.Truths.{or_swap}

-- The first number that passes

first_on : (p : ℕ → Bool) (i n : ℕ) → first_from p (suc i) n ≡ suc (first_from (λ k. p (suc k)) i n)
unfolding first_from
first_on p i zero = refl
first_on p i (suc n) = go (p (suc i)) (first_on p (suc i) n)
  where
    go : (b : Bool) → first_from p (suc (suc i)) n ≡ suc (first_from (λ k. p (suc k)) (suc i) n) →
        cond b (suc i) (first_from p (suc (suc i)) n) ≡ suc (cond b i (first_from (λ k. p (suc k)) (suc i) n))
    go true e = refl
    go false e = e

pub first_step : (p : ℕ → Bool) (n : ℕ) → first_from p 0 (suc n) ≡ cond (p 0) 0 (suc (first_from (λ k. p (suc k)) 0 n))
unfolding first_from
first_step p n = rw (first_on p 0 n)

-- tests that agree on all n numbers find the same
pub first-same : (p q : ℕ → Bool) (n : ℕ) → ((i : ℕ) → i < n → p i ≡ q i) → first_from p 0 n ≡ first_from q 0 n
unfolding first_from
first-same p q zero h = refl
first-same p q (suc n) h =
    rw (first_step p n, first_step q n, h 0 (omega arith), first-same (λ k. p (suc k)) (λ k. q (suc k)) n (λ i l. h (suc i) (omega arith)))

-- what is found passes
pub first-true : (p : ℕ → Bool) (n r : ℕ) → r ≡ first_from p 0 n → r < n → p r ≡ true
unfolding first_from
first-true p zero r e h = absurd (omega arith)
first-true p (suc n) r e h = go (p 0) refl (first-true (λ k. p (suc k)) n (first_from (λ k. p (suc k)) 0 n) refl)
  where
    go : (b : Bool) → p 0 ≡ b → (first_from (λ k. p (suc k)) 0 n < n → p (suc (first_from (λ k. p (suc k)) 0 n)) ≡ true) → p r ≡ true
    go true f i = let z : r ≡ 0 = rw f at (e ∙ first_step p n) in rw z f
    go false f i = let z : r ≡ suc (first_from (λ k. p (suc k)) 0 n) = rw f at (e ∙ first_step p n) in rw z (i (omega (arith, z, h)))

-- marks that agree choose the same
pub chosen-same : {A : Type 0} (p q : ℕ → Bool) (l : List A) → ((i : ℕ) → p i ≡ q i) → chosen_by p l ≡ chosen_by q l
unfolding chosen_by
chosen-same p q [] h = refl
chosen-same p q (x ∷ xs) h = rw (h 0, chosen-same (λ i. p (suc i)) (λ i. q (suc i)) xs (λ i. h (suc i)))

-- the mark of one number is cleared
pub record Cleared (p q : ℕ → Bool) (r : ℕ) : Type 0 where
  pub was : p r ≡ true
  pub gone : q r ≡ false
  pub kept : (i : ℕ) → (i ≡ r → ⊥) → q i ≡ p i

later : (p q : ℕ → Bool) (r : ℕ) → Cleared p q (suc r) → Cleared (λ i. p (suc i)) (λ i. q (suc i)) r
later p q r c = record { was = c.was; gone = c.gone; kept = λ i n. c.kept (suc i) (λ e. n (omega (arith, e))) }

module _ {A : Type 0} (d : A) where
  -- an element is chosen and passes
  abbrev pub chosen_at : (ℕ → Bool) → (A → Bool) → List A → ℕ → Bool
  chosen_at p test l i = p i && test (get_or l i d)

  -- the number behind the first
  abbrev tail : (ℕ → Bool) → (A → Bool) → List A → ℕ
  tail p test xs = first_from (chosen_at (λ i. p (suc i)) test xs) 0 (length xs)

  -- the first number, by whether the first element is chosen and passes
  module _ (p : ℕ → Bool) (test : A → Bool) (x : A) (xs : List A) (r : ℕ) (e : r ≡ first_from (chosen_at p test (x ∷ xs)) 0 (length (x ∷ xs))) where
    here : chosen_at p test (x ∷ xs) 0 ≡ true → r ≡ 0
    here f = rw f at (e ∙ first_step (chosen_at p test (x ∷ xs)) (length xs))

    behind : chosen_at p test (x ∷ xs) 0 ≡ false → r ≡ suc (tail p test xs)
    behind f = rw f at (e ∙ first_step (chosen_at p test (x ∷ xs)) (length xs))

  pub chosen-found : (p : ℕ → Bool) (test : A → Bool) (l : List A) (r : ℕ) → r ≡ first_from (chosen_at p test l) 0 (length l) → r < length l →
      find test (chosen_by p l) ≡ Some (get_or l r d)
  unfolding chosen_by
  chosen-found p test [] r e h = absurd (omega arith)
  chosen-found p test (x ∷ xs) r e h = go (p 0) (test x) refl refl (chosen-found (λ i. p (suc i)) test xs (tail p test xs) refl)
    where
      go : (j k : Bool) → p 0 ≡ j → test x ≡ k →
          (tail p test xs < length xs → find test (chosen_by (λ i. p (suc i)) xs) ≡ Some (get_or xs (tail p test xs) d)) →
          find test (chosen_by p (x ∷ xs)) ≡ Some (get_or (x ∷ xs) r d)
      go true true f g i = let z = here p test x xs r e (rw (f, g)) in rw (f, g, z)
      go true false f g i = let z = behind p test x xs r e (rw (f, g)) in rw (f, g, z) (i (omega (arith, z, h)))
      go false k f g i = let z = behind p test x xs r e (rw f) in rw (f, z) (i (omega (arith, z, h)))

  pub chosen-not-found : (p : ℕ → Bool) (test : A → Bool) (l : List A) → length l ≤ first_from (chosen_at p test l) 0 (length l) → find test (chosen_by p l) ≡ None
  unfolding chosen_by
  chosen-not-found p test [] h = refl
  chosen-not-found p test (x ∷ xs) h = go (p 0) (test x) refl refl (chosen-not-found (λ i. p (suc i)) test xs)
    where
      go : (j k : Bool) → p 0 ≡ j → test x ≡ k → (length xs ≤ tail p test xs → find test (chosen_by (λ i. p (suc i)) xs) ≡ None) →
          find test (chosen_by p (x ∷ xs)) ≡ None
      go true true f g i = absurd (omega (arith, h, here p test x xs _ refl (rw (f, g))))
      go true false f g i = rw (f, g) (i (omega (arith, h, behind p test x xs _ refl (rw (f, g)))))
      go false k f g i = rw f (i (omega (arith, h, behind p test x xs _ refl (rw f))))

  -- the first of them is taken out where its mark is cleared
  pub remove-chosen : (p q : ℕ → Bool) (test : A → Bool) (l : List A) (r : ℕ) → r ≡ first_from (chosen_at p test l) 0 (length l) → r < length l →
      Cleared p q r → remove_first test (chosen_by p l) ≡ chosen_by q l
  unfolding remove_first chosen_by
  remove-chosen p q test [] r e h c = absurd (omega arith)
  remove-chosen p q test (x ∷ xs) r e h c =
      go (p 0) (test x) refl refl (remove-chosen (λ i. p (suc i)) (λ i. q (suc i)) test xs (tail p test xs) refl)
    where
      go : (j k : Bool) → p 0 ≡ j → test x ≡ k →
          (tail p test xs < length xs → Cleared (λ i. p (suc i)) (λ i. q (suc i)) (tail p test xs) →
          remove_first test (chosen_by (λ i. p (suc i)) xs) ≡ chosen_by (λ i. q (suc i)) xs) →
          remove_first test (chosen_by p (x ∷ xs)) ≡ chosen_by q (x ∷ xs)
      go true true f g i =
          let z = here p test x xs r e (rw (f, g)) in
          let u : q 0 ≡ false = rw z at c.gone in
          rw (f, g, u) (chosen-same (λ k. p (suc k)) (λ k. q (suc k)) xs (λ k. sym (c.kept (suc k) (λ n. omega (arith, n, z)))))
      go true false f g i =
          let z = behind p test x xs r e (rw (f, g)) in
          let u : q 0 ≡ true = c.kept 0 (λ n. omega (arith, n, z)) ∙ f in
          rw (f, u, g, i (omega (arith, z, h)) (later p q (tail p test xs) (rw z at c)))
      go false k f g i =
          let z = behind p test x xs r e (rw f) in
          let u : q 0 ≡ false = c.kept 0 (λ n. omega (arith, n, z)) ∙ f in
          rw (f, u) (i (omega (arith, z, h)) (later p q (tail p test xs) (rw z at c)))

  -- and it is one of those whose marks are not set then, besides the earlier ones
  pub taken-chosen : (p q : ℕ → Bool) (test : A → Bool) (l : List A) (r : ℕ) → r < length l → Cleared p q r →
      any test (chosen_by (λ i. not (q i)) l) ≡ test (get_or l r d) || any test (chosen_by (λ i. not (p i)) l)
  unfolding chosen_by
  taken-chosen p q test [] r h c = absurd (omega arith)
  taken-chosen p q test (x ∷ xs) zero h c =
      rw (c.was, c.gone, chosen-same (λ k. not (q (suc k))) (λ k. not (p (suc k))) xs (λ k. ap not (c.kept (suc k) (λ n. omega (arith, n)))))
  taken-chosen p q test (x ∷ xs) (suc r) h c =
      go (p 0) refl (c.kept 0 (λ n. omega (arith, n))) (taken-chosen (λ i. p (suc i)) (λ i. q (suc i)) test xs r (omega arith) (later p q r c))
    where
      go : (j : Bool) → p 0 ≡ j → q 0 ≡ p 0 →
          any test (chosen_by (λ i. not (q (suc i))) xs) ≡ test (get_or xs r d) || any test (chosen_by (λ i. not (p (suc i))) xs) →
          any test (chosen_by (λ i. not (q i)) (x ∷ xs)) ≡ test (get_or xs r d) || any test (chosen_by (λ i. not (p i)) (x ∷ xs))
      go true e f i = rw (f, e) i
      go false e f i = rw (f, e, i) (or_swap (test x) (test (get_or xs r d)) (any test (chosen_by (λ k. not (p (suc k))) xs)))

-- a mark that was cleared is not set, in range or not
pub cleared-mark : (l : List Bool) (i : ℕ) → get_or (set l i false) i false ≡ false
cleared-mark l i = go (ltb i (length l)) refl
  where
    go : (b : Bool) → ltb i (length l) ≡ b → get_or (set l i false) i false ≡ false
    go true e = get_or-set_same l i false false (ltb-true i (length l) e)
    go false e = let h = ltb-false i (length l) e in rw (set_out l i false h) (get_or-eq_default l false h)

-- all are marked, or none
pub all-chosen : {A : Type 0} (p : ℕ → Bool) (l : List A) → ((i : ℕ) → i < length l → p i ≡ true) → chosen_by p l ≡ l
unfolding chosen_by
all-chosen p [] h = refl
all-chosen p (x ∷ xs) h = rw (h 0 (omega arith), all-chosen (λ i. p (suc i)) xs (λ i l. h (suc i) (omega arith)))

pub none-chosen : {A : Type 0} (p : ℕ → Bool) (l : List A) → ((i : ℕ) → i < length l → p i ≡ false) → chosen_by p l ≡ []
unfolding chosen_by
none-chosen p [] h = refl
none-chosen p (x ∷ xs) h = rw (h 0 (omega arith)) (none-chosen (λ i. p (suc i)) xs (λ i l. h (suc i) (omega arith)))

-- what numbers stand for, where they agree
pub down_from-same : {A : Type 0} (f g : ℕ → A) (n : ℕ) → ((i : ℕ) → i < n → f i ≡ g i) → down_from f n ≡ down_from g n
unfolding down_from
down_from-same f g zero h = refl
down_from-same f g (suc n) h = rw (h n (omega arith), down_from-same f g n (λ i l. h i (omega arith)))
