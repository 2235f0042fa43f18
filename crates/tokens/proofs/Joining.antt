-- A number stands for a list of tokens: two such lists together have the number of the two joined.
use Rattle.std.proofs.Common.{ℕ, ◌+◌, ◌-◌, ◌≤◌, ◌<◌, ◌≡◌, refl, sym, ap, ◌∙◌, Bool, true, false, cond, ◌&&◌, List, [], ◌∷◌, ◌++◌, map, append-nil, append_assoc, arith, eqb-true, eq-eqb}
use Rattle.std.proofs.Common.{ne_eqb, le-leb, leb-true, leb-false, eqb, leb, length, drop, drop_of_length-le}
use mathlib.Core.List.{flat_map}
use borrow.Author.Tests.{eqb-false, lt-leb}
use Rattle.laws.specs.Lists.{all}
use Rattle.laws.specs.Texts.{known, same_bytes}
use Rattle.laws.proofs.Lists.{Every, all_append}
use Rattle.laws.proofs.Texts.{bytes-equal, bytes_same, same-unknown}
use Rattle.tags.specs.Tag.{is_wrapper}
use Rattle.fields.specs.Field.{front, nth}
use Rattle.fields.proofs.Reading.{front-none}
use Rattle.walking.specs.Walking.{peel}
use Rattle.tokens.specs.Tokens.{single, beside_in_asset}
use Rattle.tokens.specs.Numbers.{token_of, joined, joined_all}

-- What the code tests

pub token-none : (file : List ℕ) (k : ℕ) → k < 2 → [] ≡ token_of file k
unfolding token_of
token-none file k h = rw (lt-leb 2 k h)

pub token-there : (file : List ℕ) (k : ℕ) → 2 ≤ k → (x : List ℕ) → x ≡ drop (k - 2) file → (r : List ℕ) → r ≡ beside_in_asset (front x) → r ≡ token_of file k
unfolding token_of
token-there file k h x e r f = f ∙ rw (le-leb 2 k h, e)

module _ (file : List ℕ) (a b : ℕ) where
  pub joined-empty : b ≡ 0 → a ≡ joined file a b
  unfolding joined
  joined-empty e = rw (eq-eqb b 0 e)

  module _ (n : b ≡ 0 → ⊥) where
    pub joined-first : a ≡ 0 → b ≡ joined file a b
    unfolding joined
    joined-first e = rw (ne_eqb b 0 n, eq-eqb a 0 e)

    module _ (m : a ≡ 0 → ⊥) where
      pub joined-equal : a ≡ b → a ≡ joined file a b
      unfolding joined
      joined-equal e = rw (ne_eqb b 0 n, ne_eqb a 0 m, ← e, bytes_same (token_of file a))

      module _ (v : Bool) (g : v ≡ same_bytes (token_of file a) (token_of file b)) where
        pub joined_same : v ≡ true → a ≡ joined file a b
        unfolding joined
        joined_same h = rw (ne_eqb b 0 n, ne_eqb a 0 m, ← g, h)

        pub joined-differ : v ≡ false → 1 ≡ joined file a b
        unfolding joined
        joined-differ h = rw (ne_eqb b 0 n, ne_eqb a 0 m, ← g, h)

-- where two differ, no other changes that
pub joined-several : (file : List ℕ) (b : ℕ) → joined file 1 b ≡ 1
unfolding joined
joined-several file b = go (eqb b 0) (same_bytes (token_of file 1) (token_of file b))
  where
    go : (i k : Bool) → ◌≡◌ {A = ℕ} (cond i 1 (cond k 1 1)) 1
    go true k = refl
    go false true = refl
    go false false = refl

pub all-several : (file : List ℕ) (bs : List ℕ) → joined_all file 1 bs ≡ 1
unfolding joined_all
all-several file [] = refl
all-several file (b ∷ bs) = ap (λ k. joined_all file k bs) (joined-several file b) ∙ all-several file bs

-- one list behind another
pub joined-append : (file : List ℕ) (a : ℕ) (bs cs : List ℕ) → joined_all file a (bs ++ cs) ≡ joined_all file (joined_all file a bs) cs
unfolding joined_all
joined-append file a [] cs = refl
joined-append file a (b ∷ bs) cs = joined-append file (joined file a b) bs cs

-- with the same once more nothing changes
pub joined-again : (file : List ℕ) (a b : ℕ) → joined file (joined file a b) b ≡ joined file a b
joined-again file a b = go (eqb b 0) (eqb a 0) (same_bytes (token_of file a) (token_of file b)) refl refl refl
  where
    go : (i j k : Bool) → eqb b 0 ≡ i → eqb a 0 ≡ j → same_bytes (token_of file a) (token_of file b) ≡ k → joined file (joined file a b) b ≡ joined file a b
    go true j k p q r = sym (joined-empty file (joined file a b) b (eqb-true b 0 p))
    go false true k p q r =
        let n : b ≡ 0 → ⊥ = eqb-false b 0 p in
        let e : b ≡ joined file a b = joined-first file a b n (eqb-true a 0 q) in
        ap (λ x. joined file x b) (sym e) ∙ sym (joined-equal file b b n n refl) ∙ e
    go false false true p q r =
        let e : a ≡ joined file a b =
        joined_same file a b (eqb-false b 0 p) (eqb-false a 0 q) true (sym r) refl in
        ap (λ x. joined file x b) (sym e)
    go false false false p q r =
        let e : 1 ≡ joined file a b =
        joined-differ file a b (eqb-false b 0 p) (eqb-false a 0 q) false (sym r) refl in
        ap (λ x. joined file x b) (sym e) ∙ joined-several file b ∙ e

-- What a number stands for

-- of a list that starts with a token: whether the others are the same
abbrev pub Stating : List ℕ → ℕ → List ℕ → Bool → Type 0
Stating file k x true = (token_of file k ≡ x) × (known x ≡ true)
Stating file k x false = k ≡ 1

abbrev pub Means : List ℕ → ℕ → List (List ℕ) → Type 0
Means file k [] = k ≡ 0
Means file k (x ∷ xs) = Stating file k x (all (same_bytes x) xs)

no-token : (file : List ℕ) → token_of file 0 ≡ []
unfolding token_of
no-token file = refl

several-none : (file : List ℕ) → token_of file 1 ≡ []
unfolding token_of
several-none file = refl

-- the one token is that of the list
pub means-token : (file : List ℕ) (k : ℕ) (ts : List (List ℕ)) → Means file k ts → token_of file k ≡ single ts
unfolding single
means-token file k [] e = rw e (no-token file)
means-token file k (x ∷ xs) e = go (all (same_bytes x) xs) e
  where
    go : (b : Bool) → Stating file k x b → token_of file k ≡ cond b x []
    go true f = f.0
    go false f = rw f (several-none file)

-- a number with a token is that of a place in the file
pub nothing-beside : beside_in_asset (front []) ≡ []
unfolding beside_in_asset peel nth is_wrapper
nothing-beside = rw (front-none [] refl)

pub token-inside : (file : List ℕ) (k : ℕ) → known (token_of file k) ≡ true → k ≤ length file + 2
unfolding token_of known
token-inside file k h = go (leb k (length file + 2)) refl
  where
    go : (b : Bool) → leb k (length file + 2) ≡ b → k ≤ length file + 2
    go true e = leb-true k (length file + 2) e
    go false e =
        let l : length file + 2 < k = leb-false k (length file + 2) e in
        let d : drop (k - 2) file ≡ [] = drop_of_length-le file {i = k - 2} (omega arith) in
        let z : false ≡ true = rw (le-leb 2 k (omega arith), d, nothing-beside) at h in
        let y : ◌≡◌ {A = ℕ} 0 1 = cc in
        absurd (omega arith)

-- so two bytes hold it
pub means-small : (file : List ℕ) → length file ≤ 32768 → (k : ℕ) (ts : List (List ℕ)) → Means file k ts → k < 65536
means-small file h k [] e = omega arith
means-small file h k (x ∷ xs) e = go (all (same_bytes x) xs) e
  where
    go : (b : Bool) → Stating file k x b → k < 65536
    go true f = omega (arith, token-inside file k (rw f.0 f.1))
    go false f = omega arith

-- a number that stands for some token is not 0
stating-some : (file : List ℕ) (k : ℕ) (x : List ℕ) (b : Bool) → Stating file k x b → k ≡ 0 → ⊥
unfolding known
stating-some file k x true e z = never (sym (rw (← e.0, z, no-token file) at e.1))
  where
    never : true ≡ false → ⊥
    never h = let y : ◌≡◌ {A = ℕ} 0 1 = cc in omega arith
stating-some file k x false e z = omega arith

module _ (file : List ℕ) (a b : ℕ) (x y : List ℕ) where
  -- two lists, by whether each has one token only, and whether the first two are the same
  two : (i j k : Bool) → Stating file a x i → Stating file b y j → same_bytes x y ≡ k → Stating file (joined file a b) x (i && (k && j))
  two true true true e f g =
      rw (← joined_same file a b (stating-some file b y true f) (stating-some file a x true e) (same_bytes x y) (rw (e.0, f.0)) g) e
  two true true false e f g =
      sym (joined-differ file a b (stating-some file b y true f) (stating-some file a x true e) (same_bytes x y) (rw (e.0, f.0)) g)
  two true false k e f g = go k
    where
      differs : joined file a b ≡ 1
      differs =
          sym (joined-differ file a b (stating-some file b y false f) (stating-some file a x true e) (same_bytes x [])
          (rw (e.0, f, several-none file)) (same-unknown x [] e.1 (unfold known in refl)))

      go : (l : Bool) → Stating file (joined file a b) x (true && (l && false))
      go true = differs
      go false = differs
  two false j k e f g = ap (λ z. joined file z b) e ∙ joined-several file b

  same_rest : (ys : List (List ℕ)) → same_bytes x y && all (same_bytes x) ys ≡ same_bytes x y && all (same_bytes y) ys
  same_rest ys = go (same_bytes x y) refl
    where
      go : (k : Bool) → same_bytes x y ≡ k → k && all (same_bytes x) ys ≡ k && all (same_bytes y) ys
      go true e = rw (bytes-equal x y e)
      go false e = refl

pub means-joined : (file : List ℕ) (a b : ℕ) (ts us : List (List ℕ)) → Means file a ts → Means file b us → Means file (joined file a b) (ts ++ us)
means-joined file a b [] [] e f = sym (joined-empty file a b f) ∙ e
means-joined file a b [] (y ∷ ys) e f =
    rw (← joined-first file a b (stating-some file b y (all (same_bytes y) ys) f) e) f
means-joined file a b (x ∷ xs) [] e f = rw (← joined-empty file a b f, append-nil xs) e
means-joined file a b (x ∷ xs) (y ∷ ys) e f =
    rw (all_append (same_bytes x) xs (y ∷ ys), same_rest file a b x y ys)
    (two file a b x y (all (same_bytes x) xs) (all (same_bytes y) ys) (same_bytes x y) e f refl)

-- two tokens that differ stay so with others
pub means-several : (file : List ℕ) (ts us : List (List ℕ)) → Means file 1 ts → Means file 1 (ts ++ us)
unfolding known
means-several file [] us e = absurd (omega (arith, e))
means-several file (x ∷ xs) us e = rw (all_append (same_bytes x) xs us) (go (all (same_bytes x) xs) e)
  where
    unlike : known x ≡ true → [] ≡ x → ◌≡◌ {A = ℕ} 1 0
    unlike k f = cc

    go : (b : Bool) → Stating file 1 x b → Stating file 1 x (b && all (same_bytes x) us)
    go true f = absurd (omega (arith, unlike f.1 (sym (several-none file) ∙ f.0)))
    go false f = refl

-- of many lists
module _ {A : Type 0} (file : List ℕ) (g : A → ℕ) (h : A → List (List ℕ)) where
  pub means-all : (a : ℕ) (ts : List (List ℕ)) (xs : List A) → Means file a ts → Every (λ x. Means file (g x) (h x)) xs →
      Means file (joined_all file a (map g xs)) (ts ++ flat_map h xs)
  unfolding joined_all flat_map
  means-all a ts [] e m = rw (append-nil ts) e
  means-all a ts (x ∷ xs) e m =
      rw (append_assoc ts (h x) (flat_map h xs)) at
      (means-all (joined file a (g x)) (ts ++ h x) xs (means-joined file a (g x) ts (h x) e m.0) m.1)
