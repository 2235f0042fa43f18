-- Listed maps: what is listed of one map is of no other, so a set that is joined to that of a map changes no other map's, and neither
-- does a map that is listed behind them.
use Rattle.std.proofs.Common.{ℕ, zero, suc, ◌≤◌, ◌<◌, ◌≡◌, refl, ◌∙◌, Bool, true, false, cond, List, [], ◌∷◌, ◌++◌, Option, None, Some, arith, eqb-true, eqb, length, get_or, set, drop, find}
use Rattle.std.specs.List.{position, position_or_len}
use Rattle.std.specs.Option.{option_map_or, option_map, MatchOption}
use Rattle.std.proofs.lemmas.List.Sums.{fails_before_first}
use Rattle.laws.specs.Texts.{same_bytes}
use Rattle.laws.proofs.Texts.{bytes-equal}
use Rattle.laws.proofs.Truths.{and_left, and_right}
use Rattle.fields.specs.Field.{front}
use Rattle.fields.specs.Number.{short_number}
use Rattle.walking.specs.Walking.{ident}
use Rattle.walking.proofs.Numbered.{other-number, equal-number, number-told}
use Rattle.fundings.specs.declared.ledger.Funding.{Funding}
use Rattle.fundings.specs.Fundings.{is_map, number_of_map}

-- what the code tests: the names are compared where the numbers are equal
module _ (file m : List ℕ) (f : Funding) (own : ℕ) (e : own ≡ short_number m) where
  pub other-map : (f.number ≡ own → ⊥) → false ≡ is_map file m f
  unfolding is_map
  other-map = other-number m own f.number e (same_bytes (ident (front (drop f.place file))) m)

  pub by_map : f.number ≡ own → (place : ℕ) → place ≡ f.place → (x : List ℕ) → x ≡ drop place file → (y : List ℕ) → y ≡ ident (front x) →
      (b : Bool) → b ≡ same_bytes y m → b ≡ is_map file m f
  unfolding is_map
  by_map h place p x g y i b k = equal-number m own f.number e b h ∙ rw (k, i, g, p)

-- where the map x is listed, the names decide of which others
module _ (file x : List ℕ) (f : Funding) where
  pub map_itself : f.number ≡ short_number x → ident (front (drop f.place file)) ≡ x → (m : List ℕ) → is_map file m f ≡ same_bytes x m
  unfolding is_map
  map_itself e g m = rw (e, g) (number-told x m)

  map-same : is_map file x f ≡ true → (m : List ℕ) → is_map file m f ≡ same_bytes x m
  unfolding is_map
  map-same h =
      let same : Bool = same_bytes (ident (front (drop f.place file))) x in
      map_itself (eqb-true f.number (short_number x) (and_left _ same h)) (bytes-equal _ x (and_right (eqb f.number (short_number x)) same h))

  -- and of another map than x what is listed is not x's
  map-other : is_map file x f ≡ false → (m : List ℕ) → is_map file m f ≡ true → same_bytes x m ≡ false
  map-other h m g = go (same_bytes x m) refl
    where
      go : (b : Bool) → same_bytes x m ≡ b → b ≡ false
      go true e = cc (bytes-equal x m e)
      go false e = refl

  -- with another set it is of the same map
  pub map-kept : (g : Funding) → g.number ≡ f.number → g.place ≡ f.place → (m : List ℕ) → is_map file m g ≡ is_map file m f
  unfolding is_map
  map-kept g p q m = rw (p, q)

-- Where a map stands: it is none of those before

module _ (file x : List ℕ) where
  pub number-there : (l : List Funding) (i : ℕ) (d : Funding) → i < length l → is_map file x (get_or l i d) ≡ true →
      ((k : ℕ) → k < i → is_map file x (get_or l k d) ≡ false) → (get_or l i d).tokens ≡ number_of_map file x l
  unfolding number_of_map
  number-there [] i d h e n = absurd (omega (arith, h))
  number-there (f ∷ l) zero d h e n = rw e
  number-there (f ∷ l) (suc i) d h e n = rw (n 0 (omega arith)) (number-there l i d (omega (arith, h)) e (λ k j. n (suc k) (omega (arith, j))))

module _ (file x m : List ℕ) where
  -- another set for the map x
  pub number-written : (l : List Funding) (i : ℕ) (d : Funding) → i < length l → is_map file x (get_or l i d) ≡ true →
      ((k : ℕ) → k < i → is_map file x (get_or l k d) ≡ false) →
      (g : Funding) → g.number ≡ (get_or l i d).number → g.place ≡ (get_or l i d).place →
      number_of_map file m (set l i g) ≡ cond (same_bytes x m) g.tokens (number_of_map file m l)
  unfolding number_of_map
  number-written [] i d h e n g p q = absurd (omega (arith, h))
  number-written (f ∷ l) zero d h e n g p q = rw (map-kept file x f g p q m, map-same file x f e m) (either (same_bytes x m))
    where
      either : (b : Bool) → option_map_or (λ f. f.tokens) (cond b (Some g) (find (is_map file m) l)) 0
          ≡ cond b g.tokens (option_map_or (λ f. f.tokens) (cond b (Some f) (find (is_map file m) l)) 0)
      either true = refl
      either false = refl
  number-written (f ∷ l) (suc i) d h e n g p q =
      kept (is_map file m f) refl (number-written l i d (omega (arith, h)) e (λ k j. n (suc k) (omega (arith, j))) g p q)
    where
      kept : (b : Bool) → is_map file m f ≡ b → number_of_map file m (set l i g) ≡ cond (same_bytes x m) g.tokens (number_of_map file m l) →
          option_map_or (λ f. f.tokens) (cond b (Some f) (find (is_map file m) (set l i g))) 0
          ≡ cond (same_bytes x m) g.tokens (option_map_or (λ f. f.tokens) (cond b (Some f) (find (is_map file m) l)) 0)
      kept true b r = rw (map-other file x f (n 0 (omega arith)) m b)
      kept false b r = r

  -- the map x behind maps of which it is none
  pub number-behind : (l : List Funding) → ((k : ℕ) (d : Funding) → k < length l → is_map file x (get_or l k d) ≡ false) →
      (g : Funding) → g.number ≡ short_number x → ident (front (drop g.place file)) ≡ x →
      number_of_map file m (l ++ g ∷ []) ≡ cond (same_bytes x m) g.tokens (number_of_map file m l)
  unfolding number_of_map
  number-behind [] n g p q = rw (map_itself file x g p q m) (either (same_bytes x m))
    where
      either : (b : Bool) → option_map_or (λ f. f.tokens) (cond b (Some g) None) 0 ≡ cond b g.tokens 0
      either true = refl
      either false = refl
  number-behind (f ∷ l) n g p q =
      kept (is_map file m f) refl (number-behind l (λ k d j. n (suc k) d (omega (arith, j))) g p q)
    where
      kept : (b : Bool) → is_map file m f ≡ b → number_of_map file m (l ++ g ∷ []) ≡ cond (same_bytes x m) g.tokens (number_of_map file m l) →
          option_map_or (λ f. f.tokens) (cond b (Some f) (find (is_map file m) (l ++ g ∷ []))) 0
          ≡ cond (same_bytes x m) g.tokens (option_map_or (λ f. f.tokens) (cond b (Some f) (find (is_map file m) l)) 0)
      kept true b r = rw (map-other file x f (n 0 f (omega arith)) m b)
      kept false b r = r

-- no place of a list passes where none is found
pub none-passes : {A : Type 0} (p : A → Bool) (l : List A) → position p l ≡ None → (k : ℕ) (d : A) → k < length l → p (get_or l k d) ≡ false
none-passes p l e k d h = fails_before_first p l k d (omega (arith, h, all))
  where
    all : length l ≤ position_or_len p l
    all = grind arith

-- and where x is none of them its set is empty
pub number-empty : (file x : List ℕ) (l : List Funding) → ((k : ℕ) (d : Funding) → k < length l → is_map file x (get_or l k d) ≡ false) → number_of_map file x l ≡ 0
unfolding number_of_map
number-empty file x [] n = refl
number-empty file x (f ∷ l) n = rw (n 0 f (omega arith)) (number-empty file x l (λ k d j. n (suc k) d (omega (arith, j))))

-- the set of the first that is found
pub set-found : {X : Type 0} {Post : X → Type 0} (v : X → Funding) (file m : List ℕ) (l : List Funding) (o : Option X) → option_map v o ≡ find (is_map file m) l →
    (r : ℕ) → MatchOption o (r ≡ 0) Post → ((x : X) → Post x → r ≡ (v x).tokens) → r ≡ number_of_map file m l
unfolding number_of_map
set-found v file m l None e r p q = rw (← e) p
set-found v file m l (Some x) e r p q = rw (← e) (q x p)
