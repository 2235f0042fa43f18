-- A token that is found is the text of an identifier that stands in the file, so it shows the bytes behind that one's head.
use Rattle.std.proofs.Common.{ℕ, zero, suc, ◌+◌, ◌-◌, ◌≡◌, refl, sym, ap, ◌∙◌, Bool, true, false, cond, List, [], ◌∷◌, arith, add-zero, add_assoc, eqb, leb, length, take, drop, drop-drop}
use lib.Seq.{drop-length}
use Rattle.laws.specs.Texts.{known}
use Rattle.laws.proofs.Lists.{Every}
use Rattle.tags.specs.Tag.{InAsset, Identifier, is_wrapper}
use Rattle.fields.specs.Field.{Field, Fields, front, tag, text, parts, part, nth, nothing, size, place_of, placed}
use Rattle.fields.specs.Field.Field.{field}
use Rattle.fields.specs.Field.Fields.{end, next}
use Rattle.fields.proofs.Reading.{front-none}
use Rattle.fields.proofs.Parts.{text-bytes}
use Rattle.fields.proofs.Inside.{Stands, parts-stand}
use Rattle.walking.specs.Walking.{peel, peel_first, peel_place, peel_first_place, ident}
use Rattle.tokens.specs.Tokens.{beside_in_asset}
use Rattle.tokens.specs.Numbers.{token_of}
use Rattle.tokens.specs.Place.{beside_place, token_place}

-- a peeled field stands at its place, down to where a wrapper holds none
mutual
  unfolding peel peel_place placed

  pub peel-stands : (file : List ℕ) (n : ℕ) (f : Field) → front (drop n file) ≡ f → front (drop (peel_place (length file) n f) file) ≡ peel f
  peel-stands file n (field t x ps) e = go (is_wrapper t) (peel-first-stands file (n + 3) ps (parts-stand file (record { place = n; this = field t x ps }) e))
    where
      go : (k : Bool) → front (drop (peel_first_place (length file) (n + 3) ps) file) ≡ peel_first ps →
          front (drop (cond k (peel_first_place (length file) (n + 3) ps) n) file) ≡ cond k (peel_first ps) (field t x ps)
      go true h = h
      go false h = e

  peel-first-stands : (file : List ℕ) (n : ℕ) (fs : Fields) → Every (Stands file) (placed n fs) →
      front (drop (peel_first_place (length file) n fs) file) ≡ peel_first fs
  peel-first-stands file n (end r) e = ap (λ x. front x) (drop-length file) ∙ front-none [] refl
  peel-first-stands file n (next f fs) e = peel-stands file n f e.0

-- places counted from elsewhere
mutual
  unfolding peel_place

  pub peel-shift : (a last n : ℕ) (f : Field) → peel_place (a + last) (a + n) f ≡ a + peel_place last n f
  peel-shift a last n (field t x ps) = go (is_wrapper t) (peel-first-shift a last (n + 3) ps)
    where
      go : (k : Bool) → peel_first_place (a + last) (a + (n + 3)) ps ≡ a + peel_first_place last (n + 3) ps →
          cond k (peel_first_place (a + last) (a + n + 3) ps) (a + n) ≡ a + cond k (peel_first_place last (n + 3) ps) n
      go true h = rw (add_assoc a n 3) h
      go false h = refl

  peel-first-shift : (a last n : ℕ) (fs : Fields) → peel_first_place (a + last) (a + n) fs ≡ a + peel_first_place last n fs
  peel-first-shift a last n (end r) = refl
  peel-first-shift a last n (next f fs) = peel-shift a last n f

-- the k-th of a row, if it is there
nth-stands : (file : List ℕ) (k n : ℕ) (fs : Fields) → Every (Stands file) (placed n fs) → (nth k fs ≡ nothing → ⊥) → front (drop (n + place_of k fs) file) ≡ nth k fs
unfolding placed nth place_of
nth-stands file k n (end r) e m = absurd (m refl)
nth-stands file zero n (next f fs) e m = rw add-zero e.0
nth-stands file (suc k) n (next f fs) e m = rw (← add_assoc n (size f) (place_of k fs)) (nth-stands file k (n + size f) fs e.1 m)

-- a text shows the bytes of the file at a place
abbrev pub Shows : List ℕ → ℕ → List ℕ → Type 0
Shows file n t = t ≡ take (length t) (drop n file)

ident-shown : (file : List ℕ) (n : ℕ) (f : Field) → front (drop n file) ≡ f → Shows file (n + 3) (ident f)
unfolding ident
ident-shown file n f e = go (eqb (tag f) Identifier)
  where
    go : (k : Bool) → Shows file (n + 3) (cond k (text f) [])
    go true = rw (← e, ← drop-drop 3 n file) (text-bytes (drop n file))
    go false = refl

-- a name that is known is that of a field which is there
no_name : ident (peel nothing) ≡ []
unfolding ident peel is_wrapper
no_name = refl

there : (f : Field) → known (ident (peel f)) ≡ true → f ≡ nothing → ⊥
unfolding known
there f k e = never (sym (rw (e, no_name) at k))
  where
    never : true ≡ false → ⊥
    never h = let z : ◌≡◌ {A = ℕ} 0 1 = cc in omega arith

module _ (file : List ℕ) (n : ℕ) (e : Field) (s : front (drop n file) ≡ e) where
  parts-there : Every (Stands file) (placed (n + 3) (parts e))
  parts-there = parts-stand file (record { place = n; this = e }) s

  side-shown : (k : ℕ) → known (ident (peel (part k e))) ≡ true → Shows file (peel_place (length file) (n + 3 + place_of k (parts e)) (part k e) + 3) (ident (peel (part k e)))
  side-shown k h =
      ident-shown file (peel_place (length file) (n + 3 + place_of k (parts e)) (part k e)) (peel (part k e))
      (peel-stands file (n + 3 + place_of k (parts e)) (part k e) (nth-stands file k (n + 3) (parts e) parts-there (there (part k e) h)))

  first-side : place_of 0 (parts e) ≡ 0
  unfolding place_of
  first-side = refl

  beside-shown : known (beside_in_asset e) ≡ true → Shows file (beside_place (length file) n e + 3) (beside_in_asset e)
  unfolding beside_in_asset beside_place
  beside-shown h = go (eqb (tag (peel (part 0 e))) InAsset) (eqb (tag (peel (part 1 e))) InAsset) refl refl
    where
      go : (i j : Bool) → eqb (tag (peel (part 0 e))) InAsset ≡ i → eqb (tag (peel (part 1 e))) InAsset ≡ j → Shows file (beside_place (length file) n e + 3) (beside_in_asset e)
      go true j p q = rw p (side-shown 1 (rw p at h))
      go false true p q = rw (p, q) (rw (first-side, add-zero) at (side-shown 0 (rw (p, q) at h)))
      go false false p q = rw (p, q)

-- so does the token of a set: below 2 and beside no in-asset there is none
unknown-shown : (file : List ℕ) (n : ℕ) (x : List ℕ) → known x ≡ false → Shows file n x
unfolding known
unknown-shown file n [] e = refl
unknown-shown file n (x ∷ xs) e = cc

pub token-shown : (file : List ℕ) (k : ℕ) → Shows file (token_place file k) (token_of file k)
unfolding token_of token_place
token-shown file k = go (leb 2 k) (known (beside_in_asset (front (drop (k - 2) file)))) refl
  where
    go : (i j : Bool) → known (beside_in_asset (front (drop (k - 2) file))) ≡ j →
        Shows file (beside_place (length file) (k - 2) (front (drop (k - 2) file)) + 3) (cond i (beside_in_asset (front (drop (k - 2) file))) [])
    go false j e = refl
    go true true e = beside-shown file (k - 2) (front (drop (k - 2) file)) refl e
    go true false e = unknown-shown file (beside_place (length file) (k - 2) (front (drop (k - 2) file)) + 3) (beside_in_asset (front (drop (k - 2) file))) e

-- and so does a part that reads as it, by whatever number is equal
pub token-shows : (file : List ℕ) (k : ℕ) (r : List ℕ) → r ≡ token_of file k → (n : ℕ) → k ≡ n → Shows file (token_place file n) r
token-shows file k r e n f = rw (e, ← f) (token-shown file k)
