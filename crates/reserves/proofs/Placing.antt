-- The state field of a number: its name is that of the field that stands at its place. And the number of one of a name.
use Rattle.std.proofs.Common.{ℕ, zero, suc, ◌+◌, ◌^◌, ◌≤◌, ◌<◌, ◌≡◌, refl, ap, ◌∙◌, Bool, true, false, cond, not, ◌||◌, List, [], ◌∷◌, map, filter, arith, eqb, ltb, length, get_or, drop}
use Rattle.std.proofs.Common.{Option, None, Some, drop_of_length-le, ltb-true}
use Rattle.std.specs.List.{slice_get, position_or_len}
use Rattle.std.specs.Option.{option_map, unwrap_or, IfSome}
use Rattle.std.proofs.lemmas.Bool.Decides.{nat_tests}
use lib.Seq.{take-length}
use Rattle.laws.specs.Lists.{any, position}
use Rattle.laws.specs.Texts.{same_bytes}
use Rattle.laws.proofs.Lists.{Every, every-filter}
use Rattle.tags.specs.Tag.{State, between}
use Rattle.tags.proofs.Ranges.{between-one}
use Rattle.fields.specs.Field.{Fields, Placed, fields, front, nth, tag, row, placed, fields_from, placed_from, size, sizes}
use Rattle.fields.specs.Field.Fields.{end, next}
use Rattle.fields.specs.Row.{shown, left}
use Rattle.fields.specs.declared.field.Field.{Field as Found}
use Rattle.fields.specs.declared.field.Fields.{Fields as Remaining}
use Rattle.fields.proofs.Inside.{Stands, row-stands}
use Rattle.fields.proofs.Places.{size-least, tree-size, row-few}
use Rattle.fields.proofs.Reading.{front-none}
use Rattle.fields.proofs.Rows.{placed_row}
use Rattle.model.specs.Model.{name_of, state_names, states}
use Rattle.reserves.specs.States.{state_name, state_index, state_number}

-- The name

names-of : (l : List Placed) (n : ℕ) → unwrap_or (option_map (λ p. name_of p.this) (slice_get l n)) [] ≡ get_or (map name_of (map (λ p. p.this) l)) n []
names-of [] n = refl
names-of (p ∷ l) zero = refl
names-of (p ∷ l) (suc n) = names-of l n

module _ (file : List ℕ) (n : ℕ) where
  name-there : unwrap_or (option_map (λ p. name_of p.this) (slice_get (states (fields file)) n)) [] ≡ state_name file n
  unfolding state_name state_names states
  name-there = names-of (placed_from State State 0 (fields file)) n ∙ rw (placed_row State State 0 (fields file)) refl

  module _ (r : Option Found) (e : option_map shown r ≡ slice_get (states (fields file)) n) where
    pub nth-none : r ≡ None → [] ≡ state_name file n
    nth-none h = rw (← e, h) at name-there

    pub nth-name : (f : Found) → r ≡ Some f → (x : List ℕ) → x ≡ name_of (front f.part.now) → x ≡ state_name file n
    nth-name f h x g = g ∙ (rw (← e, h) at name-there)

    -- past the end of the file nothing has a name
    pub none-named : r ≡ None → name_of (front (drop (length file) file)) ≡ state_name file n
    unfolding nth
    none-named h = rw (drop_of_length-le file {i = length file} (omega arith), front-none [] refl) (nth-none h)

-- The place

passes-filter : {A : Type 0} (p : A → Bool) (l : List A) → Every (λ x. p x ≡ true) (filter p l)
passes-filter p [] = tt
passes-filter p (x ∷ l) = go (p x) refl (passes-filter p l)
  where
    go : (b : Bool) → p x ≡ b → Every (λ y. p y ≡ true) (filter p l) → Every (λ y. p y ≡ true) (cond b (x ∷ filter p l) (filter p l))
    go true e h = (e, h)
    go false e h = h

at-number : {A : Type 0} (P : A → Type 0) (l : List A) → Every P l → (n : ℕ) (x : A) → Some x ≡ slice_get l n → P x
at-number P [] h n x e = cc e
at-number P (y ∷ l) h zero x e = let z : x ≡ y = cc e in rw z h.0
at-number P (y ∷ l) h (suc n) x e = at-number P l h.1 n x e

states-stand : (file : List ℕ) → Every (Stands file) (states (fields file))
unfolding states placed_from
states-stand file =
    every-filter (Stands file) (λ p. between State State (tag p.this)) (placed 0 (fields file))
    (rw (take-length file) at (row-stands file 0 (length file)))

states-tagged : (file : List ℕ) → Every (λ p. between State State (tag p.this) ≡ true) (states (fields file))
unfolding states placed_from
states-tagged file = passes-filter (λ p. between State State (tag p.this)) (placed 0 (fields file))

module _ (file : List ℕ) (n : ℕ) (f : Found) (r : Option Found) (e : option_map shown r ≡ slice_get (states (fields file)) n) (h : r ≡ Some f) where
  there : Some (shown f) ≡ slice_get (states (fields file)) n
  there = rw h at e

  stands : front (drop f.place file) ≡ front f.part.now
  stands = at-number (Stands file) (states (fields file)) (states-stand file) n (shown f) there

  pub place-named : name_of (front (drop f.place file)) ≡ state_name file n
  place-named = nth-name file n r e f h _ (ap (λ g. name_of g) stands)

  -- a field that stands behind the end would be nothing, which is no state field
  pub place-within : f.place ≤ length file
  place-within = go (ltb (length file) f.place) refl
    where
      tagged : between State State (tag (front f.part.now)) ≡ true
      tagged = at-number (λ p. between State State (tag p.this) ≡ true) (states (fields file)) (states-tagged file) n (shown f) there

      none : between State State 0 ≡ true → ⊥
      none e = cc e

      go : (b : Bool) → ltb (length file) f.place ≡ b → f.place ≤ length file
      go true l =
          let z : drop f.place file ≡ [] = drop_of_length-le file {i = f.place} (omega (arith, ltb-true (length file) f.place l)) in
          absurd (none (rw (← stands, z, front-none [] refl) at tagged))
      go false l = grind arith

-- The number

-- no row has more fields than bytes, so they can be counted
few-placed : (k : ℕ) (fs : Fields) → length (placed k fs) ≤ sizes fs
unfolding placed sizes
few-placed k (end r) = omega arith
few-placed k (next f fs) = omega (arith, size-least f, few-placed (k + size f) fs)

pub few-left : (s : Remaining) → length (left s) < 2 ^ 64
few-left s = omega (arith, few-placed s.place (fields s.rest.now), tree-size s.rest.now, s.inside)

module _ {A B : Type 0} (g : A → B) (p : B → Bool) where
  abbrev pub first : List A → Option ℕ
  first l = cond (ltb (position_or_len (λ x. p (g x)) l) (length l)) (Some (position_or_len (λ x. p (g x)) l)) None

  number-of : (l : List A) → first l ≡ cond (any p (map g l)) (Some (position p (map g l))) None
  unfolding position
  number-of [] = refl
  number-of (x ∷ l) = go (p (g x)) (any p (map g l)) (position p (map g l)) (position_or_len (λ x. p (g x)) l) (length l) (number-of l)
    where
      later : (c d : Bool) (n k : ℕ) → cond d (Some k) None ≡ cond c (Some n) None → cond d (Some (1 + k)) None ≡ cond c (Some (suc n)) None
      later true true n k e = let z : k ≡ n = cc e in ap (λ i. Some i) (omega (arith, z))
      later true false n k e = cc e
      later false true n k e = cc e
      later false false n k e = refl

      go : (b c : Bool) (n k m : ℕ) → cond (ltb k m) (Some k) None ≡ cond c (Some n) None →
          cond (ltb (cond (not b) (1 + k) 0) (suc m)) (Some (cond (not b) (1 + k) 0)) None ≡ cond (b || c) (Some (cond b zero (suc n))) None
      go true c n k m e = let z : ltb 0 (suc m) ≡ true = grind (arith, nat_tests) in rw z refl
      go false c n k m e =
          let z : ltb (1 + k) (suc m) ≡ ltb k m = grind (arith, nat_tests) in
          rw z (later c (ltb k m) n k e)

  first-within : (l : List A) → IfSome (first l) (λ i. i < length l)
  first-within l = go (ltb (position_or_len (λ x. p (g x)) l) (length l)) refl
    where
      go : (b : Bool) → ltb (position_or_len (λ x. p (g x)) l) (length l) ≡ b → IfSome (cond b (Some (position_or_len (λ x. p (g x)) l)) None) (λ i. i < length l)
      go true h = ltb-true _ _ h
      go false h = tt

module _ (file name s : List ℕ) (e : s ≡ file) (r : Option ℕ) (q : r ≡ first name_of (same_bytes name) (filter (λ f. eqb (tag f) State) (row (fields s)))) where
  selected : r ≡ first name_of (same_bytes name) (fields_from State State (fields file))
  unfolding fields_from
  selected = q ∙ rw e (simp between-one)

  pub number-counted : r ≡ state_number (fields file) name
  unfolding state_number state_index state_names
  number-counted = selected ∙ number-of name_of (same_bytes name) (fields_from State State (fields file))

  pub number-within : IfSome r (λ i. i < length file)
  number-within = rw selected (go (first name_of (same_bytes name) (fields_from State State (fields file))) (first-within name_of (same_bytes name) (fields_from State State (fields file))))
    where
      go : (o : Option ℕ) → IfSome o (λ i. i < length (fields_from State State (fields file))) → IfSome o (λ i. i < length file)
      go None h = tt
      go (Some i) h = omega (arith, h, row-few State State (fields file), tree-size file)
