-- Going along a row: a step gives the field in front, and what is left behind it is the rest of the row.
use Rattle.std.proofs.Common.{ℕ, ◌+◌, ◌-◌, ◌≡◌, refl, ap, ◌∙◌, true, false, List, [], ◌∷◌, map, arith, leb-true, length, length-drop}
use Rattle.std.proofs.lemmas.Iterator.{YieldsList}
use Rattle.std.proofs.lemmas.Iterator.Consumers.{YieldsList-from_shown}
use Rattle.fields.specs.Field.{Placed, fields, placed, row, whole, after, front, length_of}
use Rattle.fields.specs.Row.{shown, left, reach, end_of, Step, Steps}
use Rattle.fields.specs.declared.field.Fields.{Fields}
use Rattle.fields.specs.declared.field.Field.{Field as Found}
use Rattle.fields.proofs.Reading.{fields-next, fields-end}
use Rattle.fields.proofs.Places.{front-size}

-- the fields of a part, as a step finds them
module _ (s : List ℕ) where
  pub placed-end : whole s ≡ false → (k : ℕ) → placed k (fields s) ≡ []
  unfolding placed
  placed-end w k = rw (fields-end s w)

  pub placed-next : whole s ≡ true → (k : ℕ) → placed k (fields s) ≡ record { place = k; this = front s } ∷ placed (k + (3 + length_of s)) (fields (after s))
  unfolding placed
  placed-next w k = ap (placed k) (fields-next s w) ∙ rw (front-size s w)

  row-end : whole s ≡ false → row (fields s) ≡ []
  unfolding row
  row-end w = rw (fields-end s w)

  row-next : whole s ≡ true → row (fields s) ≡ front s ∷ row (fields (after s))
  unfolding row
  row-next w = ap row (fields-next s w)

-- what a row yields: each field with its place
module _ (s : Fields) (p : Found) (t : Fields) (h : Step s p t) where
  pub left-next : left s ≡ shown p ∷ left t
  left-next = placed-next s.rest.now h.there s.place ∙ rw (h.place, h.part, h.behind, h.rest)

  front-next : row (fields s.rest.now) ≡ front p.part.now ∷ row (fields t.rest.now)
  front-next = row-next s.rest.now h.there ∙ rw (h.part, h.rest)

pub along-placed : (s : Fields) → YieldsList Steps shown s (left s)
along-placed = YieldsList-from_shown Steps shown left (λ s t w. ap length (placed-end s.rest.now w s.place)) left-next

-- and without the places
pub along-row : (s : Fields) → YieldsList Steps (λ p. front p.part.now) s (row (fields s.rest.now))
along-row =
    YieldsList-from_shown Steps (λ p. front p.part.now) (λ s. row (fields s.rest.now)) (λ s t w. ap length (row-end s.rest.now w)) front-next

-- and with where its part ends, which is where the row ends
abbrev pub reaching : Fields → List (Placed × ℕ)
reaching s = map (λ p. (p, end_of s)) (left s)

module _ (s : Fields) (p : Found) (t : Fields) (h : Step s p t) where
  same-end : end_of t ≡ end_of s
  same-end =
      let l : length (after s.rest.now) ≡ length s.rest.now - (3 + length_of s.rest.now) = length-drop (3 + length_of s.rest.now) s.rest.now in
      rw (h.behind, h.rest) (omega (arith, l, leb-true (3 + length_of s.rest.now) (length s.rest.now) h.there))

  reaching-next : reaching s ≡ (shown p, reach p) ∷ reaching t
  reaching-next = rw (left-next s p t h, same-end, h.place, h.part) refl

pub along-reaching : (s : Fields) → YieldsList Steps (λ p. (shown p, reach p)) s (reaching s)
along-reaching =
    YieldsList-from_shown Steps (λ p. (shown p, reach p)) reaching
    (λ s t w. ap (λ ps. length {A = Placed × ℕ} (map (λ p. (p, end_of s)) ps)) (placed-end s.rest.now w s.place)) reaching-next
