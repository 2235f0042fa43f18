-- The places that a walk lists.
use Rattle.std.proofs.Common.{ℕ, ◌+◌, ◌*◌, ◌%◌, ◌≤◌, ◌≡◌, refl, Bool, true, false, cond, List, [], ◌∷◌, ◌++◌, map, eqb, length}
use mathlib.Core.List.{map-append}
use lib.ListN.{length-map}
use Rattle.laws.proofs.Lists.{filter-append}
use Rattle.fields.specs.Field.{Placed, tag}
use Rattle.walking.specs.Table.{of_tag, places_of}
use Rattle.walking.proofs.Within.{Within, within-filter, within-length}

-- the places of one expression and of those after it, and of two lists
pub places-cons : (t : ℕ) (p : Placed) (ps : List Placed) →
    places_of t (p ∷ ps) ≡ cond (eqb (tag p.this) t) (p.place % 65536 ∷ []) [] ++ places_of t ps
places-cons t p ps = go (eqb (tag p.this) t)
  where
    go : (k : Bool) → map (λ q. q.place % 65536) (cond k (p ∷ of_tag t ps) (of_tag t ps)) ≡ cond k (p.place % 65536 ∷ []) [] ++ places_of t ps
    go true = refl
    go false = refl

pub places-append : (t : ℕ) (ps qs : List Placed) → places_of t (ps ++ qs) ≡ places_of t ps ++ places_of t qs
places-append t ps qs = rw (filter-append (λ p. eqb (tag p.this) t) ps qs, map-append (λ p. p.place % 65536) (of_tag t ps) (of_tag t qs))

-- each of them takes three bytes at least
pub places-few : (t a b : ℕ) (ps : List Placed) → Within a b ps → a + 3 * length (places_of t ps) ≤ b
places-few t a b ps w =
    rw (length-map (of_tag t ps) (λ p. p.place % 65536))
    (within-length a b (of_tag t ps) (within-filter a b (λ p. eqb (tag p.this) t) ps w))
