-- The rule goes into one part at most, so what it says of the first part, under the wrapping that the field leaves, decides.
-- A missing part equals nothing and has no part, so nothing bounds it, and the rule may go into it all the same.
use Rattle.std.proofs.Common.{ℕ, ◌<◌, ◌≡◌, refl, sym, Bool, true, false, not, ◌&&◌, ◌||◌, List, arith, length, take, drop, length-drop}
use borrow.Author.Tests.{not-true, not-false}
use Rattle.tags.specs.Tag.{is_wrapper}
use Rattle.fields.specs.Field.{Field, Fields, whole, front, tag, parts, part, nth, nothing, sizes}
use Rattle.fields.specs.Field.Field.{field}
use Rattle.fields.specs.Field.Fields.{end, next}
use Rattle.fields.proofs.Parts.{tag-none}
use Rattle.walking.specs.Walking.{peel}
use Rattle.fields.proofs.Places.{parts-shorter}
use Rattle.equality.specs.Equality.{expr_eq}
use Rattle.equality.proofs.Equality.{nothing_right}
use Rattle.bounds.specs.Bounds.{goes_left, wrapping_inside, bounded_by_backing, left_bounded}

-- a missing amount is bounded by no backing
pub nothing-bounded : (backing : Field) (wrapping : Bool) → bounded_by_backing nothing backing wrapping ≡ false
unfolding bounded_by_backing goes_left peel is_wrapper
nothing-bounded backing wrapping = rw (nothing_right backing)

-- the first of some parts, there or missing
left-bounded : (ps : Fields) (backing : Field) (wrapping : Bool) →
    left_bounded ps backing wrapping ≡ bounded_by_backing (nth 0 ps) backing wrapping
unfolding left_bounded nth
left-bounded (end r) backing wrapping = sym (nothing-bounded backing wrapping)
left-bounded (next f fs) backing wrapping = refl

-- one step of the rule, by the amount's tag and its first part
pub bounded-step : (amount backing : Field) (wrapping : Bool) →
    bounded_by_backing amount backing wrapping
    ≡ expr_eq backing (peel amount)
    || goes_left (tag amount) wrapping && bounded_by_backing (part 0 amount) backing (wrapping_inside (tag amount) wrapping)
unfolding bounded_by_backing
bounded-step (field t x ps) backing wrapping = rw (← left-bounded ps backing (wrapping_inside t wrapping))

-- the part that the rule has come to, with wrapping on or off there, decides what was asked
abbrev pub Bounding : (amount : List ℕ) → Field → Bool → List ℕ → Bool → Type 0
Bounding amount backing wrapping t here = bounded_by_backing (front t) backing here ≡ bounded_by_backing (front amount) backing wrapping

module _ (amount : List ℕ) (backing : Field) (wrapping : Bool) (t : List ℕ) (here : Bool) (i : Bounding amount backing wrapping t here)
    (x : List ℕ) (p : front x ≡ peel (front t)) (q : Bool) (e : q ≡ expr_eq backing (front x)) where
  step : q || goes_left (tag (front t)) here && bounded_by_backing (part 0 (front t)) backing (wrapping_inside (tag (front t)) here)
      ≡ bounded_by_backing (front amount) backing wrapping
  step = rw (e, p, ← bounded-step (front t) backing here) i

  pub bounding-equal : q ≡ true → true ≡ bounded_by_backing (front amount) backing wrapping
  bounding-equal h = rw h at step

  module _ (h : q ≡ false) (g : ℕ) (f : g ≡ tag (front t)) (v : Bool) (o : v ≡ goes_left g here) where
    pub bounding-stop : not v ≡ true → false ≡ bounded_by_backing (front amount) backing wrapping
    bounding-stop n = rw (h, ← f, ← o, not-true v n) at step

    pub bounding-left : not v ≡ false → (w : Bool) → w ≡ wrapping_inside g here → (u : List ℕ) → front u ≡ part 0 (front t) →
        Bounding amount backing wrapping u w
    bounding-left n w k u d = rw (d, k) (rw (h, ← f, ← o, not-false v n) at step)

-- the rule goes only into a field that is there, since a missing one has the tag 0; what it goes on with is shorter
module _ (t : List ℕ) (here : Bool) (g : ℕ) (f : g ≡ tag (front t)) (v : Bool) (o : v ≡ goes_left g here) (n : not v ≡ false) where
  there : whole t ≡ true
  unfolding goes_left
  there = go (whole t) refl
    where
      go : (w : Bool) → whole t ≡ w → whole t ≡ true
      go true w = w
      go false w = cc (tag-none t w, not-false v n)

  pub left-shorter : (k : ℕ) (u : List ℕ) → u ≡ drop k (take (sizes (parts (front t))) (drop 3 t)) → length u < length t
  left-shorter k u d = rw (d, length-drop) (omega (arith, parts-shorter t there (take (sizes (parts (front t))) (drop 3 t)) refl))
