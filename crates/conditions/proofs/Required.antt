-- All conditions of an entry: each takes three bytes of it at least, and the numbers of a table give them back. No tag is both a
-- clause's and a guard's, so none is counted twice.
use Rattle.std.proofs.Common.{ℕ, ◌+◌, ◌*◌, ◌≤◌, ◌≡◌, refl, Bool, true, false, cond, List, [], ◌∷◌, map, arith, leb-true, leb, length, length-append}
use mathlib.Core.List.{flat_map}
use Rattle.laws.proofs.Lists.{Every}
use Rattle.laws.proofs.Truths.{and_left, and_right}
use Rattle.tags.specs.Tag.{Limits, Denies, Guard, between}
use Rattle.fields.specs.Field.{Field, Fields, length_of, whole, front, tag, parts, size, sizes, placed, placed_from}
use Rattle.fields.specs.Field.Fields.{end, next}
use Rattle.fields.proofs.Reading.{front-none}
use Rattle.fields.proofs.Places.{front-size, parts-inside}
use Rattle.conditions.specs.Conditions.{Condition, conditions_of, conditions_from, required_conditions}
use Rattle.conditions.specs.Table.{marks, condition_at}
use Rattle.conditions.proofs.Few.{conditions-few}
use Rattle.conditions.proofs.Callers.{Holds, Ends, parts-end, required-every, conditions-stand, read-marks}

module _ (n : ℕ) (f : Field) (fs : Fields) where
  abbrev one : List Condition
  one = conditions_of (record { place = n; this = f })

  abbrev later : (low high : ℕ) → List Condition
  later low high = conditions_from low high (n + size f) fs

  from_next : (low high : ℕ) → length (conditions_from low high n (next f fs))
      ≡ cond (between low high (tag f)) (length one) 0 + length (later low high)
  unfolding flat_map placed_from placed
  from_next low high = go (between low high (tag f))
    where
      go : (k : Bool) → length (flat_map conditions_of (cond k (record { place = n; this = f } ∷ placed_from low high (n + size f) fs) (placed_from low high (n + size f) fs)))
          ≡ cond k (length one) 0 + length (later low high)
      go true = length-append one (later low high)
      go false = omega arith

  one-of-them : cond (between Limits Denies (tag f)) (length one) 0 + cond (between Guard Guard (tag f)) (length one) 0 ≤ length one
  one-of-them = go (between Limits Denies (tag f)) (between Guard Guard (tag f)) refl refl
    where
      go : (j k : Bool) → between Limits Denies (tag f) ≡ j → between Guard Guard (tag f) ≡ k → cond j (length one) 0 + cond k (length one) 0 ≤ length one
      go true true p q =
          absurd (omega (arith, leb-true (tag f) Denies (and_right (leb Limits (tag f)) (leb (tag f) Denies) p), leb-true Guard (tag f) (and_left (leb Guard (tag f)) (leb (tag f) Guard) q)))
      go true false p q = omega arith
      go false true p q = omega arith
      go false false p q = omega arith

both-few : (n : ℕ) (fs : Fields) → 3 * (length (conditions_from Limits Denies n fs) + length (conditions_from Guard Guard n fs)) ≤ sizes fs
unfolding flat_map placed_from placed sizes
both-few n (end r) = omega arith
both-few n (next f fs) =
    omega (arith, from_next n f fs Limits Denies, from_next n f fs Guard Guard, one-of-them n f fs, conditions-few (record { place = n; this = f }), both-few (n + size f) fs)

required-few : (f : Field) → 3 + 3 * length (required_conditions f) ≤ size f
unfolding required_conditions
required-few f = rw length-append (omega (arith, both-few 3 (parts f), parts-inside f))

-- where there is no entry, there are no conditions
none-required : (entry : List ℕ) → whole entry ≡ false → required_conditions (front entry) ≡ []
unfolding required_conditions flat_map placed_from placed
none-required entry w = rw (front-none entry w)

front_ends : (entry : List ℕ) → whole entry ≡ true → size (front entry) ≤ length entry
front_ends entry w = rw (front-size entry w) (leb-true (3 + length_of entry) (length entry) w)

module _ (entry : List ℕ) where
  conditions-end : Every (Holds (Ends (length entry))) (required_conditions (front entry))
  conditions-end = go (whole entry) refl
    where
      go : (w : Bool) → whole entry ≡ w → Every (Holds (Ends (length entry))) (required_conditions (front entry))
      go true w = required-every (Ends (length entry)) (parts-end (length entry)) (front entry) (omega (arith, front_ends entry w))
      go false w = rw (none-required entry w) tt

  pub entry-few : 3 * length (required_conditions (front entry)) ≤ length entry
  entry-few = go (whole entry) refl
    where
      go : (w : Bool) → whole entry ≡ w → 3 * length (required_conditions (front entry)) ≤ length entry
      go true w = omega (arith, required-few (front entry), front_ends entry w)
      go false w = rw (none-required entry w) (omega arith)

  pub conditions-read : length entry ≤ 32768 → map (condition_at entry) (marks (required_conditions (front entry))) ≡ required_conditions (front entry)
  conditions-read h = read-marks entry h (required_conditions (front entry)) (conditions-stand entry) conditions-end
