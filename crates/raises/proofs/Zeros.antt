-- The defaults and the genesis values that are asked are those of the state fields and statements that are gone through.
use Rattle.std.proofs.Common.{ℕ, ◌≡◌, refl, Bool, true, false, cond, ◌&&◌, List, [], ◌∷◌, map}
use Rattle.laws.specs.Lists.{all, filter}
use Rattle.laws.specs.Texts.{same_bytes}
use Rattle.laws.proofs.Texts.{bytes-symmetric}
use Rattle.tags.specs.Tag.{State, Genesis}
use Rattle.fields.specs.Field.{Field, fields, part, fields_from}
use Rattle.model.specs.Model.{name_of, genesis}
use Rattle.walking.specs.Walking.{present}
use Rattle.raises.specs.Raises.{assigns, is_zero, defaults, genesis_values}
use Rattle.raises.specs.Raising.{default_passes, genesis_passes}

module _ (r : List ℕ) where
  default-each : (l : List Field) → all (default_passes r) l ≡ all is_zero (filter present (map (part 2) (filter (λ s. same_bytes (name_of s) r) l)))
  unfolding default_passes
  default-each [] = refl
  default-each (s ∷ l) = rw (bytes-symmetric r (name_of s)) (go (same_bytes (name_of s) r) (present (part 2 s)) refl (default-each l))
    where
      go : (j k : Bool) → present (part 2 s) ≡ k → all (default_passes r) l ≡ all is_zero (filter present (map (part 2) (filter (λ s. same_bytes (name_of s) r) l))) →
          cond (j && k) (is_zero (part 2 s)) true && all (default_passes r) l
          ≡ all is_zero (filter present (map (part 2) (cond j (s ∷ filter (λ s. same_bytes (name_of s) r) l) (filter (λ s. same_bytes (name_of s) r) l))))
      go true true p e = rw (p, e)
      go true false p e = rw (p, e)
      go false k p e = e

  genesis-each : (l : List Field) → all (genesis_passes r) l ≡ all is_zero (map (part 1) (filter (assigns r) (map (part 0) l)))
  unfolding genesis_passes
  genesis-each [] = refl
  genesis-each (s ∷ l) = go (assigns r (part 0 s)) (genesis-each l)
    where
      go : (j : Bool) → all (genesis_passes r) l ≡ all is_zero (map (part 1) (filter (assigns r) (map (part 0) l))) →
          cond j (is_zero (part 1 (part 0 s))) true && all (genesis_passes r) l
          ≡ all is_zero (map (part 1) (cond j (part 0 s ∷ filter (assigns r) (map (part 0) l)) (filter (assigns r) (map (part 0) l))))
      go true e = rw e
      go false e = e

  pub defaults-all : (s t : List ℕ) → t ≡ s → all (default_passes r) (fields_from State State (fields t)) ≡ all is_zero (defaults (fields s) r)
  unfolding defaults
  defaults-all s t e = rw e (default-each (fields_from State State (fields s)))

  pub genesis-all : (s t : List ℕ) → t ≡ s → all (genesis_passes r) (fields_from Genesis Genesis (fields t)) ≡ all is_zero (genesis_values (fields s) r)
  unfolding genesis_values genesis
  genesis-all s t e = rw e (genesis-each (fields_from Genesis Genesis (fields s)))
