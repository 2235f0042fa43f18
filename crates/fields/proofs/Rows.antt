-- The fields of a row whose tags are in a range.
use Rattle.std.proofs.Common.{ℕ, ◌+◌, ◌≡◌, refl, Bool, true, false, cond, ◌∷◌, map}
use Rattle.tags.specs.Tag.{between}
use Rattle.fields.specs.Field.{Fields, tag, row, fields_from, size, placed, placed_from}
use Rattle.fields.specs.Field.Fields.{end, next}

-- the fields of the range are the same with places and without
pub placed_row : (low high n : ℕ) (fs : Fields) → map (λ p. p.this) (placed_from low high n fs) ≡ fields_from low high fs
unfolding placed_from placed fields_from row
placed_row low high n (end r) = refl
placed_row low high n (next f fs) = go (between low high (tag f)) (placed_row low high (n + size f) fs)
  where
    go : (b : Bool) → map (λ p. p.this) (placed_from low high (n + size f) fs) ≡ fields_from low high fs →
        map (λ p. p.this) (cond b (record { place = n; this = f } ∷ placed_from low high (n + size f) fs) (placed_from low high (n + size f) fs))
        ≡ cond b (f ∷ fields_from low high fs) (fields_from low high fs)
    go true e = rw e
    go false e = e
