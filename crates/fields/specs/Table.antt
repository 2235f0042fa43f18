-- What a lent table holds after numbers were written into it.
use Rattle.std.specs.Prelude.{ℕ, ◌+◌, ◌*◌, ◌^◌, ◌<◌, ◌≡◌, List, map, length, drop}
use Rattle.std.proofs.lemmas.List.Edits.{sets}
use Rattle.fields.specs.Field.{Field, front}

-- items were written into a table from index n on, as far as it has room, and the next would go to r
pub record Listed {T : Type 0} (ks table : List T) (n : ℕ) (last : List T) (r : ℕ) : Type 0 where
  pub count : r ≡ n + length ks
  pub kept : last ≡ sets table n ks

-- s stands at k, and n numbers were listed before: no place in s, and no count with those listed of s, is too large for a
-- number of the code, where each that is listed takes three bytes of s at least
pub record Room (s : List ℕ) (k n : ℕ) : Type 0 where
  pub place : k + length s < 2 ^ 64
  pub count : 3 * n + length s < 3 * 2 ^ 64

-- the fields that stand at the places of a table
unfoldable pub fields_at : (s places : List ℕ) → List Field
fields_at s places = map (λ k. front (drop k s)) places
