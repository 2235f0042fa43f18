-- Bytes written into a lent buffer, as far as it has room.
use Rattle.std.specs.Prelude.{ℕ, ◌+◌, ◌-◌, ◌≡◌, List, length}
use Rattle.std.proofs.lemmas.List.Edits.{sets}

-- the bytes xs were written into a buffer from index n on, and the next would go to r; what has no room is left out, and r
-- is then the buffer's length
pub record Written (xs buffer : List ℕ) (n : ℕ) (after : List ℕ) (r : ℕ) : Type 0 where
  pub kept : after ≡ sets buffer n xs
  pub count : r ≡ length buffer - (length buffer - (n + length xs))
