-- A token is known if it has bytes.
use Rattle.std.proofs.Common.{ℕ, ◌≡◌, Bool, false, not, List, length}
use Rattle.laws.specs.Texts.{same_bytes}
use Rattle.laws.proofs.Texts.{unknown, is_known}
use Rattle.tokens.specs.Tokens.{differ}

-- what the code tests
module _ (a b : List ℕ) where
  pub first-unknown : length a ≡ 0 → false ≡ differ a b
  unfolding differ
  first-unknown e = rw (unknown a e)

  module _ (m : length a ≡ 0 → ⊥) where
    pub second-unknown : length b ≡ 0 → false ≡ differ a b
    unfolding differ
    second-unknown e = rw (is_known a m, unknown b e)

    pub both-known : (length b ≡ 0 → ⊥) → (v : Bool) → v ≡ same_bytes a b → not v ≡ differ a b
    unfolding differ
    both-known n v e = rw (is_known a m, is_known b n, e)
