-- A token is told of where the file is short enough, and of a longer one none is.
use Rattle.std.proofs.Common.{ℕ, ◌<◌, ◌≤◌, ◌≡◌, Bool, false, List, le-leb, length}
use borrow.Author.Tests.{lt-leb}
use Rattle.laws.specs.Texts.{same_bytes}
use Rattle.export.specs.Token.{is_token_of}

module _ (file found asked : List ℕ) where
  pub too_long : 32768 < length file → false ≡ is_token_of file found asked
  unfolding is_token_of
  too_long h = rw (lt-leb _ _ h)

  module _ (short : length file ≤ 32768) (x : List ℕ) (e : x ≡ found) (r : Bool) where
    pub told_of : r ≡ same_bytes x asked → r ≡ is_token_of file found asked
    unfolding is_token_of
    told_of h = cc (le-leb _ _ short)
