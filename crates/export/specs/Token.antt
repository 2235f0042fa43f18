-- A token that is asked about: the answer to a caller in C is yes or no, since a part of a file is no number.
use Rattle.std.specs.Prelude.{ℕ, Bool, ◌&&◌, List, leb, length}
use Rattle.laws.specs.Texts.{same_bytes}

-- in a file that is not longer than question 1 allows, the token is the one asked about
unfoldable pub is_token_of : (file found asked : List ℕ) → Bool
is_token_of file found asked = leb (length file) 32768 && same_bytes found asked
