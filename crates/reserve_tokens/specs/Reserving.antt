-- What the code asks on its way to a state field's token: of the calls at the places of a table, and of the token that was found
-- so far.
use Rattle.std.specs.Prelude.{ℕ, ◌<◌, ◌≡◌, Bool, ◌&&◌, ◌||◌, not, List, ltb}
use Rattle.laws.specs.Texts.{known}
use Rattle.fields.specs.Field.{Field, part}
use Rattle.walking.specs.Walking.{peel}
use Rattle.equality.specs.Equality.{expr_eq}
use Rattle.tokens.specs.Tokens.{differ}
use Rattle.tokens.specs.Numbers.{token_of}

-- The calls of an entry

-- a call of a kind whose second argument, peeled, is v
unfoldable pub with_amount : (Field → Bool) → Field → Field → Bool
with_amount kind v f = kind f && expr_eq (peel (part 2 f)) v

-- Tokens and their numbers

-- the number of the token found so far: that of a known token, or 1 where there is none
pub record Found (file : List ℕ) (k : ℕ) : Type 0 where
  pub some : 0 < k
  pub small : k < 65536
  pub unnamed : not (known (token_of file k)) ≡ ltb k 2

-- the token of a raise bars the field: it is unknown, or differs from the one found so far
unfoldable pub bars : List ℕ → List ℕ → Bool
bars found t = not (known t) || differ found t
