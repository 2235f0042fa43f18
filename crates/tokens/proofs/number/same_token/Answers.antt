-- The tokens of the two are compared byte by byte.
use Rattle.std.proofs.Common.{◌≡◌, Bool, List, ℕ}
use Rattle.laws.specs.Texts.{same_bytes}
use Rattle.tokens.specs.Numbers.{token_of}
use Rattle.tokens.proofs.number.same_token.Goals as goal

tokens-compared : (file x y : List ℕ) (a b : ℕ) (r : Bool) → x ≡ token_of file a → y ≡ token_of file b → r ≡ same_bytes x y →
    r ≡ same_bytes (token_of file a) (token_of file b)
tokens-compared file x y a b r e f g = rw (← e, ← f) g

pub returns : goal.returns
returns c = search tokens-compared
