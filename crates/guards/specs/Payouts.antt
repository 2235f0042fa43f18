-- A payout's token and amount.
use Rattle.std.specs.Prelude.{ℕ, cond, List}
use Rattle.laws.specs.Texts.{same_bytes, bytes}
use Rattle.fields.specs.Field.{Field, part}
use Rattle.walking.specs.Walking.{peel, ident, method}

-- a payout's token is its first argument, peeled, if an identifier
unfoldable pub payout_token : Field → List ℕ
payout_token p = ident (peel (part 1 p))

-- its amount is the third argument, or if that, peeled, calls a member `split`, that call's first argument
unfoldable pub payout_amount : Field → Field
payout_amount p = cond (same_bytes (method (peel (part 3 p))) (bytes "split")) (part 1 (peel (part 3 p))) (part 3 p)
