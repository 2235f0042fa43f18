-- The tokens that entries are known to hold, and what comes in with an asset parameter.
use Rattle.std.specs.Prelude.{ℕ, Bool, cond, ◌&&◌, not, List, [], ◌∷◌, map, eqb}
use Rattle.laws.specs.Lists.{any, all, filter}
use Rattle.laws.specs.Texts.{same_bytes, bytes, known}
use Rattle.tags.specs.Tag.{InAsset, Eq}
use Rattle.fields.specs.Field.{Field, tag, part}
use Rattle.walking.specs.Walking.{peel, ident, method, receiver, asset_amount_backer, asset_params}
use Rattle.conditions.specs.Conditions.{Condition, required_conditions, operator}

-- A set of tokens is none, one or several

-- the one token, where all that are listed are equal and there is one; else none
unfoldable pub single : List (List ℕ) → List ℕ
single [] = []
single (t ∷ ts) = cond (all (same_bytes t) ts) t []

-- both tokens are known and they differ
unfoldable pub differ : List ℕ → List ℕ → Bool
differ a b = known a && known b && not (same_bytes a b)

-- Tokens that conditions name

-- in-asset on one peeled side, and an identifier on the other peeled side: its name
unfoldable pub beside_in_asset : Field → List ℕ
beside_in_asset e =
    cond (eqb (tag (peel (part 0 e))) InAsset) (ident (peel (part 1 e)))
    (cond (eqb (tag (peel (part 1 e))) InAsset) (ident (peel (part 0 e))) [])

-- a condition part that is itself, unpeeled and after any flipping, Eq names a token
unfoldable pub token_named : Condition → List ℕ
token_named c = cond (eqb (operator c) Eq) (beside_in_asset c.this) []

-- the tokens that an entry names
unfoldable pub tokens_named : Field → List (List ℕ)
tokens_named entry = filter known (map token_named (required_conditions entry))

-- the one token the entry names, nothing if two differ
unfoldable pub admitted_inflow_token : Field → List ℕ
admitted_inflow_token entry = single (tokens_named entry)

-- What comes in, and the calls that credit it

-- `p.amount`, p an asset parameter of the entry
unfoldable pub is_inflow : Field → Field → Bool
is_inflow entry e = any (same_bytes (asset_amount_backer e)) (asset_params entry)

-- a call of a member credit, set or insert
unfoldable pub is_credit : Field → Bool
is_credit f = any (same_bytes (method f)) (bytes "credit" ∷ bytes "set" ∷ bytes "insert" ∷ [])

-- a credit of the map with a second argument, peeled, `p.amount`
unfoldable pub is_funding : List ℕ → Field → Field → Bool
is_funding m entry f = is_credit f && same_bytes (receiver f) m && is_inflow entry (peel (part 2 f))
