-- The state fields that cover a payout.
use Rattle.std.specs.Prelude.{ℕ, Bool, ◌&&◌, List}
use Rattle.std.specs.Prelude.{Option}
use Rattle.laws.specs.Lists.{any, find}
use Rattle.laws.specs.Texts.{same_bytes, known}
use Rattle.fields.specs.Field.{Field, Fields}
use Rattle.model.specs.Model.{state_names, body}
use Rattle.reserve_tokens.specs.ReserveTokens.{reserve_token}
use Rattle.guards.specs.Guards.{contains_inflow, guarded_by, lowers}

-- the state field r covers the amount for a token: a guard bounds the amount by it, an assignment lowers it by the amount,
-- and its token is the payout's known token
unfoldable pub reserve_covers : Fields → Field → Field → List ℕ → List ℕ → Bool
reserve_covers model entry amount token r =
    contains_inflow entry amount
    && any (same_bytes r) (state_names model)
    && any (same_bytes r) (guarded_by entry amount)
    && any (lowers amount r) (body entry)
    && known token && same_bytes (reserve_token model r) token

-- the first such guard counts: one whose field does not cover does not stop the search
unfoldable pub reserve_bounding_payout : Fields → Field → Field → List ℕ → Option (List ℕ)
reserve_bounding_payout model entry amount token = find (reserve_covers model entry amount token) (guarded_by entry amount)
