-- The token that a state field holds.
use Rattle.std.specs.Prelude.{ℕ, Bool, cond, ◌&&◌, eqb}
use mathlib.Core.List.{List, [], ◌∷◌, map, flat_map}
use Rattle.std.specs.Prelude.{None, Some}
use Rattle.laws.specs.Lists.{any, filter, find}
use Rattle.laws.specs.Texts.{known}
use Rattle.tags.specs.Tag.{Eq}
use Rattle.fields.specs.Field.{Field, Fields, tag, part}
use Rattle.model.specs.Model.{entries}
use Rattle.walking.specs.Walking.{peel, without_places, exprs, guards, receiver, debits}
use Rattle.equality.specs.Equality.{expr_eq}
use Rattle.tokens.specs.Tokens.{single, beside_in_asset, is_inflow, is_credit}
use Rattle.fundings.specs.FundingTokens.{funding_token}
use Rattle.raises.specs.Raises.{starts_at_zero, raises}

-- v is also the peeled second argument of a member call credit, set or insert, on any base
unfoldable pub credited : Field → Field → Bool
credited entry v = any (λ f. is_credit f && expr_eq (peel (part 2 f)) v) (exprs entry)

-- the token of a guard that is as a whole, peeled, Eq of in-asset and an identifier, sides peeled
unfoldable pub guard_token : Field → List ℕ
guard_token guard = cond (eqb (tag (peel guard)) Eq) (beside_in_asset (peel guard)) []

-- the tokens of such guards of the body: clauses play no part
unfoldable pub guard_tokens : Field → List (List ℕ)
guard_tokens entry = filter known (map guard_token (guards entry))

-- the token, where there is exactly one: two guards of one token are two
unfoldable pub only : List (List ℕ) → List ℕ
only [] = []
only (t ∷ []) = t
only (t ∷ u ∷ us) = []

-- the funding token of the map of the first caller debit of that amount
unfoldable pub debit_token : Fields → Field → Field → List ℕ
debit_token model entry v =
    elim (find (λ d. expr_eq (peel (part 2 d)) v) (debits entry)) [ None ↦ [] | Some d ↦ funding_token model (receiver d) ]

-- the token of a raise by v; none bars the field. A raise by `p.amount` is never looked for among the debits
unfoldable pub raise_token : Fields → Field → Field → List ℕ
raise_token model entry v =
    cond (is_inflow entry v) (cond (credited entry v) [] (only (guard_tokens entry))) (debit_token model entry v)

-- the tokens of all raises of r, in all entries
unfoldable pub raise_tokens : Fields → List ℕ → List (List ℕ)
raise_tokens model r = flat_map (λ e. map (raise_token model e) (raises r e)) (without_places (entries model))

-- the token that the state field r holds: it starts at zero, all raises agree on one token and there is one; else none
unfoldable pub reserve_token : Fields → List ℕ → List ℕ
reserve_token model r = cond (starts_at_zero model r) (single (raise_tokens model r)) []
