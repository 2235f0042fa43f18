-- Payout by payout, the cover of each.
use Rattle.std.specs.Prelude.{ℕ, Bool, false, cond, List, [], ◌∷◌, ◌++◌, map, eqb}
use Rattle.std.specs.Prelude.{None, Some}
use Rattle.laws.specs.Lists.{any, find, remove_first, position, numbered}
use Rattle.laws.specs.Texts.{same_bytes}
use Rattle.fields.specs.Field.{Field, Fields, part}
use Rattle.model.specs.Model.{state_names}
use Rattle.walking.specs.Walking.{peel, present, receiver, asset_params, debits}
use Rattle.equality.specs.Equality.{expr_eq}
use Rattle.equality.specs.Amount.{amount_of}
use Rattle.bounds.specs.Bounds.{bounded_by_backing}
use Rattle.tokens.specs.Tokens.{admitted_inflow_token, differ}
use Rattle.fundings.specs.FundingTokens.{funding_token}
use Rattle.guards.specs.Payouts.{payout_token, payout_amount}
use Rattle.reserves.specs.Reserves.{reserve_bounding_payout}

-- a cover is one of five kinds, with an index among debits, asset parameters or state fields
pub data Cover : Type 0 where
  equal_debit equal_parameter bounding_debit bounding_parameter reserve : (index : ℕ) → Cover

-- why a payout is rejected
pub data Reason : Type 0 where
  split_without_amount conflict_at_equal amount_taken conflict_at_bounding no_reserve reserve_used : Reason

-- a backing is a caller debit or an asset parameter
pub data Source : Type 0 where
  debit parameter : Source

-- with its index, its amount, peeled, and its token
pub record Backing : Type 0 where
  pub source : Source
  pub index : ℕ
  pub amount : Field
  pub token : List ℕ

-- the caller debits, their amounts peeled
unfoldable pub debit_backings : Fields → Field → List Backing
debit_backings model entry =
    map (λ (i, d). record { source = debit; index = i; amount = peel (part 2 d); token = funding_token model (receiver d) })
    (numbered 0 (debits entry))

-- the asset parameters
unfoldable pub parameter_backings : Field → List Backing
parameter_backings entry =
    map (λ (i, p). record { source = parameter; index = i; amount = amount_of p; token = admitted_inflow_token entry })
    (numbered 0 (asset_params entry))

-- debits in walk order, then parameters
unfoldable pub backings : Fields → Field → List Backing
backings model entry = debit_backings model entry ++ parameter_backings entry

-- the backing's amount equals the payout's, peeled
unfoldable pub equals : Field → Backing → Bool
equals p b = expr_eq b.amount (peel (payout_amount p))

-- the backing bounds the payout's amount, unpeeled
unfoldable pub bounds : Field → Backing → Bool
bounds p b = bounded_by_backing (payout_amount p) b.amount false

-- the cover by an equal backing
abbrev pub equal_cover : Backing → Cover
equal_cover b = elim b.source [ debit ↦ equal_debit b.index | parameter ↦ equal_parameter b.index ]

-- the cover by a bounding backing
abbrev pub bounding_cover : Backing → Cover
bounding_cover b = elim b.source [ debit ↦ bounding_debit b.index | parameter ↦ bounding_parameter b.index ]

-- the marks of the pass: free backings, taken amounts, used reserves
pub record Marks : Type 0 where
  pub free : List Backing
  pub taken : List Field
  pub used : List ℕ

-- the answer for one payout: a cover, with the marks after it, or a rejection
pub data Answer : Type 0 where
  cover : Cover → Marks → Answer
  rejection : Reason → Answer

-- the backing b, the first free one to pass the test, is taken unless the tokens conflict
unfoldable pub take_backing : Marks → Field → (Backing → Bool) → Backing → Cover → Reason → Answer
take_backing s p test b c conflict =
    cond (differ b.token (payout_token p)) (rejection conflict)
    (cover c (record { free = remove_first test s.free; taken = b.amount ∷ s.taken; used = s.used }))

-- the reserve at index i is used up
unfoldable pub take_reserve : Marks → ℕ → Answer
take_reserve s i =
    cond (any (eqb i) s.used) (rejection reserve_used)
    (cover (reserve i) (record { free = s.free; taken = s.taken; used = i ∷ s.used }))

-- the first covering reserve, rejecting if there is none or it is used
unfoldable pub by_reserve : Fields → Field → Marks → Field → Answer
by_reserve model entry s p =
    elim (reserve_bounding_payout model entry (peel (payout_amount p)) (payout_token p))
    [ None ↦ rejection no_reserve | Some r ↦ take_reserve s (position (same_bytes r) (state_names model)) ]

-- the first free backing that bounds the amount; else a reserve
unfoldable pub by_bounding : Fields → Field → Marks → Field → Answer
by_bounding model entry s p =
    elim (find (bounds p) s.free)
    [ None ↦ by_reserve model entry s p | Some b ↦ take_backing s p (bounds p) b (bounding_cover b) conflict_at_bounding ]

-- reject if a taken backing equals the amount
unfoldable pub not_taken : Fields → Field → Marks → Field → Answer
not_taken model entry s p =
    cond (any (λ a. expr_eq a (peel (payout_amount p))) s.taken) (rejection amount_taken) (by_bounding model entry s p)

-- the first free backing equal to the amount; else the rest
unfoldable pub by_equal : Fields → Field → Marks → Field → Answer
by_equal model entry s p =
    elim (find (equals p) s.free)
    [ None ↦ not_taken model entry s p | Some b ↦ take_backing s p (equals p) b (equal_cover b) conflict_at_equal ]

-- the answer for a payout: reject a split without an amount; else in the order above
unfoldable pub answer : Fields → Field → Marks → Field → Answer
answer model entry s p = cond (present (payout_amount p)) (by_equal model entry s p) (rejection split_without_amount)

-- every backing free
unfoldable pub start : Fields → Field → Marks
start model entry = record { free = backings model entry; taken = []; used = [] }
