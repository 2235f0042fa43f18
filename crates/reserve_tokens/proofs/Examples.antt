-- The definitions computed on examples: which token a state field holds.
use Rattle.std.proofs.Common.{ℕ, ◌≡◌, refl, List, [], ◌∷◌, ◌++◌, map}
use Prim.Native.String.{String}
use mathlib.Core.List.{flat_map}
use Rattle.laws.specs.Texts.{same_bytes, bytes, known}
use Rattle.tags.specs.Tag.{State, Entry, Parameter, Limits, Guard, AddTo, SubtractFrom, ExpressionStatement, Caller, InAsset, Member, Call, Checked, And, Eq, Ne, composite, is_assign}
use Rattle.tags.specs.Tag.{is_expression, is_statement, is_wrapper}
use Rattle.fields.specs.Field.{fields, fields_to, nth, row, fields_from, size, sizes, placed, placed_from, place_of}
use Rattle.fields.proofs.Writing.{write, name, type_name, integer, identifier}
use Rattle.model.specs.Model.{genesis, entries, params, body}
use Rattle.walking.specs.Walking.{peel, peel_first, peel_place, peel_first_place, walk, walk_parts, stmt_exprs, body_exprs, exprs, guards, ident}
use Rattle.walking.specs.Walking.{method, receiver, is_debit, asset_amount_backer, is_asset_parameter}
use Rattle.walking.specs.Walking.{asset_params, debits}
use Rattle.equality.specs.Equality.{expr_eq, parts_eq, strip, same_text}
use Rattle.conditions.specs.Conditions.{split_and, split_each, split_first, negated, negated_each, negated_first, conditions_of, required_conditions, opposite, operator}
use Rattle.tokens.specs.Tokens.{single, differ, beside_in_asset, token_named, tokens_named, is_inflow, is_credit, is_funding}
use Rattle.fundings.specs.FundingTokens.{funds, ledger_funding_tokens, funding_token}
use Rattle.raises.specs.Raises.{assigns, value, sets_from, is_zero, defaults, genesis_values, starts_at_zero, raise, raises}
use Rattle.tokens.specs.Numbers.{token_of, joined, joined_all, condition_number, tokens_number}
use Rattle.tokens.specs.Place.{beside_place, token_place}
use Rattle.fundings.specs.Fundings.{funding_number}
use Rattle.reserve_tokens.specs.Reserving.{bars}
use Rattle.reserve_tokens.specs.Numbers.{guard_number, guard_numbers, only_number, debit_number, raise_number, numbers_in, agreed, reserve_number}
use Rattle.reserve_tokens.specs.ReserveTokens.{credited, guard_token, guard_tokens, only, debit_token, raise_token, raise_tokens, reserve_token}

abbrev r : List ℕ
r = identifier "r"

abbrev v : List ℕ
v = identifier "v"

abbrev checked : List ℕ → List ℕ
checked e = write Checked e

abbrev state : String → List ℕ → List ℕ
state s default = write State (name s ++ (type_name "Q_Integer" ++ default))

-- in-asset == t
abbrev holds : String → List ℕ
holds t = write Eq (write InAsset [] ++ identifier t)

abbrev entry : List ℕ → List ℕ
entry parts = write Entry (name "f" ++ parts)

-- an entry with an asset parameter a
abbrev taking : List ℕ → List ℕ
taking parts = entry (write Parameter (name "a" ++ type_name "Q_Asset") ++ parts)

abbrev guard : List ℕ → List ℕ
guard e = write Guard e

-- a.amount, and r += it
abbrev amount : List ℕ
amount = write Member (identifier "a" ++ name "amount")

abbrev raised : List ℕ → List ℕ
raised e = write AddTo (r ++ e)

-- m.how(caller, e)
abbrev calls : String → String → List ℕ → List ℕ
calls m how e = write ExpressionStatement (write Call (write Member (identifier m ++ name how) ++ (write Caller [] ++ e)))

-- an entry that funds the map m with t
abbrev funding : String → String → List ℕ
funding m t = taking (write Limits (holds t) ++ calls m "credit" amount)

held : List (List ℕ) → List (List ℕ)
unfolding same_bytes known fields fields_to nth composite size sizes placed placed_from row fields_from flat_map is_assign is_expression is_statement is_wrapper genesis
    entries params body peel peel_first walk walk_parts stmt_exprs body_exprs exprs guards ident method receiver is_debit asset_amount_backer is_asset_parameter asset_params debits
    expr_eq parts_eq strip same_text split_and split_each split_first negated negated_each negated_first conditions_of required_conditions opposite operator single beside_in_asset
    token_named tokens_named is_inflow is_credit is_funding funds ledger_funding_tokens funding_token assigns value sets_from is_zero defaults genesis_values starts_at_zero raise
    raises credited guard_token guard_tokens only debit_token raise_token raise_tokens reserve_token
held models = map (λ m. reserve_token (fields m) (bytes "r")) models

-- a raise by a.amount: one guard, a wrapped guard with its sides swapped, another guard beside it, a lowering beside it, twice in
-- two entries, another amount credited
by-amount : held
    (taking (guard (holds "T") ++ raised amount) ∷ taking (guard (checked (write Eq (identifier "T" ++ checked (write InAsset [])))) ++ raised amount)
    ∷ taking (guard (holds "T") ++ (guard v ++ raised amount)) ∷ taking (guard (holds "T") ++ (raised amount ++ write SubtractFrom (r ++ v)))
    ∷ (taking (guard (holds "T") ++ raised amount) ++ taking (guard (holds "T") ++ raised amount)) ∷ taking (guard (holds "T") ++ (calls "m" "credit" v ++ raised amount)) ∷ [])
    ≡ bytes "T" ∷ bytes "T" ∷ bytes "T" ∷ bytes "T" ∷ bytes "T" ∷ bytes "T" ∷ []
unfolding held
by-amount = refl

-- no guard, the guard twice, two tokens, a clause only, a part of a guard only, Ne; the amount credited, set or inserted too, peeled
by-amount-none : held
    (taking (raised amount) ∷ taking (guard (holds "T") ++ (guard (holds "T") ++ raised amount)) ∷ taking (guard (holds "T") ++ (guard (holds "U") ++ raised amount))
    ∷ taking (write Limits (holds "T") ++ raised amount) ∷ taking (guard (write And (holds "T" ++ v)) ++ raised amount)
    ∷ taking (guard (write Ne (write InAsset [] ++ identifier "T")) ++ raised amount) ∷ taking (guard (holds "T") ++ (calls "m" "credit" amount ++ raised amount))
    ∷ taking (guard (holds "T") ++ (calls "m" "set" (checked amount) ++ raised amount)) ∷ taking (guard (holds "T") ++ (raised amount ++ calls "m" "insert" amount)) ∷ [])
    ≡ [] ∷ [] ∷ [] ∷ [] ∷ [] ∷ [] ∷ [] ∷ [] ∷ [] ∷ []
unfolding held
by-amount-none = refl

-- a raise by a debit of a map that T funds, the debit behind the raise and peeled, the first of two debits
by-debit : held
    ((funding "m" "T" ++ entry (calls "m" "debit" v ++ raised v)) ∷ (entry (raised v ++ calls "m" "debit" (checked v)) ++ funding "m" "T")
    ∷ (funding "m" "T" ++ entry (calls "m" "debit" v ++ (calls "w" "debit" v ++ raised v))) ∷ [])
    ≡ bytes "T" ∷ bytes "T" ∷ bytes "T" ∷ []
unfolding held
by-debit = refl

-- a map that nothing funds, or two tokens; the second of two debits; a debit of another amount, or of a.amount
by-debit-none : held
    (entry (calls "m" "debit" v ++ raised v) ∷ (funding "m" "T" ++ (funding "m" "U" ++ entry (calls "m" "debit" v ++ raised v)))
    ∷ (funding "m" "T" ++ entry (calls "w" "debit" v ++ (calls "m" "debit" v ++ raised v))) ∷ (funding "m" "T" ++ entry (calls "m" "debit" r ++ raised v))
    ∷ (funding "m" "T" ++ taking (calls "m" "debit" amount ++ raised amount)) ∷ [])
    ≡ [] ∷ [] ∷ [] ∷ [] ∷ [] ∷ []
unfolding held
by-debit-none = refl

-- no raise at all, a start at 1, a raise with no token before and behind one with T, two tokens that differ in one entry and in two
none-held : held
    ([] ∷ (state "r" (integer "1") ++ taking (guard (holds "T") ++ raised amount)) ∷ taking (guard (holds "T") ++ (raised v ++ raised amount))
    ∷ taking (guard (holds "T") ++ (raised amount ++ raised v)) ∷ (funding "m" "U" ++ taking (guard (holds "T") ++ (calls "m" "debit" v ++ (raised amount ++ raised v))))
    ∷ (taking (guard (holds "T") ++ raised amount) ++ taking (guard (holds "U") ++ raised amount)) ∷ [])
    ≡ [] ∷ [] ∷ [] ∷ [] ∷ [] ∷ [] ∷ []
unfolding held
none-held = refl

-- The same by numbers, and where the token stands: that of the last raise

-- the number and the place of its token
numbered : List ℕ → ℕ × ℕ
unfolding held known token_of joined joined_all condition_number tokens_number funding_number peel_place peel_first_place place_of beside_place token_place bars
    differ guard_number guard_numbers only_number debit_number raise_number numbers_in agreed reserve_number
numbered m = let k = reserve_number m (bytes "r") in (k, token_place m k)

-- by a guard; in two entries, of which the second counts; by a debit, whose map the first of two entries funds; with a guard behind a
-- wrapper
numbers : map numbered
    (taking (guard (holds "T") ++ raised amount) ∷ (taking (guard (holds "T") ++ raised amount) ++ taking (guard (holds "T") ++ raised amount))
    ∷ (funding "m" "T" ++ (funding "m" "T" ++ entry (calls "m" "debit" v ++ raised v))) ∷ taking (guard (checked (holds "T")) ++ raised amount) ∷ [])
    ≡ (29, 36) ∷ (89, 96) ∷ (29, 36) ∷ (32, 39) ∷ []
unfolding numbered
numbers = refl

-- none: no raise, a start at 1, the guard twice, two tokens that differ, a map that nothing funds
none-numbered : map (λ m. (numbered m).0)
    ([] ∷ (state "r" (integer "1") ++ taking (guard (holds "T") ++ raised amount)) ∷ taking (guard (holds "T") ++ (guard (holds "T") ++ raised amount))
    ∷ (taking (guard (holds "T") ++ raised amount) ++ taking (guard (holds "U") ++ raised amount)) ∷ entry (calls "m" "debit" v ++ raised v) ∷ [])
    ≡ 1 ∷ 1 ∷ 1 ∷ 1 ∷ 1 ∷ []
unfolding numbered
none-numbered = refl
