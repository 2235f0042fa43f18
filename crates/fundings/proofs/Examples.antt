-- The definitions computed on examples: what funds a map, and when there is one token.
use Rattle.std.proofs.Common.{ℕ, ◌≡◌, refl, List, [], ◌∷◌, ◌++◌, map, None, Some}
use Rattle.std.specs.List.{position}
use Prim.Native.String.{String}
use mathlib.Core.List.{flat_map}
use Rattle.laws.specs.Texts.{same_bytes, bytes, known}
use Rattle.tags.specs.Tag.{Entry, Parameter, Limits, Guard, ExpressionStatement, InAsset, Member, Call, Checked, Eq, Lt, composite, is_expression, is_statement, is_wrapper}
use Rattle.fields.specs.Field.{fields, fields_to, nth, row, fields_from, size, sizes, placed, placed_from, place_of}
use Rattle.fields.specs.Number.{short_number, number_from}
use Rattle.fields.proofs.Writing.{write, name, type_name, identifier}
use Rattle.model.specs.Model.{entries, params}
use Rattle.walking.specs.Walking.{peel, peel_first, peel_place, peel_first_place, walk, walk_parts, stmt_exprs, body_exprs, exprs, ident, method, receiver, asset_amount_backer}
use Rattle.walking.specs.Walking.{is_asset_parameter, asset_params}
use Rattle.conditions.specs.Conditions.{split_and, split_each, split_first, negated, negated_each, negated_first, conditions_of, required_conditions, opposite, operator}
use Rattle.tokens.specs.Tokens.{single, beside_in_asset, token_named, tokens_named, is_inflow, is_credit, is_funding}
use Rattle.tokens.specs.Numbers.{token_of, joined, joined_all, condition_number, tokens_number}
use Rattle.tokens.specs.Place.{beside_place, token_place}
use Rattle.fundings.specs.FundingTokens.{funds, ledger_funding_tokens, funding_token}
use Rattle.fundings.specs.Fundings.{funding_number, is_map, number_of_map}
use Rattle.fundings.specs.declared.ledger.Funding.{Funding}

abbrev in_asset : List ℕ
in_asset = write InAsset []

-- in-asset == t
abbrev holds : String → List ℕ
holds t = write Eq (in_asset ++ identifier t)

abbrev x : List ℕ
x = identifier "x"

abbrev entry : List ℕ → List ℕ
entry c = write Entry (name "f" ++ c)

abbrev asset : String → List ℕ
asset p = write Parameter (name p ++ type_name "Q_Asset")

abbrev limits : List ℕ → List ℕ
limits e = write Limits e

abbrev guard : List ℕ → List ℕ
guard e = write Guard e

-- an entry that names t and calls m.how(x, value)
abbrev amount : String → List ℕ
amount p = write Member (identifier p ++ name "amount")

abbrev call : String → String → List ℕ → List ℕ
call m how arguments = write Call (write Member (identifier m ++ name how) ++ arguments)

abbrev funding : String → List ℕ → List ℕ
funding t body = entry (asset "a" ++ (limits (holds t) ++ body))

abbrev credits : String → List ℕ → List ℕ
credits how value = write ExpressionStatement (call "m" how (x ++ value))

funded : List (List ℕ) → List (List ℕ)
unfolding same_bytes known fields fields_to nth composite size sizes placed placed_from row fields_from flat_map is_expression is_statement is_wrapper entries params peel
    peel_first walk walk_parts stmt_exprs body_exprs exprs ident method receiver asset_amount_backer is_asset_parameter asset_params split_and split_each split_first negated
    negated_each negated_first conditions_of required_conditions opposite operator single beside_in_asset token_named tokens_named is_inflow is_credit is_funding funds
    ledger_funding_tokens funding_token
funded models = map (λ m. funding_token (fields m) (bytes "m")) models

-- maps that T funds: by credit, set and insert, a wrapped amount, an extra argument, another map's token beside
funding-one : funded
    (funding "T" (credits "credit" (amount "a")) ∷ funding "T" (credits "set" (write Checked (amount "a"))) ∷ funding "T" (credits "insert" (amount "a" ++ x))
    ∷ (funding "T" (credits "credit" (amount "a")) ++ funding "U" (write ExpressionStatement (call "w" "credit" (x ++ amount "a")))) ∷ [])
    ≡ bytes "T" ∷ bytes "T" ∷ bytes "T" ∷ bytes "T" ∷ []
unfolding funded
funding-one = refl

-- and maps with none: no entry, a debit, a first argument, half an amount, a plain parameter, another entry's parameter, a credit
-- in a clause, two tokens of two entries, two tokens of one
funding-none : funded
    ([] ∷ funding "T" (credits "debit" (amount "a")) ∷ funding "T" (write ExpressionStatement (call "m" "credit" (amount "a")))
    ∷ funding "T" (credits "credit" (write Lt (amount "a" ++ x))) ∷ funding "T" (credits "credit" (amount "b"))
    ∷ (entry (asset "b") ++ funding "T" (credits "credit" (amount "b"))) ∷ entry (asset "a" ++ (limits (holds "T") ++ limits (call "m" "credit" (x ++ amount "a"))))
    ∷ (funding "T" (credits "credit" (amount "a")) ++ funding "U" (credits "set" (amount "a"))) ∷ funding "T" (guard (holds "U") ++ credits "credit" (amount "a")) ∷ [])
    ≡ [] ∷ [] ∷ [] ∷ [] ∷ [] ∷ [] ∷ [] ∷ [] ∷ [] ∷ []
unfolding funded
funding-none = refl

-- calls that fund the maps m and w, one behind the other
abbrev set_map : String → List ℕ
set_map m = call m "set" (x ++ amount "a")

two-maps : List ℕ
two-maps = set_map "m" ++ set_map "w"

-- what is listed of each
abbrev listed_as : String → (place set : ℕ) → Funding
listed_as m place set = record { number = short_number (bytes m); place = place; tokens = set }

abbrev listed : List Funding
listed = listed_as "m" 6 29 ∷ listed_as "w" 42 1 ∷ []

-- a map's set is that of its own name; a map that is not listed has an empty one, and so has one whose number stands with another name
looked-up : map (λ m. number_of_map two-maps m listed) (bytes "m" ∷ bytes "w" ∷ bytes "n" ∷ [])
    ++ number_of_map two-maps (bytes "n") (listed_as "n" 6 29 ∷ []) ∷ []
    ≡ 29 ∷ 1 ∷ 0 ∷ 0 ∷ []
unfolding fields fields_to nth composite same_bytes ident number_from is_map number_of_map two-maps
looked-up = refl

-- where they stand: the first, the second, nowhere
found : map (λ m. position (is_map two-maps m) listed) (bytes "m" ∷ bytes "w" ∷ bytes "n" ∷ []) ≡ Some 0 ∷ Some 1 ∷ None ∷ []
unfolding fields fields_to nth composite same_bytes ident number_from is_map two-maps
found = refl

-- an entry that credits another map
abbrev credits_other : List ℕ
credits_other = write ExpressionStatement (call "w" "credit" (x ++ amount "a"))

-- the set of m's tokens in files: the first comparison of those that name the same, and 2; where it is one, its token stands
-- behind two heads
funded_numbers : List (List ℕ) → List ℕ
unfolding same_bytes known fields fields_to nth composite size sizes placed placed_from row fields_from flat_map is_expression is_statement is_wrapper entries params peel
    peel_first walk walk_parts stmt_exprs body_exprs exprs ident method receiver asset_amount_backer is_asset_parameter asset_params split_and split_each split_first negated negated_each
    negated_first conditions_of required_conditions opposite operator beside_in_asset token_named is_inflow is_credit is_funding token_of joined joined_all condition_number tokens_number
    funds funding_number
funded_numbers files = map (λ f. funding_number f (bytes "m")) files

numbering : funded_numbers
    ((funding "T" (credits "credit" (amount "a")) ++ funding "U" credits_other) ∷ (funding "T" credits_other ++ funding "U" (credits "credit" (amount "a")))
    ∷ (funding "T" (credits "credit" (amount "a")) ++ funding "T" (credits "set" (amount "a"))) ∷ (funding "T" (credits "credit" (amount "a")) ++ funding "U" (credits "set" (amount "a")))
    ∷ (entry (asset "a" ++ credits "set" (amount "a")) ++ funding "T" (credits "credit" (amount "a"))) ∷ [] ∷ [])
    ≡ 29 ∷ 108 ∷ 29 ∷ 1 ∷ 92 ∷ 0 ∷ []
unfolding funded_numbers
numbering = refl

showing : token_place (funding "T" (credits "credit" (amount "a"))) 29 ≡ 36
unfolding fields fields_to nth composite size sizes is_wrapper peel peel_first peel_place peel_first_place place_of beside_place token_place
showing = refl
