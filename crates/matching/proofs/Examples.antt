-- The definitions computed on examples: what covers each payout of an entry, or why one is rejected.
use Rattle.std.proofs.Common.{ℕ, ◌≡◌, refl, List, [], ◌∷◌, ◌++◌, map}
use Prim.Native.String.{String}
use mathlib.Core.List.{flat_map}
use Rattle.laws.specs.Lists.{remove_first, position, numbered}
use Rattle.laws.specs.Texts.{same_bytes, known}
use Rattle.tags.specs.Tag.{State, Entry, Parameter, Guard, AddTo, SubtractFrom, ExpressionStatement, InAsset, Caller, Date, Member, Call, Checked, Wrapping, Eq, Ge, Sub, Mul, Div, composite}
use Rattle.tags.specs.Tag.{is_expression, is_statement, is_wrapper, is_assign}
use Rattle.fields.specs.Field.{Field, Fields, fields, fields_to, front, nth, row, fields_from, size, sizes, placed, placed_from}
use Rattle.fields.proofs.Writing.{write, word, name, type_name, integer, identifier}
use Rattle.model.specs.Model.{entries, params, body, genesis, state_names}
use Rattle.walking.specs.Walking.{peel, peel_first, walk, walk_parts, stmt_exprs, body_exprs, exprs, guards, ident, method, receiver, is_debit, is_payout, asset_amount_backer}
use Rattle.walking.specs.Walking.{is_asset_parameter, asset_params, debits, payouts}
use Rattle.equality.specs.Equality.{strip, same_text, expr_eq, parts_eq}
use Rattle.conditions.specs.Conditions.{split_and, split_each, split_first, negated, negated_each, negated_first, conditions_of, required_conditions, opposite, operator}
use Rattle.bounds.specs.Bounds.{goes_left, wrapping_inside, bounded_by_backing, left_bounded}
use Rattle.tokens.specs.Tokens.{single, differ, beside_in_asset, token_named, tokens_named, admitted_inflow_token, is_inflow, is_credit, is_funding}
use Rattle.fundings.specs.FundingTokens.{funds, ledger_funding_tokens, funding_token}
use Rattle.raises.specs.Raises.{assigns, value, sets_from, is_zero, defaults, genesis_values, starts_at_zero, raise, raises}
use Rattle.reserve_tokens.specs.ReserveTokens.{credited, guard_token, guard_tokens, only, debit_token, raise_token, raise_tokens, reserve_token}
use Rattle.guards.specs.Guards.{contains_inflow, guarded_field, guarded_amount, guarded_by, contains_wrapping, lowered_by, lowers}
use Rattle.guards.specs.Payouts.{payout_token, payout_amount}
use Rattle.reserves.specs.Reserves.{reserve_covers, reserve_bounding_payout}
use Rattle.matching.specs.Matching.{Cover, Reason, Marks, debit_backings, parameter_backings, backings, equals, bounds, take_backing, take_reserve, by_reserve, by_bounding, not_taken}
use Rattle.matching.specs.Matching.{by_equal, answer, start}
use Rattle.matching.specs.Matching.Cover.{equal_debit, equal_parameter, bounding_debit, bounding_parameter, reserve}
use Rattle.matching.specs.Matching.Reason.{split_without_amount, conflict_at_equal, amount_taken, conflict_at_bounding, no_reserve, reserve_used}
use Rattle.matching.specs.Matching.Answer.{cover, rejection}

-- what an answer is: a kind of cover with its index, or 0 with the number of the reason
abbrev shown_cover : Cover → ℕ × ℕ
shown_cover (equal_debit i) = (1, i)
shown_cover (equal_parameter i) = (2, i)
shown_cover (bounding_debit i) = (3, i)
shown_cover (bounding_parameter i) = (4, i)
shown_cover (reserve i) = (5, i)

abbrev shown_reason : Reason → ℕ × ℕ
shown_reason split_without_amount = (0, 1)
shown_reason conflict_at_equal = (0, 2)
shown_reason amount_taken = (0, 3)
shown_reason conflict_at_bounding = (0, 4)
shown_reason no_reserve = (0, 5)
shown_reason reserve_used = (0, 6)

-- one payout after the other, up to the first rejection
abbrev run : Fields → Field → Marks → List Field → List (ℕ × ℕ)
run model entry s [] = []
run model entry s (p ∷ ps) =
    elim (answer model entry s p) [
      | cover c after ↦ shown_cover c ∷ run model entry after ps
      | rejection r ↦ shown_reason r ∷ []
    ]

-- the last entry of a model, with what stands before it
answers : List (List ℕ × List ℕ) → List (List (ℕ × ℕ))
unfolding remove_first position numbered same_bytes known fields fields_to nth composite size sizes placed placed_from row fields_from flat_map is_expression is_statement
    is_wrapper is_assign entries params body genesis state_names peel peel_first walk walk_parts stmt_exprs body_exprs exprs guards ident method receiver is_debit is_payout
    asset_amount_backer is_asset_parameter asset_params debits payouts strip same_text expr_eq parts_eq split_and split_each split_first negated negated_each negated_first
    conditions_of required_conditions opposite operator goes_left wrapping_inside bounded_by_backing left_bounded single differ beside_in_asset token_named tokens_named
    admitted_inflow_token is_inflow is_credit is_funding funds ledger_funding_tokens funding_token contains_inflow guarded_field guarded_amount guarded_by assigns value
    contains_wrapping sets_from lowered_by lowers is_zero defaults genesis_values starts_at_zero raise raises credited guard_token guard_tokens only debit_token raise_token
    raise_tokens reserve_token reserve_covers reserve_bounding_payout debit_backings parameter_backings backings payout_token payout_amount equals bounds take_backing take_reserve
    by_reserve by_bounding not_taken by_equal answer start
answers ms = map (λ m. run (fields (m.0 ++ m.1)) (front m.1) (start (fields (m.0 ++ m.1)) (front m.1)) (payouts (front m.1))) ms

-- the parts of examples
abbrev entry : List ℕ → List ℕ
entry c = write Entry (name "f" ++ c)

abbrev asset : String → List ℕ
asset p = write Parameter (name p ++ type_name "Q_Asset")

abbrev amount : String → List ℕ
amount p = write Member (identifier p ++ name "amount")

abbrev call : String → String → List ℕ → List ℕ
call m how arguments = write Call (write Member (identifier m ++ name how) ++ arguments)

abbrev debit : List ℕ → List ℕ
debit v = write ExpressionStatement (call "m" "debit" (write Caller [] ++ v))

-- send_asset(T, caller, v)
abbrev send : List ℕ → List ℕ
send v = write ExpressionStatement (write Call (identifier "send_asset" ++ (identifier "T" ++ (write Caller [] ++ v))))

abbrev guard : List ℕ → List ℕ
guard e = write Guard e

-- in-asset == t
abbrev holds : String → List ℕ
holds t = guard (write Eq (write InAsset [] ++ identifier t))

abbrev n : List ℕ
n = identifier "n"

abbrev half : List ℕ → List ℕ
half e = write Div (e ++ integer "2")

abbrev alone : List ℕ → List ℕ × List ℕ
alone c = ([], entry c)

-- backings that equal the amount: by their indexes among debits and among parameters, each once, integers without underscores,
-- a split's argument
equal : answers
    (alone (asset "a" ++ send (amount "a")) ∷ alone (debit (integer "10") ++ send (integer "1_0")) ∷ alone (debit n ++ (debit (integer "6") ++ send (integer "6")))
    ∷ alone (asset "a" ++ (asset "b" ++ (debit n ++ (send (amount "b") ++ send n)))) ∷ alone (debit n ++ (debit n ++ (send n ++ send n)))
    ∷ alone (asset "a" ++ send (call "a" "split" (amount "a"))) ∷ alone (asset "a" ++ (holds "T" ++ send (write Checked (amount "a")))) ∷ [])
    ≡ ((2, 0) ∷ []) ∷ ((1, 0) ∷ []) ∷ ((1, 1) ∷ []) ∷ ((2, 1) ∷ (1, 0) ∷ []) ∷ ((1, 0) ∷ (1, 1) ∷ []) ∷ ((2, 0) ∷ []) ∷ ((2, 0) ∷ []) ∷ []
unfolding answers
equal = refl

-- backings that bound it, an equal one first; a wrapped subtraction is not bounded
bounding : answers
    (alone (debit n ++ send (half n)) ∷ alone (asset "a" ++ send (half (amount "a"))) ∷ alone (debit n ++ (debit (half n) ++ send (half n)))
    ∷ alone (debit n ++ send (write Wrapping (write Sub (n ++ integer "1")))) ∷ alone (debit n ++ send (write Wrapping (write Checked (write Sub (n ++ integer "1"))))) ∷ [])
    ≡ ((3, 0) ∷ []) ∷ ((4, 0) ∷ []) ∷ ((1, 1) ∷ []) ∷ ((0, 5) ∷ []) ∷ ((3, 0) ∷ []) ∷ []
unfolding answers
bounding = refl

-- rejections: no amount; a token conflict, after which no other backing is tried; a backing that is taken, by an equal or a smaller
-- payout; a conflict at a bounding one; nothing that equals or bounds, a date not even itself
rejected : answers
    (alone (asset "a" ++ send (call "a" "split" [])) ∷ alone (asset "a" ++ (asset "a" ++ (holds "U" ++ send (amount "a"))))
    ∷ alone (asset "a" ++ (send (amount "a") ++ send (amount "a"))) ∷ alone (debit n ++ (send (half n) ++ send n)) ∷ alone (asset "a" ++ (holds "U" ++ send (half (amount "a"))))
    ∷ alone (debit n ++ send (integer "1")) ∷ alone (debit (word Date "1") ++ send (word Date "1")) ∷ [])
    ≡ ((0, 1) ∷ []) ∷ ((0, 2) ∷ []) ∷ ((2, 0) ∷ (0, 3) ∷ []) ∷ ((3, 0) ∷ (0, 3) ∷ []) ∷ ((0, 4) ∷ []) ∷ ((0, 5) ∷ []) ∷ ((0, 5) ∷ []) ∷ []
unfolding answers
rejected = refl

-- a reserve, once: state r starts at zero, another entry raises it by what comes in as T
abbrev double : List ℕ
double = write Mul (amount "b" ++ integer "2")

abbrev held : List ℕ
held =
    write State (name "r" ++ (type_name "int" ++ integer "0"))
    ++ entry (asset "a" ++ (holds "T" ++ write AddTo (identifier "r" ++ amount "a")))

abbrev lowering : List ℕ → List ℕ
lowering sends = entry (asset "b" ++ (guard (write Ge (identifier "r" ++ double)) ++ (write SubtractFrom (identifier "r" ++ double) ++ sends)))

reserves : answers ((held, lowering (send double)) ∷ (held, lowering (send double ++ send double)) ∷ ([], lowering (send double)) ∷ [])
    ≡ ((5, 0) ∷ []) ∷ ((5, 0) ∷ (0, 6) ∷ []) ∷ ((0, 5) ∷ []) ∷ []
unfolding answers
reserves = refl
