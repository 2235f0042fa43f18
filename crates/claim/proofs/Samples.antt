-- Entries written by hand, and what the definitions say of them.
use Rattle.std.proofs.Common.{ℕ, ◌≡◌, refl, List, [], ◌∷◌, ◌++◌, map, length}
use mathlib.Core.List.{flat_map}
use Rattle.std.proofs.Common.{Option}
use Prim.Native.String.{String}
use Rattle.laws.specs.Lists.{remove_first, position, numbered}
use Rattle.laws.specs.Texts.{same_bytes, known}
use Rattle.tags.specs.Tag.{State, Entry, Parameter, Guard, AddTo, SubtractFrom, ExpressionStatement, Caller, InAsset, Member, Call, Checked, Eq, Ge, Sub, Mul, Div}
use Rattle.tags.specs.Tag.{is_item, is_clause, is_statement, is_assign, is_expression, is_text, is_wrapper, composite}
use Rattle.fields.specs.Field.{fields, fields_to, nth, row, fields_from, size, sizes, placed, placed_from}
use Rattle.fields.proofs.Writing.{write, name, type_name, integer, identifier}
use Rattle.model.specs.Model.{states, state_names, genesis, entries, params, body}
use Rattle.grammar.specs.Grammar.{in_class, grammar, slots_in, advance, complete}
use Rattle.questions.specs.Questions.{content_allowed, ask_field, ask_fields, ask_names, at_most, ask_form, ask_file}
use Rattle.walking.specs.Walking.{peel, peel_first, walk, walk_parts, stmt_exprs, body_exprs, exprs, guards, ident, method, receiver}
use Rattle.walking.specs.Walking.{is_debit, is_payout, asset_amount_backer, is_asset_parameter, asset_params, debits, payouts}
use Rattle.equality.specs.Equality.{strip, same_text, expr_eq, parts_eq}
use Rattle.conditions.specs.Conditions.{split_and, split_each, split_first, negated, negated_each, negated_first, conditions_of, required_conditions, opposite, operator}
use Rattle.bounds.specs.Bounds.{goes_left, wrapping_inside, bounded_by_backing, left_bounded}
use Rattle.tokens.specs.Tokens.{single, differ, beside_in_asset, token_named, tokens_named, admitted_inflow_token, is_inflow, is_credit, is_funding}
use Rattle.fundings.specs.FundingTokens.{funds, ledger_funding_tokens, funding_token}
use Rattle.raises.specs.Raises.{assigns, value, sets_from, is_zero, defaults, genesis_values, starts_at_zero, raise, raises}
use Rattle.reserve_tokens.specs.ReserveTokens.{credited, guard_token, guard_tokens, only, debit_token, raise_token, raise_tokens, reserve_token}
use Rattle.guards.specs.Guards.{contains_inflow, guarded_field, guarded_amount, guarded_by, contains_wrapping, lowered_by, lowers}
use Rattle.guards.specs.Payouts.{payout_token, payout_amount}
use Rattle.reserves.specs.Reserves.{reserve_covers, reserve_bounding_payout}
use Rattle.matching.specs.Matching.{debit_backings, parameter_backings, backings, equals, bounds, take_backing, take_reserve, by_reserve, by_bounding, not_taken, by_equal, answer, start}
use Rattle.reserves.specs.States.{state_index}
use Rattle.reserves.specs.Covers.{index_in}
use Rattle.claim.specs.Verdict.{Verdict, match_from, matching, backing_count, entry_at, ask_entry, entry_verdict, verdict, kind, index, sheet, written}
use Rattle.claim.specs.Reserve.{payout_reserve}

-- Rows

-- a row: a file, the entry asked about, how many bytes of covers are lent, and the verdict
pub record Row : Type 0 where
  pub file : List ℕ
  pub number : ℕ
  pub lent : ℕ
  pub expected : Verdict

-- a row with covers for 64 payouts
abbrev pub about : List ℕ → ℕ → Verdict → Row
about f n v = record { file = f; number = n; lent = 192; expected = v }

-- what the definitions say of each row
unfoldable pub found : List Row → List Verdict
unfolding remove_first position numbered same_bytes known is_item is_clause is_statement is_assign is_expression
    is_text is_wrapper composite fields fields_to nth row fields_from size sizes placed placed_from states state_names genesis entries
    params body in_class grammar slots_in advance complete content_allowed ask_field ask_fields ask_names at_most ask_form ask_file peel
    peel_first walk walk_parts stmt_exprs body_exprs exprs guards ident method receiver is_debit is_payout asset_amount_backer
    is_asset_parameter asset_params debits payouts strip same_text expr_eq parts_eq split_and split_each split_first negated negated_each
    negated_first conditions_of required_conditions opposite operator goes_left wrapping_inside bounded_by_backing left_bounded single
    differ beside_in_asset token_named tokens_named admitted_inflow_token is_inflow is_credit is_funding funds ledger_funding_tokens
    funding_token contains_inflow guarded_field guarded_amount guarded_by assigns value contains_wrapping sets_from lowered_by lowers
    is_zero defaults genesis_values starts_at_zero raise raises credited guard_token guard_tokens only debit_token raise_token raise_tokens
    reserve_token reserve_covers reserve_bounding_payout debit_backings parameter_backings backings payout_token payout_amount equals
    bounds take_backing take_reserve by_reserve by_bounding not_taken by_equal answer start match_from matching backing_count ask_entry
    entry_verdict verdict flat_map
found rs = map (λ r. verdict r.file r.number r.lent) rs

-- what each row states
abbrev pub stated : List Row → List Verdict
stated rs = map (λ r. r.expected) rs

-- what the lent covers hold afterwards
unfoldable pub left : List ℕ → ℕ → List ℕ → List ℕ
unfolding found written sheet kind index
left file n lent = written (verdict file n (length lent)) lent

-- the number of the state field that covers a payout by itself
unfoldable pub reserve_in : List ℕ → ℕ → ℕ → Option ℕ
unfolding found payout_reserve index_in state_index
reserve_in file n k = index_in (fields file) (payout_reserve (fields file) (entry_at (fields file) n).this k)

-- Files

-- the entry f
abbrev pub entry : List ℕ → List ℕ
entry c = write Entry (name "f" ++ c)

-- a row about the only entry of a file
abbrev pub one : List ℕ → Verdict → Row
one c v = about (entry c) 0 v

-- a state field with a default, or none
abbrev pub state : String → List ℕ → List ℕ
state r default = write State (name r ++ type_name "u64" ++ default)

abbrev pub parameter : String → String → List ℕ
parameter p t = write Parameter (name p ++ type_name t)

-- an asset parameter, and the plain one n
abbrev pub asset : String → List ℕ
asset p = parameter p "Q_Asset"

abbrev pub plain : List ℕ
plain = parameter "n" "u64"

abbrev pub guard : List ℕ → List ℕ
guard e = write Guard e

-- an expression as a statement
abbrev pub statement : List ℕ → List ℕ
statement e = write ExpressionStatement e

abbrev pub caller : List ℕ
caller = write Caller []

abbrev pub in_asset : List ℕ
in_asset = write InAsset []

-- in-asset == t
abbrev pub holds : String → List ℕ
holds t = write Eq (in_asset ++ identifier t)

-- n
abbrev pub n : List ℕ
n = identifier "n"

-- p.amount
abbrev pub amount : String → List ℕ
amount p = write Member (identifier p ++ name "amount")

-- e / 2, e - 1
abbrev pub half : List ℕ → List ℕ
half e = write Div (e ++ integer "2")

abbrev pub less_one : List ℕ → List ℕ
less_one e = write Sub (e ++ integer "1")

-- m.f(arguments)
abbrev pub member : String → String → List ℕ → List ℕ
member m f arguments = write Call (write Member (identifier m ++ name f) ++ arguments)

-- m.debit(caller, e)
abbrev pub debit : List ℕ → List ℕ
debit e = statement (member "m" "debit" (caller ++ e))

-- send_asset(T, caller, e)
abbrev pub send : List ℕ → List ℕ
send e = statement (write Call (identifier "send_asset" ++ identifier "T" ++ caller ++ e))

-- b.amount * 2
abbrev pub double : List ℕ
double = write Mul (amount "b" ++ integer "2")

-- an entry with a: guards, then r += a.amount
abbrev pub raising : List ℕ → List ℕ
raising guards = entry (asset "a" ++ guards ++ write AddTo (identifier "r" ++ amount "a"))

-- guard r >= b.amount * 2, r -= b.amount * 2, send b.amount * 2
abbrev pub drawing : List ℕ
drawing = guard (write Ge (identifier "r" ++ double)) ++ write SubtractFrom (identifier "r" ++ double) ++ send double

-- Files of entries that the rules work by hand, those that more than one list asks about

-- K3: the 66 bytes as the rules print them
unfoldable pub k3 : List ℕ
k3 =
    0x03 ∷ 0x00 ∷ 0x3F ∷ 0x20 ∷ 0x00 ∷ 0x01 ∷ 0x66 ∷ 0x04 ∷ 0x00 ∷ 0x0E ∷ 0x20 ∷ 0x00 ∷ 0x01 ∷ 0x61 ∷ 0x21 ∷ 0x00 ∷
    0x07 ∷ 0x51 ∷ 0x5F ∷ 0x41 ∷ 0x73 ∷ 0x73 ∷ 0x65 ∷ 0x74 ∷ 0x16 ∷ 0x00 ∷ 0x27 ∷ 0x3B ∷ 0x00 ∷ 0x24 ∷ 0x33 ∷ 0x00 ∷
    0x0A ∷ 0x73 ∷ 0x65 ∷ 0x6E ∷ 0x64 ∷ 0x5F ∷ 0x61 ∷ 0x73 ∷ 0x73 ∷ 0x65 ∷ 0x74 ∷ 0x33 ∷ 0x00 ∷ 0x01 ∷ 0x54 ∷ 0x34 ∷
    0x00 ∷ 0x00 ∷ 0x3A ∷ 0x00 ∷ 0x0D ∷ 0x33 ∷ 0x00 ∷ 0x01 ∷ 0x61 ∷ 0x20 ∷ 0x00 ∷ 0x06 ∷ 0x61 ∷ 0x6D ∷ 0x6F ∷ 0x75 ∷
    0x6E ∷ 0x74 ∷ []

-- the encoder writes the same bytes
k3-written : k3 ≡ entry (asset "a" ++ send (amount "a"))
unfolding k3
k3-written = refl

-- K11: entry 0, with a, guards in-asset == T and raises the state field r; entry 1, with b, draws on it
abbrev pub k11 : List ℕ
k11 = state "r" (integer "0") ++ raising (guard (holds "T")) ++ entry (asset "b" ++ drawing)

-- K12: the same with that guard written twice
abbrev pub k12 : List ℕ
k12 = state "r" (integer "0") ++ raising (guard (holds "T") ++ guard (holds "T")) ++ entry (asset "b" ++ drawing)

-- K11 and its payout again, inside Checked, with a state field before r
abbrev pub again : List ℕ
again = state "q" [] ++ k11 ++ entry (asset "b" ++ drawing ++ send (write Checked double))
