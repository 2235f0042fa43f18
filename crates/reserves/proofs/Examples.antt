-- The definitions computed on examples: which guard and which assignment let a state field cover a payout.
use Rattle.std.proofs.Common.{ℕ, ◌≡◌, refl, List, [], ◌∷◌, ◌++◌, map, length, Bool, true, false}
use Rattle.std.proofs.Common.{Option}
use Prim.Native.String.{String}
use mathlib.Core.List.{flat_map}
use Rattle.std.proofs.Common.{None, Some}
use Rattle.laws.specs.Texts.{same_bytes, bytes, known}
use Rattle.tags.specs.Tag.{State, Entry, Parameter, Guard, Set, AddTo, SubtractFrom, InAsset, Member, Checked, Wrapping, And, Eq, Lt, Gt, Le, Ge, Sub, Mul, composite, is_assign}
use Rattle.tags.specs.Tag.{is_expression, is_statement, is_wrapper}
use Rattle.fields.specs.declared.named.Named.{Named}
use Rattle.fields.specs.Field.{fields, fields_to, front, nth, row, fields_from, size, sizes, placed, placed_from}
use Rattle.fields.proofs.Writing.{write, name, type_name, integer, identifier}
use Rattle.model.specs.Model.{state_names, genesis, entries, params, body}
use Rattle.walking.specs.Walking.{peel, peel_first, walk, walk_parts, stmt_exprs, body_exprs, exprs, guards, ident, method, receiver, is_debit, asset_amount_backer, is_asset_parameter}
use Rattle.walking.specs.Walking.{asset_params, debits}
use Rattle.walking.specs.Table.{placed_at}
use Rattle.equality.specs.Equality.{expr_eq, parts_eq, strip, same_text}
use Rattle.tokens.specs.Tokens.{single, beside_in_asset, is_inflow, is_credit}
use Rattle.raises.specs.Raises.{assigns, value, sets_from, is_zero, defaults, genesis_values, starts_at_zero, raise, raises}
use Rattle.reserve_tokens.specs.ReserveTokens.{credited, guard_token, guard_tokens, only, debit_token, raise_token, raise_tokens, reserve_token}
use Rattle.guards.specs.Guards.{contains_inflow, guarded_field, guarded_amount, guarded_by, contains_wrapping, lowered_by, lowers}
use Rattle.fields.specs.Number.{number_from}
use Rattle.reserves.specs.Reserves.{reserve_covers, reserve_bounding_payout}
use Rattle.guards.specs.Lowerings.{is_lowering, lowering_at, lowering_numbers, lowers_at, lowered_in}

abbrev r : List ℕ
r = identifier "r"

abbrev s : List ℕ
s = identifier "s"

abbrev n : List ℕ
n = identifier "n"

abbrev checked : List ℕ → List ℕ
checked e = write Checked e

abbrev wrapping : List ℕ → List ℕ
wrapping e = write Wrapping e

abbrev guard : List ℕ → List ℕ
guard e = write Guard e

abbrev asset : String → List ℕ
asset p = write Parameter (name p ++ type_name "Q_Asset")

abbrev amount_of : String → List ℕ
amount_of p = write Member (identifier p ++ name "amount")

-- a state field that starts at zero
abbrev state : String → List ℕ
state f = write State (name f ++ (type_name "Q_Integer" ++ integer "0"))

-- r, raised by a.amount in T by an entry; s, which holds no token
abbrev before : List ℕ
before =
    state "s" ++ (state "r"
    ++ write Entry (name "f" ++ (asset "a" ++ (guard (write Eq (write InAsset [] ++ identifier "T")) ++ write AddTo (r ++ amount_of "a")))))

-- an entry with an asset parameter b
abbrev taking : List ℕ → List ℕ
taking parts = write Entry (name "g" ++ (asset "b" ++ parts))

-- b.amount * 2
abbrev double : List ℕ
double = write Mul (amount_of "b" ++ integer "2")

-- r >= double, and r -= double
abbrev guarded : List ℕ
guarded = guard (write Ge (r ++ double))

abbrev lowered : List ℕ
lowered = write SubtractFrom (r ++ double)

covering : List ℕ → List ℕ → List (List ℕ) → List (Option (List ℕ))
unfolding same_bytes known fields fields_to nth composite size sizes placed placed_from row fields_from flat_map is_assign is_expression is_statement is_wrapper
    state_names genesis entries params body peel peel_first walk walk_parts stmt_exprs body_exprs exprs guards ident method receiver is_debit asset_amount_backer is_asset_parameter
    asset_params debits expr_eq parts_eq strip same_text single beside_in_asset is_inflow is_credit contains_inflow guarded_field guarded_amount guarded_by assigns value
    contains_wrapping sets_from lowered_by lowers is_zero defaults genesis_values starts_at_zero raise raises credited guard_token guard_tokens only debit_token raise_token
    raise_tokens reserve_token reserve_covers reserve_bounding_payout
covering amount token es = map (λ e. reserve_bounding_payout (fields (before ++ e)) (front e) (front amount) token) es

-- of double, in T
abbrev covered : List (List ℕ) → List (Option (List ℕ))
covered bodies = covering double (bytes "T") (map taking bodies)

abbrev yes : Option (List ℕ)
yes = Some (bytes "r")

-- Guards

-- r >= amount, r > amount, amount <= r, amount < r; the guard and its sides peeled; behind the assignment
guards-that-bound : covered
    ((guarded ++ lowered) ∷ (guard (write Gt (r ++ double)) ++ lowered) ∷ (guard (write Le (double ++ r)) ++ lowered) ∷ (guard (write Lt (double ++ r)) ++ lowered)
    ∷ (guard (checked (wrapping (write Ge (r ++ double)))) ++ lowered) ∷ (guard (write Lt (wrapping double ++ checked r)) ++ lowered) ∷ (lowered ++ guarded) ∷ [])
    ≡ yes ∷ yes ∷ yes ∷ yes ∷ yes ∷ yes ∷ yes ∷ []
unfolding covering
guards-that-bound = refl

-- none at all, amount > r, amount >= r, r < amount, r == amount, inside And, another amount, a field that is no state field
guards-that-do-not : covered
    (lowered ∷ (guard (write Gt (double ++ r)) ++ lowered) ∷ (guard (write Ge (double ++ r)) ++ lowered) ∷ (guard (write Lt (r ++ double)) ++ lowered)
    ∷ (guard (write Eq (r ++ double)) ++ lowered) ∷ (guard (write And (write Ge (r ++ double) ++ n)) ++ lowered) ∷ (guard (write Ge (r ++ amount_of "b")) ++ lowered)
    ∷ (guard (write Ge (n ++ double)) ++ write SubtractFrom (n ++ double)) ∷ [])
    ≡ None ∷ None ∷ None ∷ None ∷ None ∷ None ∷ None ∷ None ∷ []
unfolding covering
guards-that-do-not = refl

-- Assignments

-- r -= checked(amount), r = r - amount, r = checked(checked(r) - checked(amount))
assignments-that-lower : covered
    ((guarded ++ write SubtractFrom (r ++ checked double)) ∷ (guarded ++ write Set (r ++ write Sub (r ++ double)))
    ∷ (guarded ++ write Set (r ++ checked (write Sub (checked r ++ checked double)))) ∷ [])
    ≡ yes ∷ yes ∷ yes ∷ []
unfolding covering
assignments-that-lower = refl

-- none at all, r += amount, r = amount - r, r = amount, s -= amount, r = s - amount, r -= another amount, Wrapping around, inside and
-- beside the amount
assignments-that-do-not : covered
    (guarded ∷ (guarded ++ write AddTo (r ++ double)) ∷ (guarded ++ write Set (r ++ write Sub (double ++ r))) ∷ (guarded ++ write Set (r ++ double))
    ∷ (guarded ++ write SubtractFrom (s ++ double)) ∷ (guarded ++ write Set (r ++ write Sub (s ++ double))) ∷ (guarded ++ write SubtractFrom (r ++ amount_of "b"))
    ∷ (guarded ++ write SubtractFrom (r ++ wrapping double)) ∷ (guarded ++ write SubtractFrom (r ++ write Mul (amount_of "b" ++ wrapping (integer "2"))))
    ∷ (guarded ++ write Set (r ++ write Sub (wrapping r ++ double))) ∷ [])
    ≡ None ∷ None ∷ None ∷ None ∷ None ∷ None ∷ None ∷ None ∷ None ∷ None ∷ []
unfolding covering
assignments-that-do-not = refl

-- Amounts and tokens

-- b.amount itself is contained in itself
whole-amount : covering (amount_of "b") (bytes "T") (taking (guard (write Ge (r ++ amount_of "b")) ++ write SubtractFrom (r ++ amount_of "b")) ∷ []) ≡ yes ∷ []
unfolding covering
whole-amount = refl

-- n contains no amount of an asset parameter, nor does n.amount or a.amount, a being no parameter here
no-amount : covering n (bytes "T") (taking (guard (write Ge (r ++ n)) ++ write SubtractFrom (r ++ n)) ∷ [])
    ++ (covering (amount_of "n") (bytes "T") (taking (guard (write Ge (r ++ amount_of "n")) ++ write SubtractFrom (r ++ amount_of "n")) ∷ [])
    ++ covering double (bytes "T") (write Entry (name "g" ++ (guarded ++ lowered)) ∷ []))
    ≡ None ∷ None ∷ None ∷ []
unfolding covering
no-amount = refl

-- another token than the one r holds, and one that is not known
other-tokens : covering double (bytes "U") (taking (guarded ++ lowered) ∷ []) ++ covering double [] (taking (guarded ++ lowered) ∷ []) ≡ None ∷ None ∷ []
unfolding covering
other-tokens = refl

-- Several guards

-- s is guarded first: it holds no token, or nothing lowers it; a guard of no state field, and one of another amount, before it
first-that-covers : covered
    ((guard (write Ge (s ++ double)) ++ (guarded ++ (lowered ++ write SubtractFrom (s ++ double)))) ∷ (guard (write Ge (s ++ double)) ++ (guarded ++ lowered))
    ∷ (guard (write Ge (n ++ double)) ++ (guard (write Ge (r ++ n)) ++ (guarded ++ lowered))) ∷ [])
    ≡ yes ∷ yes ∷ yes ∷ []
unfolding covering
first-that-covers = refl

-- The table of lowerings

abbrev listed : (number place : ℕ) → Named
listed number place = record { number = number; place = place }

-- of the entry behind `before`, which takes 106 bytes; 24 stand before the entry's first guard, and a guard takes 33
numbers : List (List ℕ) → List (List Named)
unfolding same_bytes fields fields_to nth composite size sizes placed flat_map is_assign is_expression is_wrapper peel peel_first walk walk_parts ident expr_eq parts_eq strip same_text
    assigns value contains_wrapping sets_from lowered_by is_lowering lowering_at lowering_numbers number_from
numbers bodies = map (λ c. lowering_numbers (front double) (placed_at (before ++ taking c) (length before))) bodies

-- r's name has the number 35659; behind a guard, at once, of another amount, by an addition, and of two names
lowerings-listed : numbers
    ((guarded ++ lowered) ∷ lowered ∷ (guarded ++ write SubtractFrom (r ++ n)) ∷ (guarded ++ write AddTo (r ++ double)) ∷ (lowered ++ write SubtractFrom (s ++ double))
    ∷ [])
    ≡ (listed 35659 163 ∷ []) ∷ (listed 35659 130 ∷ []) ∷ [] ∷ [] ∷ (listed 35659 130 ∷ listed 60692 160 ∷ []) ∷ []
unfolding numbers
lowerings-listed = refl

-- whether a table of one lowering, of that number, lowers r or s
named : ℕ → List Bool
unfolding same_bytes fields fields_to nth composite ident lowers_at number_from
named number = map (λ x. lowered_in (before ++ taking lowered) (bytes x) (listed number 130 ∷ [])) ("r" ∷ "s" ∷ [])

-- its own number, that of s, and neither
names-compared : named 35659 ++ (named 60692 ++ named 0) ≡ true ∷ false ∷ false ∷ false ∷ false ∷ false ∷ []
unfolding named
names-compared = refl
