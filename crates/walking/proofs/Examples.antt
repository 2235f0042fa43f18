-- The definitions computed on examples: what is peeled and what is not, the order of the walk, what bars a debit or a
-- payout and what does not.
use Rattle.std.proofs.Common.{ℕ, ◌≡◌, refl, true, false, List, [], ◌∷◌, ◌++◌, map, length}
use mathlib.Core.List.{flat_map}
use lib.Seq.{sets}
use Rattle.laws.specs.Texts.{bytes, same_bytes}
use Rattle.tags.specs.Tag.{Entry, Parameter, Limits, Guard, Let, Set, ExpressionStatement, Identifier, Caller, Not, Member, Call}
use Rattle.tags.specs.Tag.{Checked, Wrapping, Sub, Gt, composite, is_expression, is_statement, is_wrapper}
use Rattle.fields.specs.Field.{fields, fields_to, front, nth, nothing, tag, part, row, fields_from, size, sizes, placed}
use Rattle.fields.specs.Number.{short_number, number_from}
use Rattle.fields.proofs.Writing.{write, name, type_name, identifier}
use Rattle.model.specs.Model.{params}
use Rattle.walking.specs.Walking.{peel, peel_first, peel_place, peel_first_place, walk, walk_parts, stmt_exprs, body_exprs, exprs}
use Rattle.walking.specs.Walking.{guards, ident, method, receiver, is_debit, is_payout, asset_amount_backer, is_asset_parameter}
use Rattle.walking.specs.Walking.{asset_params, debits, payouts}
use Rattle.walking.specs.Table.{places_of}
use Rattle.walking.specs.Assets.{named_parameter, named_assets}

-- the identifiers n and m, and m.debit
abbrev n : List ℕ
n = identifier "n"

abbrev m : List ℕ
m = identifier "m"

abbrev debit : List ℕ
debit = write Member (m ++ name "debit")

abbrev caller : List ℕ
caller = write Caller []

-- Peeling

peeled : peel (front (write Checked (write Wrapping n))) ∷ peel (front n) ∷ [] ≡ front n ∷ front n ∷ []
unfolding fields fields_to nth composite peel peel_first is_wrapper
peeled = refl

-- a wrapper further inside stays
kept : peel (front (write Not (write Checked n))) ≡ front (write Not (write Checked n))
unfolding fields fields_to nth composite peel peel_first is_wrapper
kept = refl

-- what stands behind a wrapper is not inside it
hollow : peel (front (write Checked [] ++ n)) ∷ peel (front (write Checked (write Wrapping []) ++ n)) ∷ [] ≡ nothing ∷ nothing ∷ []
unfolding fields fields_to nth composite peel peel_first is_wrapper
hollow = refl

places-peeled : map (λ s. peel_place (length s) 0 (front s)) (n ∷ write Checked (write Wrapping n) ∷ (write Checked [] ++ n) ∷ []) ≡ 0 ∷ 6 ∷ 7 ∷ []
unfolding fields fields_to nth composite peel_place peel_first_place is_wrapper
places-peeled = refl

-- Walking

-- m.debit(caller, checked(n)) at 10: a node before its parts, the callee before the arguments, and no name
debit-call : List ℕ
debit-call = write Call (debit ++ (caller ++ write Checked n))

walked : map (λ p. tag p.this) (walk 10 (front debit-call)) ≡ Call ∷ Member ∷ Identifier ∷ Caller ∷ Checked ∷ Identifier ∷ []
unfolding fields fields_to nth composite size sizes walk walk_parts is_expression debit-call
walked = refl

walked-places : map (λ p. p.place) (walk 10 (front debit-call)) ≡ 10 ∷ 13 ∷ 16 ∷ 28 ∷ 31 ∷ 34 ∷ []
unfolding fields fields_to nth composite size sizes walk walk_parts is_expression debit-call
walked-places = refl

-- neither a statement nor a name is walked as an expression, nor what is missing
only-expressions : walk 0 (front (write Guard n)) ∷ walk 0 (front (name "n")) ∷ walk 0 nothing ∷ [] ≡ [] ∷ [] ∷ [] ∷ []
unfolding fields fields_to nth composite walk walk_parts is_expression
only-expressions = refl

-- an entry with a parameter, a clause with a call in it, and three statements: set (the target before its value), let, guard
parameter : List ℕ
parameter = write Parameter (name "n" ++ type_name "Int")

entry : List ℕ
entry =
    write Entry (name "f" ++ (parameter ++ (write Limits (write Call m)
    ++ (write Set (m ++ write Sub (m ++ n)) ++ (write Let (name "x" ++ caller) ++ write Guard (write Gt (n ++ m)))))))

body-walked : map tag (exprs (front entry)) ≡ Identifier ∷ Sub ∷ Identifier ∷ Identifier ∷ Caller ∷ Gt ∷ Identifier ∷ Identifier ∷ []
unfolding fields fields_to nth composite size sizes placed flat_map walk walk_parts stmt_exprs body_exprs exprs is_expression is_statement entry parameter
body-walked = refl

body-guards : guards (front entry) ≡ front (write Gt (n ++ m)) ∷ []
unfolding fields fields_to nth composite row fields_from guards entry parameter
body-guards = refl

-- the identifiers of the body, and a table with room for three of the five
body-places : places_of Identifier (body_exprs (record { place = 100; this = front entry })) ≡ 133 ∷ 140 ∷ 144 ∷ 164 ∷ 168 ∷ []
unfolding fields fields_to nth composite size sizes placed flat_map walk walk_parts stmt_exprs body_exprs is_expression is_statement entry parameter
body-places = refl

abbrev three : List ℕ
three = 1 ∷ 2 ∷ 3 ∷ []

table : sets three 0 (133 ∷ 140 ∷ 144 ∷ 164 ∷ 168 ∷ []) ∷ sets three 0 (133 ∷ []) ∷ [] ≡ (133 ∷ 140 ∷ 144 ∷ []) ∷ (133 ∷ 2 ∷ 3 ∷ []) ∷ []
table = refl

-- Shapes

names : ident (front n) ∷ method (front debit-call) ∷ receiver (front debit-call) ∷ ident (front caller) ∷ method (front n) ∷ method (front (write Call n)) ∷ []
    ≡ bytes "n" ∷ bytes "debit" ∷ bytes "m" ∷ [] ∷ [] ∷ [] ∷ []
unfolding fields fields_to nth composite ident method receiver debit-call
names = refl

-- a debit, one with a third argument, and four that are none: a wrapped key, a wrapped base, a wrapped callee, no amount
debits-told : map (λ x. is_debit (front (write Call x)))
    ((debit ++ (caller ++ n)) ∷ (debit ++ (caller ++ (n ++ n))) ∷ (debit ++ (write Checked caller ++ n))
    ∷ (write Member (write Checked m ++ name "debit") ++ (caller ++ n)) ∷ (write Checked debit ++ (caller ++ n)) ∷ (debit ++ caller) ∷ [])
    ≡ true ∷ true ∷ false ∷ false ∷ false ∷ false ∷ []
unfolding fields fields_to nth composite same_bytes method is_debit
debits-told = refl

-- a payout, one with a fourth argument, and three that are none: two arguments, a wrapped callee, another name
abbrev send : List ℕ
send = identifier "send_asset"

payouts-told : map (λ x. is_payout (front (write Call x)))
    ((send ++ (n ++ (caller ++ m))) ∷ (send ++ (n ++ (caller ++ (m ++ m)))) ∷ (send ++ (n ++ caller)) ∷ (write Checked send ++ (n ++ (caller ++ m))) ∷ (m ++ (n ++ (caller ++ m))) ∷ [])
    ≡ true ∷ true ∷ false ∷ false ∷ false ∷ []
unfolding fields fields_to nth composite same_bytes ident is_payout
payouts-told = refl

-- a backer, and three that are none: another member, a wrapped base, a wrapped member
abbrev amount : List ℕ → List ℕ
amount base = write Member (base ++ name "amount")

backers : map (λ x. asset_amount_backer (front x)) (amount n ∷ debit ∷ amount (write Checked n) ∷ write Checked (amount n) ∷ []) ≡ bytes "n" ∷ [] ∷ [] ∷ [] ∷ []
unfolding fields fields_to nth composite same_bytes ident asset_amount_backer
backers = refl

-- asset parameters by their type, and not by their name
two-assets : List ℕ
two-assets =
    write Entry (name "f" ++ (write Parameter (name "a" ++ type_name "Q_Asset")
    ++ (write Parameter (name "Q_Asset" ++ type_name "Int") ++ write Parameter (name "b" ++ type_name "Q_Asset"))))

assets : asset_params (front two-assets) ≡ bytes "a" ∷ bytes "b" ∷ []
unfolding fields fields_to nth composite row fields_from same_bytes params is_asset_parameter asset_params two-assets
assets = refl

-- what is listed of each
listed-assets : named_assets (front two-assets)
    ≡ record { number = short_number (bytes "a"); place = 7 } ∷ record { number = short_number (bytes "b"); place = 43 } ∷ []
unfolding fields fields_to nth composite size sizes placed flat_map same_bytes is_asset_parameter named_parameter named_assets number_from two-assets
listed-assets = refl

-- a body that debits and then sends, the send inside a let
paying : List ℕ
paying =
    write Entry (name "f" ++ (write ExpressionStatement (write Call (debit ++ (caller ++ n)))
    ++ write Let (name "x" ++ write Not (write Call (send ++ (m ++ (caller ++ n)))))))

paid : map (λ f. tag (part 0 f)) (debits (front paying) ++ payouts (front paying)) ≡ Member ∷ Identifier ∷ []
unfolding fields fields_to nth composite size sizes placed flat_map same_bytes ident method walk walk_parts stmt_exprs body_exprs exprs is_expression is_statement is_debit is_payout
    debits payouts paying
paid = refl
