-- The expressions of an entry's body, and the shapes of a call.
use Rattle.std.specs.Prelude.{ℕ, ◌+◌, Bool, cond, ◌&&◌, eqb, leb}
use mathlib.Core.List.{List, [], ◌∷◌, ◌++◌, map, flat_map}
use Rattle.laws.specs.Lists.{filter}
use Rattle.laws.specs.Texts.{bytes, same_bytes}
use Rattle.tags.specs.Tag.{Guard, Identifier, Caller, Member, Call, is_statement, is_expression, is_wrapper}
use Rattle.fields.specs.Field.{Field, Fields, Placed, tag, text, parts, part, nothing, size, placed_parts, fields_from}
use Rattle.fields.specs.Field.Field.{field}
use Rattle.fields.specs.Field.Fields.{end, next}
use Rattle.model.specs.Model.{name_of, params}

-- Peeling

unfoldable mutual
  -- down to the first field that is neither Checked nor Wrapping
  pub peel : Field → Field
  peel (field t x ps) = cond (is_wrapper t) (peel_first ps) (field t x ps)

  -- the same of the first of some parts
  pub peel_first : Fields → Field
  peel_first (end r) = nothing
  peel_first (next f fs) = peel f

unfoldable mutual
  -- where that field stands, if the outer one stands at n; `last` where a wrapper holds no field
  pub peel_place : (last n : ℕ) → Field → ℕ
  peel_place last n (field t x ps) = cond (is_wrapper t) (peel_first_place last (n + 3) ps) n

  pub peel_first_place : (last n : ℕ) → Fields → ℕ
  peel_first_place last n (end r) = last
  peel_first_place last n (next f fs) = peel_place last n f

-- Walking

unfoldable mutual
  -- an expression at a place, then its parts
  pub walk : ℕ → Field → List Placed
  walk n (field t x ps) = cond (is_expression t) (record { place = n; this = field t x ps } ∷ walk_parts (n + 3) ps) []

  -- the expressions of a list of parts, front to back: the callee before the arguments; a name is no expression
  pub walk_parts : ℕ → Fields → List Placed
  walk_parts n (end r) = []
  walk_parts n (next f fs) = walk n f ++ walk_parts (n + size f) fs

-- the expressions of a statement: a target before its value; what is no statement has none
unfoldable pub stmt_exprs : Placed → List Placed
stmt_exprs s = cond (is_statement (tag s.this)) (walk_parts (s.place + 3) (parts s.this)) []

-- the expressions of an entry's body: of its parts only the statements are walked, and no clause
unfoldable pub body_exprs : Placed → List Placed
body_exprs entry = flat_map stmt_exprs (placed_parts entry)

-- the fields alone
abbrev pub without_places : List Placed → List Field
without_places ps = map (λ p. p.this) ps

-- the expressions of an entry's body, without places
unfoldable pub exprs : Field → List Field
exprs entry = without_places (body_exprs (record { place = 0; this = entry }))

-- the expressions of the body's guards
unfoldable pub guards : Field → List Field
guards entry = map (part 0) (fields_from Guard Guard (parts entry))

-- Shapes

-- the part is there
abbrev pub present : Field → Bool
present f = leb 1 (tag f)

-- the name of an identifier; none of anything else
unfoldable pub ident : Field → List ℕ
ident f = cond (eqb (tag f) Identifier) (text f) []

-- the name of the member that a call calls, the callee unpeeled
unfoldable pub method : Field → List ℕ
method f = cond (eqb (tag f) Call && eqb (tag (part 0 f)) Member) (text (part 1 (part 0 f))) []

-- the identifier on which it is called, the member's base unpeeled
unfoldable pub receiver : Field → List ℕ
receiver f = ident (part 0 (part 0 f))

-- a caller debit, `m.debit(caller, amount)`: m an identifier and the key `caller`, both unpeeled
unfoldable pub is_debit : Field → Bool
is_debit f =
    same_bytes (method f) (bytes "debit") && eqb (tag (part 0 (part 0 f))) Identifier && eqb (tag (part 1 f)) Caller && present (part 2 f)

-- a payout, `send_asset(token, receiver, value)`: a third argument is there, and more do not bar it
unfoldable pub is_payout : Field → Bool
is_payout f = eqb (tag f) Call && same_bytes (ident (part 0 f)) (bytes "send_asset") && present (part 3 f)

-- the p of `p.amount`, p an identifier, unpeeled; none of anything else
unfoldable pub asset_amount_backer : Field → List ℕ
asset_amount_backer f = cond (eqb (tag f) Member && same_bytes (text (part 1 f)) (bytes "amount")) (ident (part 0 f)) []

-- an asset parameter has the type name Q_Asset
unfoldable pub is_asset_parameter : Field → Bool
is_asset_parameter p = same_bytes (text (part 1 p)) (bytes "Q_Asset")

-- the names of an entry's asset parameters
unfoldable pub asset_params : Field → List (List ℕ)
asset_params entry = map name_of (filter is_asset_parameter (params entry))

-- the caller debits of an entry, in walk order
unfoldable pub debits : Field → List Field
debits entry = filter is_debit (exprs entry)

-- the payouts of an entry, in walk order
unfoldable pub payouts : Field → List Field
payouts entry = filter is_payout (exprs entry)
