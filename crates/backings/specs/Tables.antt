-- The backings of an entry by their numbers in its table: backing number i is debit i, and behind the debits an asset parameter.
use Rattle.std.specs.Prelude.{ℕ, ◌≡◌, Bool, false, cond, not, ◌&&◌, List, ltb, get_or, drop, Option, IfSome}
use Rattle.std.specs.List.{range_with_len}
use Rattle.laws.specs.Lists.{any, find}
use Rattle.fields.specs.Field.{Field, fields, front, part}
use Rattle.model.specs.Model.{name_of}
use Rattle.walking.specs.Walking.{peel, receiver}
use Rattle.walking.specs.Table.{placed_at}
use Rattle.equality.specs.Equality.{expr_eq}
use Rattle.equality.specs.Amount.{amount_of}
use Rattle.bounds.specs.Bounds.{bounded_by_backing}
use Rattle.tokens.specs.Tokens.{admitted_inflow_token}
use Rattle.tokens.specs.Numbers.{tokens_number}
use Rattle.fundings.specs.FundingTokens.{funding_token}
use Rattle.backings.specs.Marked.{mark_at}
use Rattle.entries.specs.Entered.{entry_of}
use Rattle.entries.specs.declared.entry.Entry.{Entry}
use Rattle.backings.specs.declared.marks.Marks.{Marks as Coded}
use Rattle.backings.specs.declared.marks.Test.{Test}
use Rattle.backings.specs.declared.marks.Test.TheVariants.{Equals, Bounds}

-- what is remembered of the token that the entry at a place admits: nothing yet, or the token's number
abbrev pub Admitted : (file : List ℕ) (place : ℕ) → Option ℕ → Type 0
Admitted file place remembered = IfSome remembered (λ number. number ≡ tokens_number file (placed_at file place))

-- the call of debit number i
abbrev pub debit_at : (file table : List ℕ) → ℕ → Field
debit_at file table i = front (drop (get_or table i 0) file)

-- the amount of backing number i
unfoldable pub amount_in : List ℕ → Entry → ℕ → Field
amount_in file e i = cond (ltb i e.debits) (peel (part 2 (debit_at file e.backed i))) (amount_of (name_of (front (drop (get_or e.backed i 0) file))))

-- the token of backing number i
unfoldable pub token_at : List ℕ → Entry → ℕ → List ℕ
token_at file e i =
    cond (ltb i e.debits) (funding_token (fields file) (receiver (debit_at file e.backed i))) (admitted_inflow_token (entry_of file e.place))

-- what an amount of a payout may be backed by: an amount that equals it, peeled, or one that bounds it, unpeeled
unfoldable pub equal_to : (amount backing : Field) → Bool
equal_to amount backing = expr_eq backing (peel amount)

unfoldable pub bounded_by : (amount backing : Field) → Bool
bounded_by amount backing = bounded_by_backing amount backing false

-- that is what a test asks
abbrev pub asked_by : Test → (amount backing : Field) → Bool
asked_by Equals = equal_to
asked_by Bounds = bounded_by

-- in two parts: the amount that it asks about, and whether a backing passes
abbrev pub tested_amount : Test → Field → Field
tested_amount Equals amount = peel amount
tested_amount Bounds amount = amount

abbrev pub passes : Test → (amount backing : Field) → Bool
passes Equals amount backing = expr_eq backing amount
passes Bounds amount backing = bounded_by_backing amount backing false

-- whether backing number i of an entry is free, or taken, and its amount passes a test
unfoldable pub free_in : List ℕ → Entry → List Bool → (Field → Bool) → ℕ → Bool
free_in file e free test i = mark_at free i && test (amount_in file e i)

unfoldable pub taken_in : List ℕ → Entry → List Bool → (Field → Bool) → ℕ → Bool
taken_in file e free test i = not (mark_at free i) && test (amount_in file e i)

-- the number of the first such free backing of an entry, if there is one
abbrev pub first_free : List ℕ → Entry → Coded → (Field → Bool) → Option ℕ
first_free file e marks test = find (free_in file e marks.free test) (range_with_len 0 e.total)

-- whether there is such a taken one
abbrev pub any_taken : List ℕ → Entry → Coded → (Field → Bool) → Bool
any_taken file e marks test = any (taken_in file e marks.free test) (range_with_len 0 e.total)
