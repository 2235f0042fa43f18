-- The token that a state field holds, by the number of a comparison that names it (Numbers of crates/tokens): beside each definition
-- of ReserveTokens.antt the number of what it says.
use Rattle.std.specs.Prelude.{ℕ, ◌+◌, cond, not, eqb, length}
use mathlib.Core.List.{List, [], ◌∷◌, map, flat_map}
use Rattle.std.specs.Prelude.{None, Some}
use Rattle.laws.specs.Lists.{filter, find}
use Rattle.laws.specs.Texts.{known}
use Rattle.tags.specs.Tag.{Guard}
use Rattle.fields.specs.Field.{Field, Placed, fields, parts, part, placed_from}
use Rattle.model.specs.Model.{entries}
use Rattle.walking.specs.Walking.{peel, peel_place, receiver, debits}
use Rattle.equality.specs.Equality.{expr_eq}
use Rattle.tokens.specs.Tokens.{is_inflow}
use Rattle.tokens.specs.Numbers.{token_of}
use Rattle.fundings.specs.Fundings.{funding_number}
use Rattle.raises.specs.Raises.{starts_at_zero, raises}
use Rattle.reserve_tokens.specs.ReserveTokens.{credited, guard_token}
use Rattle.reserve_tokens.specs.Reserving.{bars}

-- of a guard's token: the comparison is its expression, peeled, which stands behind its head
unfoldable pub guard_number : List ℕ → Placed → ℕ
guard_number file guard =
    cond (known (guard_token (part 0 guard.this))) (peel_place (length file) (guard.place + 3) (part 0 guard.this) + 2) 0

-- of those guards of the body that name one
unfoldable pub guard_numbers : List ℕ → Placed → List ℕ
guard_numbers file entry =
    filter (λ k. not (eqb k 0)) (map (guard_number file) (placed_from Guard Guard (entry.place + 3) (parts entry.this)))

-- of the one, where there is exactly one
unfoldable pub only_number : List ℕ → ℕ
only_number [] = 0
only_number (k ∷ []) = k
only_number (k ∷ l ∷ ls) = 0

-- of the map of the first caller debit of an amount
unfoldable pub debit_number : List ℕ → Field → Field → ℕ
debit_number file entry v =
    elim (find (λ d. expr_eq (peel (part 2 d)) v) (debits entry)) [ None ↦ 0 | Some d ↦ funding_number file (receiver d) ]

-- of a raise by v
unfoldable pub raise_number : List ℕ → Placed → Field → ℕ
raise_number file entry v =
    cond (is_inflow entry.this v) (cond (credited entry.this v) 0 (only_number (guard_numbers file entry))) (debit_number file entry.this v)

-- of all raises of r in an entry
unfoldable pub numbers_in : List ℕ → List ℕ → Placed → List ℕ
numbers_in file r entry = map (raise_number file entry) (raises r entry.this)

-- of what raises agree on with the one found before: that of the last; 1 where one of them bars the field
unfoldable pub agreed : List ℕ → ℕ → List ℕ → ℕ
agreed file k [] = k
agreed file k (n ∷ ns) = cond (bars (token_of file k) (token_of file n)) 1 (agreed file n ns)

-- of the token that the state field r holds; 1 for none
unfoldable pub reserve_number : List ℕ → List ℕ → ℕ
reserve_number file r =
    cond (starts_at_zero (fields file) r) (agreed file 1 (flat_map (numbers_in file r) (entries (fields file)))) 1
