-- The state field that covers a payout, by its number among all.
use Rattle.std.specs.Prelude.{ℕ, ◌<◌, ◌≡◌, Bool, cond, ◌&&◌, List, [], ◌∷◌, map, length}
use Rattle.std.specs.Prelude.{Option, None, Some}
use Rattle.laws.specs.Lists.{any, find}
use Rattle.laws.specs.Texts.{same_bytes}
use Rattle.fields.specs.Field.{Field, Fields, fields, part}
use Rattle.fields.specs.declared.field.Field.{Field as Found}
use Rattle.fields.specs.declared.named.Named.{Named}
use Rattle.model.specs.Model.{state_names}
use Rattle.entries.specs.Entered.{entry_of}
use Rattle.reserve_tokens.specs.ReserveTokens.{reserve_token}
use Rattle.guards.specs.Guards.{guarded_field}
use Rattle.guards.specs.Bounding.{bounding_from}
use Rattle.guards.specs.Lowerings.{lowered_in}
use Rattle.guards.specs.Asked.{asked_token, asked_amount}
use Rattle.reserves.specs.Reserves.{reserve_bounding_payout}
use Rattle.reserves.specs.States.{state_index, state_number}
use Rattle.reserves.specs.Holding.{is_token, holds_token}

-- of the state field that was found, if one was
unfoldable pub index_in : Fields → Option (List ℕ) → Option ℕ
index_in model None = None
index_in model (Some r) = Some (state_index model r)

-- of the one that covers payout k of a table, in the entry at a place
abbrev pub asked_reserve : (file : List ℕ) (place : ℕ) (table : List ℕ) (k : ℕ) → Option ℕ
asked_reserve file place table k =
    index_in (fields file) (reserve_bounding_payout (fields file) (entry_of file place) (asked_amount file table k) (asked_token file table k))

-- the state field r, by which a guard bounds the amount, covers it: one of the lowerings of a table lowers it, and it holds the token
unfoldable pub field_covers : (file token : List ℕ) → List Named → (r : List ℕ) → Bool
field_covers file token lowerings r =
    lowered_in file r lowerings && any (same_bytes r) (state_names (fields file)) && is_token (reserve_token (fields file) r) token

-- the number of the first of some guards' state fields that does
unfoldable pub first_covering : (file token : List ℕ) → List Named → List Field → Option ℕ
first_covering file token lowerings guards =
    index_in (fields file) (find (field_covers file token lowerings) (map (λ g. guarded_field (part 0 g)) guards))

-- Numbers that are listed ahead

-- that of the state field r, if one of the lowerings of a table lowers it
unfoldable pub lowered_number : (file : List ℕ) → List Named → (r : List ℕ) → Option ℕ
lowered_number file lowerings r = cond (lowered_in file r lowerings) (state_number (fields file) r) None

-- the first of some numbers whose state field holds the token; where none does, one of those that are left
unfoldable pub first_holding : (file token numbers : List ℕ) → Option ℕ → Option ℕ
first_holding file token [] left = left
first_holding file token (n ∷ ns) left = cond (holds_token file token n) (Some n) (first_holding file token ns left)

-- how many bytes are left from a guard on, if one is
abbrev pub bytes_left : Option Found → ℕ
bytes_left None = 0
bytes_left (Some g) = length g.part.now

-- the guards that bound the amount are listed from one on by their numbers, as far as others that are left
pub record Ahead (file : List ℕ) (lowerings : List Named) (amount : Field) (guard : Found) (left : Option Found) (numbers : List ℕ) : Type 0 where
  pub fewer : bytes_left left < length guard.part.now
  pub first : (token : List ℕ) → first_covering file token lowerings (bounding_from amount (Some guard))
      ≡ first_holding file token numbers (first_covering file token lowerings (bounding_from amount left))
