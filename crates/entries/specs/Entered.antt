-- What an entry's value holds of the entry at its place: counts, and the places of its payouts and backings as far as there is
-- room for them.
use Rattle.std.specs.Prelude.{ℕ, ◌+◌, ◌-◌, ◌*◌, ◌≤◌, ◌<◌, ◌≡◌, List, [], length, get_or, take, drop}
use Rattle.tags.specs.Tag.{Call}
use Rattle.fields.specs.Field.{Field, Placed, front, nothing}
use Rattle.fields.specs.Table.{fields_at}
use Rattle.model.specs.Model.{name_of}
use Rattle.walking.specs.Walking.{is_payout, body_exprs, asset_params, debits, payouts}
use Rattle.walking.specs.Table.{placed_at, places_of}
use Rattle.entries.specs.Calls.{body_where}
use Rattle.entries.specs.declared.entry.Entry.{Entry}

-- the entry that stands at a place of the file
abbrev pub entry_of : List ℕ → ℕ → Field
entry_of file place = front (drop place file)

-- what stands nowhere
abbrev pub nowhere : Placed
nowhere = record { place = 0; this = nothing }

-- a place of a file that passes question 1, and a lent table with a number for each three bytes of the file
pub record Lent (file : List ℕ) (place : ℕ) (table : List ℕ) : Type 0 where
  pub small : length file ≤ 32768
  pub inside : place ≤ length file
  pub room : length file ≤ 3 * length table

-- the places of all calls in the body of the entry at a place
pub record CallsOf (file : List ℕ) (place : ℕ) (calls : List ℕ) : Type 0 where
  pub small : length file ≤ 32768
  pub inside : place ≤ length file
  pub listed : calls ≡ places_of Call (body_exprs (placed_at file place))

-- the payouts of the entry at a place: how many, the place of the 65th, and the places of all in walk order, up to 64
pub record PaidOf (file : List ℕ) (place count : ℕ) (places : List ℕ) : Type 0 where
  pub many : count ≡ length (payouts (entry_of file place))
  pub last : 64 < count → get_or places 64 0 ≡ (get_or (body_where is_payout (placed_at file place)) 64 nowhere).place
  pub paid : count ≤ 64 → fields_at file (take count places) ≡ payouts (entry_of file place)

-- its backings: how many are caller debits, and how many there are; the places of all, up to 64, debits in walk order and
-- then asset parameters
pub record BackedOf (file : List ℕ) (place debits_count total : ℕ) (places : List ℕ) : Type 0 where
  pub counted : debits_count ≡ length (debits (entry_of file place))
  pub all : total ≡ debits_count + length (asset_params (entry_of file place))
  pub listed : total ≤ 64 → fields_at file (take debits_count places) ≡ debits (entry_of file place)
  pub named : total ≤ 64 → (i : ℕ) → i < total → debits_count ≤ i →
      name_of (front (drop (get_or places i 0) file)) ≡ get_or (asset_params (entry_of file place)) (i - debits_count) []

-- an entry as it is read: how many payouts, the place of the 65th, and the places of all in walk order, up to 64; how many of its
-- backings are caller debits, and how many there are, and the places of all, up to 64, debits in walk order and then asset parameters
pub record Read (file : List ℕ) (e : Entry) : Type 0 where
  pub small : length file ≤ 32768
  pub inside : e.place ≤ length file
  pub many : e.payouts ≡ length (payouts (entry_of file e.place))
  pub last : 64 < e.payouts → get_or e.paid 64 0 ≡ (get_or (body_where is_payout (placed_at file e.place)) 64 nowhere).place
  pub paid : e.payouts ≤ 64 → fields_at file (take e.payouts e.paid) ≡ payouts (entry_of file e.place)
  pub counted : e.debits ≡ length (debits (entry_of file e.place))
  pub all : e.total ≡ e.debits + length (asset_params (entry_of file e.place))
  pub listed : e.total ≤ 64 → fields_at file (take e.debits e.backed) ≡ debits (entry_of file e.place)
  pub named : e.total ≤ 64 → (i : ℕ) → i < e.total → e.debits ≤ i →
      name_of (front (drop (get_or e.backed i 0) file)) ≡ get_or (asset_params (entry_of file e.place)) (i - e.debits) []

-- an entry past questions 10 and 11: all its payouts and backings found room
pub record Entered (file : List ℕ) (e : Entry) : Type 0 where
  pub small : length file ≤ 32768
  pub inside : e.place ≤ length file
  pub many : e.payouts ≡ length (payouts (entry_of file e.place))
  pub limit : e.payouts ≤ 64
  pub paid : fields_at file (take e.payouts e.paid) ≡ payouts (entry_of file e.place)
  pub counted : e.debits ≡ length (debits (entry_of file e.place))
  pub all : e.total ≡ e.debits + length (asset_params (entry_of file e.place))
  pub few : e.total ≤ 64
  pub listed : fields_at file (take e.debits e.backed) ≡ debits (entry_of file e.place)
  pub named : (i : ℕ) → i < e.total → e.debits ≤ i →
      name_of (front (drop (get_or e.backed i 0) file)) ≡ get_or (asset_params (entry_of file e.place)) (i - e.debits) []
