-- The table has room for all lowerings of a file that passes question 1.
use Rattle.std.proofs.Common.{ℕ, ◌≤◌, ◌≡◌, List, Option, arith, rules, length, take}
use Rattle.fields.specs.Table.{Listed}
use Rattle.fields.specs.Field.{Field}
use Rattle.fields.specs.declared.named.Named.{Named}
use Rattle.fields.specs.declared.table.Table.{Table}
use Rattle.walking.specs.Table.{placed_at}
use Rattle.guards.specs.Lowerings.{lowering_numbers}
use Rattle.guards.proofs.Lowerings.{lowerings-listed}
use Rattle.reserves.specs.Covers.{first_covering}
use Rattle.reserves.proofs.reading.Reading.first_lowered.Goals as goal

by_listed : (amount : Field) (file : List ℕ) (place : ℕ) (table : List Named) (last : Table Named) →
    Listed (lowering_numbers amount (placed_at file place)) table 0 last.items.now last.count → length file ≤ 32768 → length table ≡ 3641 →
    (ls : List Named) → ls ≡ take last.count last.items.now → (token : List ℕ) (gs : List Field) (r : Option ℕ) → r ≡ first_covering file token ls gs →
    r ≡ first_covering file token (lowering_numbers amount (placed_at file place)) gs
by_listed amount file place table last l small e ls f token gs r g =
    rw (lowerings-listed amount file place table last l (omega (arith, small, e)) ls f) at g

pub returns-clause-found : goal.returns-clause-found
returns-clause-found c = search (by_listed, rules)
