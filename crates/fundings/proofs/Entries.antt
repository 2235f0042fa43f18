-- The fields of a file, one after the other: the set that each map has so far, with what the entries ahead name that fund it, is the set
-- of all.
use Rattle.std.proofs.Common.{ℕ, ◌≤◌, ◌≡◌, false, List, [], length}
use Rattle.tags.specs.Tag.{Entry}
use Rattle.fields.specs.Field.{whole, tag, front}
use Rattle.fields.specs.Row.{Step}
use Rattle.fields.specs.declared.field.Fields.{Fields}
use Rattle.fields.specs.declared.field.Field.{Field as Found}
use Rattle.fundings.specs.FundingTokens.{funds}
use Rattle.fundings.specs.declared.ledger.Funding.{Funding}
use Rattle.fundings.specs.Fundings.{funded_by, number_of_map, EntryJoins, EachMap}
use Rattle.fundings.proofs.Funders.{Ledger, ledger-all, ledger-past, ledger-on, ledger-done, ledger-inside}

abbrev pub Entries : (file : List ℕ) → Fields → List Funding → Type 0
Entries file rest maps = (m : List ℕ) → Ledger file m (number_of_map file m maps) rest

pub entries-all : (file : List ℕ) (it all : Fields) → all ≡ it → it.rest.now ≡ file → it.place ≡ 0 → (maps : List Funding) → maps ≡ [] → Entries file all maps
unfolding number_of_map
entries-all file it all y r z maps e m = rw e (ledger-all file m it all y r z)

module _ (file : List ℕ) (rest : Fields) (maps : List Funding) (i : Entries file rest maps) where
  pub entries-done : whole rest.rest.now ≡ false → EachMap file maps
  entries-done w m = ledger-done file m (number_of_map file m maps) rest (i m) w

  module _ (f : Found) (behind : Fields) (h : Step rest f behind) where
    pub entries-inside : f.place ≤ length file
    entries-inside = ledger-inside file [] (number_of_map file [] maps) rest (i []) f behind h

    module _ (g : ℕ) (e : g ≡ tag (front f.part.now)) where
      pub entries-past : (g ≡ Entry → ⊥) → Entries file behind maps
      entries-past n m = ledger-past file m (number_of_map file m maps) rest (i m) f behind h g e n

      pub entries-on : g ≡ Entry → (u : List Funding) → EntryJoins file f.place maps u → Entries file behind u
      unfolding funded_by funds
      entries-on q u p m = ledger-on file m (number_of_map file m maps) rest (i m) f behind h g e q (number_of_map file m u) (p m)
