-- A field that nothing lowers has no number here.
use Rattle.std.proofs.Common.{ℕ, ◌≡◌, true, false, List, Option, None}
use Rattle.fields.specs.Field.{fields}
use Rattle.fields.specs.declared.named.Named.{Named}
use Rattle.guards.specs.Lowerings.{lowered_in}
use Rattle.laws.proofs.Told.{told_is}
use Rattle.reserves.specs.States.{state_number}
use Rattle.reserves.specs.Covers.{lowered_number}
use Rattle.reserves.proofs.ahead.lowered_number.Goals as goal

module _ (file : List ℕ) (l : List Named) (r : List ℕ) where
  not-lowered : lowered_in file r l ≡ false → None ≡ lowered_number file l r
  unfolding lowered_number
  not-lowered h = rw h

  lowered : lowered_in file r l ≡ true → (n : Option ℕ) → n ≡ state_number (fields file) r → n ≡ lowered_number file l r
  unfolding lowered_number
  lowered h n e = rw h e

pub returns-then-not-is_lowered-clause-number : goal.returns-then-not-is_lowered-clause-number
returns-then-not-is_lowered-clause-number c = search (not-lowered, told_is)

pub returns-clause-number : goal.returns-clause-number
returns-clause-number c = search (lowered, told_is)
