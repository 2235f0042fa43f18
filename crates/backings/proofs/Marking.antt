-- A search by number: what a chain over the numbers finds.
use Rattle.std.proofs.Common.{ℕ, ◌≡◌, refl}
use Rattle.std.proofs.Common.{Option, None, Some}
use Rattle.std.specs.Option.{option_map}
use Rattle.fields.specs.Field.{Field}
use Rattle.backings.specs.Tables.{asked_by, tested_amount, passes, equal_to, bounded_by}
use Rattle.backings.specs.declared.marks.Test.{Test}
use Rattle.backings.specs.declared.marks.Test.TheVariants.{Equals, Bounds}

pub found-same : (r : Option ℕ) → r ≡ option_map (λ x. x) r
found-same None = refl
found-same (Some x) = refl

-- a test in two parts
pub asked-same : (t : Test) (amount backing : Field) → passes t (tested_amount t amount) backing ≡ asked_by t amount backing
unfolding equal_to bounded_by
asked-same Equals amount backing = refl
asked-same Bounds amount backing = refl
