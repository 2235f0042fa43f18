-- When a backing bounds an amount.
use Rattle.std.specs.Prelude.{ℕ, Bool, false, ◌&&◌, ◌||◌, not, eqb}
use Rattle.tags.specs.Tag.{Checked, Wrapping, Sub, Div, Rem, Shr}
use Rattle.fields.specs.Field.{Field, Fields}
use Rattle.fields.specs.Field.Field.{field}
use Rattle.fields.specs.Field.Fields.{end, next}
use Rattle.walking.specs.Walking.{peel}
use Rattle.equality.specs.Equality.{expr_eq}

-- Checked and Wrapping go inside; Sub goes left only with wrapping off; Div, Shr and Rem go left always
unfoldable pub goes_left : ℕ → Bool → Bool
goes_left t wrapping = eqb t Checked || eqb t Wrapping || eqb t Sub && not wrapping || eqb t Div || eqb t Shr || eqb t Rem

-- Checked turns wrapping off, Wrapping turns it on
unfoldable pub wrapping_inside : ℕ → Bool → Bool
wrapping_inside t wrapping = eqb t Wrapping || not (eqb t Checked) && wrapping

unfoldable mutual
  -- true if the peeled amount equals the backing; else what the amount's first part says, where the rule goes there, and
  -- false where it does not
  pub bounded_by_backing : Field → Field → Bool → Bool
  bounded_by_backing (field t x ps) backing wrapping =
      expr_eq backing (peel (field t x ps)) || goes_left t wrapping && left_bounded ps backing (wrapping_inside t wrapping)

  -- the same of the first of some parts; false where there is none
  pub left_bounded : Fields → Field → Bool → Bool
  left_bounded (end r) backing wrapping = false
  left_bounded (next f fs) backing wrapping = bounded_by_backing f backing wrapping
