-- Where no bytes are left, no field stands.
use Rattle.std.proofs.Common.{ℕ, ◌≡◌, refl, ◌∙◌, Bool, false, List, [], ne_eqb}
use Rattle.tags.specs.Tag.{SubtractFrom, Sub}
use Rattle.fields.specs.Field.{Field, front, tag}
use Rattle.fields.proofs.Reading.{front-none}
use Rattle.raises.specs.Raises.{sets_from}
use Rattle.guards.specs.Guards.{lowered_by}
use Rattle.guards.proofs.lowering.lowered_by.Goals as goal

not-lowered : (r : List ℕ) (s : Field) (t : ℕ) → t ≡ tag s → (t ≡ SubtractFrom → ⊥) → (b : Bool) → b ≡ sets_from Sub r s → b ≡ false →
    front [] ≡ lowered_by r s
unfolding lowered_by
not-lowered r s t d h b e k = front-none [] refl ∙ rw (← d, ne_eqb t SubtractFrom h, ← e, k)

pub returns : goal.returns
returns c = search not-lowered
