-- No field stands where no byte does.
use Rattle.std.proofs.Common.{rules, refl, ◌≡◌, []}
use Rattle.fields.specs.Field.{front, nothing}
use Rattle.fields.proofs.Reading.{front-none}
use Rattle.guards.proofs.guarded.guarded_amount.Goals as goal

no-amount : front [] ≡ nothing
no-amount = front-none [] refl

pub returns : goal.returns
returns c = search (no-amount, rules)
