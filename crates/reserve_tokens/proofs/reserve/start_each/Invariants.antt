-- Field by field, the number of what all raises agree on becomes that of the token that the field holds.
use Rattle.std.proofs.Common.{◌-◌, ◌≡◌, length}
use Rattle.reserve_tokens.specs.Numbers.{reserve_number}
use Rattle.reserve_tokens.specs.Each.{nth_name}
use Rattle.reserve_tokens.proofs.Replacing.{Replacing}
use Rattle.reserve_tokens.proofs.reserve.start_each.Given as goal

abbrev pub invariant-loop-j : goal.invariant-loop-j
invariant-loop-j l = Replacing (λ i k. k ≡ reserve_number l.facts.file.now (nth_name l.facts.file.now l.places i)) l.initial.numbers l.numbers l.j

abbrev pub decreases-loop-j : goal.decreases-loop-j
decreases-loop-j l = length l.places - l.j
