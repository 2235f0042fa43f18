-- Field by field, the number of what the raises so far agree on becomes that of what they agree on with those of the entry.
use Rattle.std.proofs.Common.{ℕ, ◌-◌, List, length, get_or}
use Rattle.walking.specs.Table.{placed_at}
use Rattle.reserve_tokens.specs.Numbers.{numbers_in}
use Rattle.reserve_tokens.specs.Agreeing.{Agreeing}
use Rattle.reserve_tokens.specs.Each.{nth_name}
use Rattle.reserve_tokens.proofs.Replacing.{Replacing}
use Rattle.reserve_tokens.proofs.reserve.after_raises_of_each.Given as goal

abbrev pub invariant-loop-j : goal.invariant-loop-j
invariant-loop-j l =
    let file : List ℕ = l.entry.facts.now.file.now in
    Replacing
    (λ i k. Agreeing file (get_or l.initial.numbers i 0) (numbers_in file (nth_name file l.places i) (placed_at file l.entry.place)) k)
    l.initial.numbers l.numbers l.j

abbrev pub decreases-loop-j : goal.decreases-loop-j
decreases-loop-j l = length l.places - l.j
