-- What is left behind i fields has the n-th at n - i.
use Rattle.fields.proofs.Places.{Passed}
use Rattle.fields.proofs.front.nth_field.Given as goal

abbrev pub invariant-loop : goal.invariant-loop
invariant-loop l = Passed l.s l.n l.t l.counter
