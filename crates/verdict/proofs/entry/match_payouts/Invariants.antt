-- Payout by payout: those before the k-th have their covers.
use Rattle.reserves.specs.Reading.{file_of, Same}
use Rattle.verdict.proofs.Running.{Running}
use Rattle.verdict.proofs.entry.match_payouts.Given as goal

abbrev pub invariant-loop-k : goal.invariant-loop-k
invariant-loop-k l = Same l.fn.reading l.reading × Running (file_of l.fn.reading) l.entry l.sheet l.pass l.k-counter
