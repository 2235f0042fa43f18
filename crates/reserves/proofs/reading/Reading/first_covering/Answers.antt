-- The fields of the guards that were passed do not cover, so those that are left decide.
use Rattle.std.proofs.Common.{rules, ◌∙◌}
use Rattle.reserves.proofs.Holders.{some-covers, none-covers}
use Rattle.reserves.proofs.reading.Reading.first_covering.Invariants.{none-left}
use Rattle.reserves.proofs.reading.Reading.first_covering.Goals as goal

pub returns-in-Some-first_holding-clause-found : goal.returns-in-Some-first_holding-clause-found
returns-in-Some-first_holding-clause-found c = some-covers _ _ _ _ _ _ c.list_ahead-numbers.ensures _ _ (search rules) ∙ (rw (c.in-Some.is) at c.loop-ahead.invariant.1.left)

pub loop-ahead-preserved : goal.loop-ahead-preserved
loop-ahead-preserved c = (
  search rules,
  record {
    some = c.doubled-most.ensures.some;
    few = c.doubled-most.ensures.few;
    left = none-covers _ _ _ _ _ _ c.list_ahead-numbers.ensures _ (search rules) ∙ (rw (c.in-Some.is) at c.loop-ahead.invariant.1.left);
  },
)

pub returns-clause-found : goal.returns-clause-found
returns-clause-found c = search none-left
