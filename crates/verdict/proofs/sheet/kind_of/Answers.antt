-- Case by case.
use Rattle.claim.specs.Verdict.{kind}
use Rattle.verdict.proofs.sheet.kind_of.Goals as goal

pub returns-in-EqualDebit : goal.returns-in-EqualDebit
unfolding kind
returns-in-EqualDebit c = cc

pub returns-in-EqualParameter : goal.returns-in-EqualParameter
unfolding kind
returns-in-EqualParameter c = cc

pub returns-in-BoundingDebit : goal.returns-in-BoundingDebit
unfolding kind
returns-in-BoundingDebit c = cc

pub returns-in-BoundingParameter : goal.returns-in-BoundingParameter
unfolding kind
returns-in-BoundingParameter c = cc

pub returns-in-Reserve : goal.returns-in-Reserve
unfolding kind
returns-in-Reserve c = cc
