-- Case by case.
use Rattle.claim.specs.Verdict.{index}
use Rattle.verdict.proofs.sheet.index_of.Goals as goal

pub returns-in-EqualDebit : goal.returns-in-EqualDebit
unfolding index
returns-in-EqualDebit c = cc

pub returns-in-EqualDebit-2 : goal.returns-in-EqualDebit-2
unfolding index
returns-in-EqualDebit-2 c = cc

pub returns-in-EqualDebit-3 : goal.returns-in-EqualDebit-3
unfolding index
returns-in-EqualDebit-3 c = cc

pub returns-in-EqualDebit-4 : goal.returns-in-EqualDebit-4
unfolding index
returns-in-EqualDebit-4 c = cc

pub returns-in-EqualDebit-5 : goal.returns-in-EqualDebit-5
unfolding index
returns-in-EqualDebit-5 c = cc
