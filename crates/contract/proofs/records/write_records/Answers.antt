-- Without a record the refusal of question 9 is the only one; with some they are all.
use Rattle.contract.proofs.Each.{some-all, none-all}
use Rattle.contract.proofs.records.write_records.Goals as goal

pub returns-then-recorded-eq0 : goal.returns-then-recorded-eq0
returns-then-recorded-eq0 c = search none-all

pub returns : goal.returns
returns c = search some-all
