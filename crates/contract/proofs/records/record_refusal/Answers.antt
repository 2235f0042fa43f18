-- The numbers of a refusal are its whole record.
use Rattle.std.proofs.Common.{rules}
use Rattle.verdict.specs.Coded.{numbers_of}
use Rattle.contract.proofs.Each.{refusal-recorded}
use Rattle.contract.proofs.records.record_refusal.Goals as goal

pub returns : goal.returns
unfolding numbers_of
returns c = refusal-recorded _ _ c.new-output.result c.write_numbers.new.output (rw c.from.ensures at c.write_numbers.ensures) _ _ c.new-output.ensures.kept c.new-output.ensures.none (search rules)
