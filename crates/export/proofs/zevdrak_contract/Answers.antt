-- The bytes written are the first of the file's records, or all of them, and demand 3 holds of each that is there whole, as of each
-- verdict.
use Rattle.contract.proofs.EachBacked.{each-backed, each-whole, each-verdict-backed}
use Rattle.export.proofs.zevdrak_contract.Goals as goal

pub returns-clause-backed : goal.returns-clause-backed
returns-clause-backed c = each-backed _ _ _ _ c.write_records-recorded.ensures.bytes

pub returns-clause-whole : goal.returns-clause-whole
returns-clause-whole c = each-whole _ _ _ _ c.write_records-recorded.ensures.bytes

pub returns-clause-verdicts : goal.returns-clause-verdicts
returns-clause-verdicts c = each-verdict-backed _
