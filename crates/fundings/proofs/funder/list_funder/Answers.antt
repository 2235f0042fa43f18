-- Where the table has room for all, it holds them.
use Rattle.walking.proofs.Assets.{assets-listed}
use Rattle.fundings.proofs.funder.list_funder.Goals as goal

pub invariant_of-result : goal.invariant_of-result
invariant_of-result c = record { listed = search assets-listed }
