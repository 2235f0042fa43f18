-- Its index is among the used ones, or it is not.
use Rattle.matching.proofs.Answering.{reserve-used, reserve-unused}
use Rattle.matching.proofs.answer.Pass.by_reserve_at.Goals as goal

pub returns-then-is_used : goal.returns-then-is_used
returns-then-is_used c = search reserve-used

pub returns : goal.returns
returns c = search reserve-unused
