-- Field by field, the number of what all raises agree on becomes that of the token that the field holds, which has two bytes.
use Rattle.reserve_tokens.proofs.Replacing.{number-small}
use Rattle.reserve_tokens.proofs.reserve.start_each.Goals as goal

pub overflow_cast-numbers : goal.overflow_cast-numbers
overflow_cast-numbers c = search number-small
