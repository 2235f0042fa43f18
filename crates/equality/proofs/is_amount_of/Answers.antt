-- A member's two parts are compared, and there is no third.
use Rattle.laws.proofs.Told.{told}
use Rattle.equality.proofs.Amount.{no_member, member_is}
use Rattle.equality.proofs.is_amount_of.Goals as goal

pub returns-then-tag_of-ne-MEMBER : goal.returns-then-tag_of-ne-MEMBER
returns-then-tag_of-ne-MEMBER c = search (no_member, told)

pub returns : goal.returns
returns c = search (member_is, told)
