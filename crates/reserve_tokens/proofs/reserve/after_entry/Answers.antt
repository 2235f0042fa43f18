-- An entry that does not raise the field changes nothing.
use Rattle.reserve_tokens.proofs.Reserving.{entry-passed-over}
use Rattle.reserve_tokens.proofs.reserve.after_entry.Goals as goal

pub returns-then-not-has_raise : goal.returns-then-not-has_raise
returns-then-not-has_raise c = search entry-passed-over
