-- The number stands for the token, and shows it where it stands.
use Rattle.reserve_tokens.proofs.Numbers.{reserve-read, reserve-there}
use Rattle.reserves.proofs.reading.Reading.held_token.Goals as goal

pub returns-clause-reads : goal.returns-clause-reads
returns-clause-reads c = search reserve-read

pub returns-clause-shows : goal.returns-clause-shows
returns-clause-shows c = search reserve-there
