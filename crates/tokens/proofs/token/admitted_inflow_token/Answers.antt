-- The number of what the entry names stands for the one token, and shows it where it stands.
use Rattle.tokens.proofs.Numbers.{front-token}
use Rattle.tokens.proofs.Shown.{token-shows}
use Rattle.tokens.proofs.token.admitted_inflow_token.Goals as goal

pub returns-clause-reads : goal.returns-clause-reads
returns-clause-reads c =
    let here = rw (c.entry_at.ensures.file, c.entry_at.ensures.place) at c.tokens_number.ensures.reads in
    search front-token

pub returns-clause-shows : goal.returns-clause-shows
returns-clause-shows c =
    let here = rw (c.entry_at.ensures.file, c.entry_at.ensures.place) at c.tokens_number.ensures.reads in
    search token-shows
