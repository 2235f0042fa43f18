-- The lookup's token is compared with the one asked about.
use Rattle.std.proofs.Common.{rules}
use Rattle.export.proofs.Asked.{too_long, told_of}
use Rattle.export.proofs.compare.zevdrak_is_admitted_inflow_token.Goals as goal

pub returns-then-entry-gt32768 : goal.returns-then-entry-gt32768
returns-then-entry-gt32768 c = search too_long

pub returns : goal.returns
returns c = search (told_of, rules)
