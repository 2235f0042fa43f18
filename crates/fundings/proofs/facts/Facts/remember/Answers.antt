-- What is known of the file and of its maps does not read what is remembered.
use Rattle.std.proofs.Common.{rules}
use Rattle.fundings.proofs.Relisting.{facts-alike, facts-kept}
use Rattle.fundings.proofs.facts.Facts.remember.Goals as goal

pub returns-then-index-lt2979 : goal.returns-then-index-lt2979
returns-then-index-lt2979 c = facts-alike _ _ _

pub returns-else-index-lt2979 : goal.returns-else-index-lt2979
returns-else-index-lt2979 c = search (facts-kept, rules)
