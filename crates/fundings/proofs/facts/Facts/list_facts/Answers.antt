-- What is listed changes nothing of what is remembered.
use Rattle.std.proofs.Common.{refl}
use Rattle.fundings.proofs.Relisting.{relisted-all}
use Rattle.fundings.proofs.facts.Facts.list_facts.Goals as goal

pub returns : goal.returns
returns c = relisted-all _ _ refl refl
