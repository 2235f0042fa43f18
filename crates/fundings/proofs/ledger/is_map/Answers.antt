-- Where the numbers differ, so do the names, which decide where they are equal.
use Rattle.fundings.proofs.Maps.{other-map, by_map}
use Rattle.fundings.proofs.ledger.is_map.Goals as goal

pub returns-then-listed-number : goal.returns-then-listed-number
returns-then-listed-number c = search other-map

pub returns : goal.returns
returns c = search by_map
