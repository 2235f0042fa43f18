-- Where the numbers are equal the names decide.
use Rattle.walking.proofs.Assets.{other-number, by-name}
use Rattle.walking.proofs.parameters.is_named.Goals as goal

pub returns-then-asset-number : goal.returns-then-asset-number
returns-then-asset-number c = search other-number

pub returns : goal.returns
returns c = search by-name
