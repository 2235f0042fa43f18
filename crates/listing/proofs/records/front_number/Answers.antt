-- Two bytes, most significant first.
use Rattle.std.proofs.Common.{rules}
use Rattle.contract.specs.Reading.{front_number}
use Rattle.listing.proofs.records.front_number.Goals as goal

pub returns : goal.returns
unfolding front_number
returns c = search rules
