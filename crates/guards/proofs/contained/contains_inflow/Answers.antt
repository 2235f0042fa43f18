-- Only a member can be `p.amount`, so those in the lent table, which has room for all, decide.
use Rattle.walking.proofs.Assets.{assets-listed}
use Rattle.guards.proofs.Members.{nameless, members-read, by_members}
use Rattle.guards.proofs.contained.contains_inflow.Goals as goal

pub has_listed_asset-requires : goal.has_listed_asset-requires
has_listed_asset-requires c = search assets-listed

pub returns-then-has_listed_asset : goal.returns-then-has_listed_asset
returns-then-has_listed_asset c = search nameless

pub has_inflow-requires-clause-assets : goal.has_inflow-requires-clause-assets
has_inflow-requires-clause-assets c = search assets-listed

pub has_inflow-requires-clause-members : goal.has_inflow-requires-clause-members
has_inflow-requires-clause-members c = search members-read

pub returns : goal.returns
returns c = search by_members
