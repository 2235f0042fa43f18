-- An asset parameter is listed, and nothing of any other field.
use Rattle.walking.proofs.Assets.{other-tag, other-type, asset-listed}
use Rattle.walking.proofs.parameters.list_asset.Goals as goal

pub returns-then-tag-ne-PARAMETER : goal.returns-then-tag-ne-PARAMETER
returns-then-tag-ne-PARAMETER c = search other-tag

pub returns-then-not-is_asset_parameter : goal.returns-then-not-is_asset_parameter
returns-then-not-is_asset_parameter c = search other-type

pub returns : goal.returns
returns c = search asset-listed
