-- Each test that fails leaves no name, and the base that is left is an identifier: its content is its name.
use Rattle.std.proofs.Common.{rules}
use Rattle.walking.proofs.Nodes.{ends-behind, ends-within, no_member, other_name, no-identifier, the-base}
use Rattle.walking.proofs.backer.asset_amount_backer.Goals as goal

pub returns-in_default : goal.returns-in_default
returns-in_default c = search no_member

pub returns-then-not-same_bytes : goal.returns-then-not-same_bytes
returns-then-not-same_bytes c = search other_name

pub returns-in_default-node_at : goal.returns-in_default-node_at
returns-in_default-node_at c = search no-identifier

pub slice_bounds-result-count : goal.slice_bounds-result-count
slice_bounds-result-count c = search (ends-behind, rules)

pub slice_bounds-result-start : goal.slice_bounds-result-start
slice_bounds-result-start c = search (ends-behind, rules)

pub slice_bounds-result-end-2 : goal.slice_bounds-result-end-2
slice_bounds-result-end-2 c = search (ends-within, rules)

pub returns : goal.returns
returns c = search the-base
