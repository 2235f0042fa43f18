-- The text and the words before this one are written.
use Rattle.std.proofs.Common.{rules}
use Rattle.listing.proofs.Pieces.{lining-none, lining-on, lining-all}
use Rattle.listing.proofs.text.write_line.Goals as goal

pub loop-word-init : goal.loop-word-init
loop-word-init c = search lining-none

pub loop-word-preserved : goal.loop-word-preserved
loop-word-preserved c = search (lining-on, rules)

pub returns : goal.returns
returns c = search (lining-all, rules)
