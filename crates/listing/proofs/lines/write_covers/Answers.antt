-- The lines of the covers before this one are written.
use Rattle.listing.proofs.Covers.{covers-none, covers-on}
use Rattle.listing.proofs.lines.write_covers.Goals as goal

pub loop-number-init : goal.loop-number-init
loop-number-init c = covers-none _ _

pub loop-number-preserved : goal.loop-number-preserved
loop-number-preserved c = covers-on _ _ _ _ c.loop-number.invariant _ c.write_cover.ensures
