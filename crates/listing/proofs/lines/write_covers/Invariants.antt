-- The lines of the covers before this one are written.
use mathlib.Core.List.{flat_map}
use Rattle.output.specs.Writes.{Writes}
use Rattle.contract.specs.Records.{below}
use Rattle.listing.specs.Coded.{cover_line_at}
use Rattle.listing.proofs.lines.write_covers.Given as goal

abbrev pub invariant-loop-number : goal.invariant-loop-number
invariant-loop-number l = Writes (flat_map (cover_line_at l.covers) (below l.number)) l.initial.output l.output
