-- The text and the words before this one are written.
use Rattle.listing.proofs.Pieces.{Lining}
use Rattle.listing.proofs.text.write_line.Given as goal

abbrev pub invariant-loop-word : goal.invariant-loop-word
invariant-loop-word l = Lining l.text l.words l.fn.output l.output l.word-index
