-- The content is the parts exactly where the field is whole and its tag is of those that have parts.
use Rattle.fields.proofs.Parts.{parts-front, parts-shown, no-parts, no-parts-shown}
use Rattle.fields.proofs.front.parts_of.Goals as goal

pub returns-then-is_whole-is_composite-clause-reads : goal.returns-then-is_whole-is_composite-clause-reads
returns-then-is_whole-is_composite-clause-reads c = search parts-front

pub returns-then-is_whole-is_composite-clause-shows : goal.returns-then-is_whole-is_composite-clause-shows
returns-then-is_whole-is_composite-clause-shows c = search parts-shown

pub returns-clause-reads : goal.returns-clause-reads
returns-clause-reads c = search no-parts

pub returns-clause-shows : goal.returns-clause-shows
returns-clause-shows c = search no-parts-shown
