-- The content is the text exactly where the field is whole and has no parts.
use Rattle.fields.proofs.Parts.{text-front, text-shown, no_text, no-text-shown}
use Rattle.fields.proofs.front.text_of.Goals as goal

pub returns-then-is_whole-is_composite-clause-reads : goal.returns-then-is_whole-is_composite-clause-reads
returns-then-is_whole-is_composite-clause-reads c = search text-front

pub returns-then-is_whole-is_composite-clause-shows : goal.returns-then-is_whole-is_composite-clause-shows
returns-then-is_whole-is_composite-clause-shows c = search text-shown

pub returns-clause-reads : goal.returns-clause-reads
returns-clause-reads c = search no_text

pub returns-clause-shows : goal.returns-clause-shows
returns-clause-shows c = search no-text-shown
