-- A field that is not whole is no field, and has the tag 0.
use Rattle.laws.proofs.Told.{told}
use Rattle.fields.proofs.Parts.{tag-front, tag-none}
use Rattle.fields.proofs.front.tag_of.Goals as goal

pub returns-then-is_whole : goal.returns-then-is_whole
returns-then-is_whole c = search (tag-front, told)

pub returns : goal.returns
returns c = search (tag-none, told)
