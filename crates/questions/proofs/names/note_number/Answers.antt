-- A table with room has a place for each number; one without shows every number.
use Rattle.laws.proofs.Told.{told}
use Rattle.questions.proofs.Noting.{no-room-shows, no-room-kept, has-place, place-shows, place-noted}
use Rattle.questions.proofs.names.note_number.Goals as goal

pub returns-then-is_empty : goal.returns-then-is_empty
returns-then-is_empty c = search (no-room-shows, no-room-kept, told)

pub bounds-table-i : goal.bounds-table-i
bounds-table-i c = search (has-place, told)

pub bounds-table-i-2 : goal.bounds-table-i-2
bounds-table-i-2 c = search (has-place, told)

pub returns : goal.returns
returns c = search (place-shows, place-noted, told)
