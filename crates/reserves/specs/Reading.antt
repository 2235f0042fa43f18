-- The file of a reading, and whether a reading is of the same lent facts and of the same lent table.
use Rattle.std.specs.Prelude.{ℕ, ◌≡◌, List, length}
use Rattle.reserves.specs.declared.reading.Reading.{Reading}

abbrev pub file_of : Reading → List ℕ
file_of reading = reading.facts.now.file.now

-- the facts are still those that were lent, and so are their file and the scratch table, which keeps its length
pub record Same (old new : Reading) : Type 0 where
  pub file : file_of new ≡ file_of old
  pub facts : new.facts.ghost_name ≡ old.facts.ghost_name
  pub scratch : new.scratch.ghost_name ≡ old.scratch.ghost_name
  pub long : length new.scratch.now ≡ length old.scratch.now
