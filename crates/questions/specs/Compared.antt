-- What a comparison of the names with a table says, as the code gives it.
use Rattle.std.specs.Prelude.{ℕ, ◌*◌, ◌≡◌, ◌<◌, List, [], length, Option, Some, None}
use Rattle.fields.specs.Field.{fields}
use Rattle.model.specs.Model.{states}
use Rattle.questions.specs.Questions.{ask_names}
use Rattle.questions.specs.Answers.{Answered, asked}

-- an answer is that of question 7; a comparison that gave up says only that the file has room for more fields than false
-- alarms were allowed
pub record Decided (file : List ℕ) (allowed : ℕ) (r : Option Answered) : Type 0 where
  pub answers : (a : Answered) → r ≡ Some a → asked a ≡ ask_names [] (states (fields file))
  pub crowds : r ≡ None → 3 * allowed < length file
