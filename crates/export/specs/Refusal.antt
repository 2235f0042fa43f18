-- An answer to questions as numbers, for a caller in C.
use Rattle.std.specs.Prelude.{ℕ}
use Rattle.questions.specs.Questions.{Asked}
use Rattle.questions.specs.Questions.Asked.{passes, fails}

-- the number of the question that said no; 0 where all passed
abbrev pub question_in : Asked → ℕ
question_in passes = 0
question_in (fails number place) = number

-- what the caller's place holds: the place of the "no", and where all passed what it held before
abbrev pub place_in : Asked → ℕ → ℕ
place_in passes before = before
place_in (fails number place) before = place
