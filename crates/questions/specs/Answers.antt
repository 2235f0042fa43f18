-- The paper's number of each question, and its answer for each answer of the code.
use Rattle.std.specs.Prelude.{ℕ, Result, Ok, Err}
use Rattle.questions.specs.Questions.{Asked}
use Rattle.questions.specs.Questions.Asked.{passes, fails}
use Rattle.questions.specs.declared.question.Question.{Question}
use Rattle.questions.specs.declared.question.Question.TheVariants as question
use Rattle.questions.specs.declared.question.Refusal.{Refusal}

abbrev pub number_of : Question → ℕ
number_of question.FileLength = 1
number_of question.FieldEnd = 2
number_of question.TagPlace = 3
number_of question.Depth = 4
number_of question.Content = 5
number_of question.NeededParts = 6
number_of question.StateNames = 7
number_of question.EntryCount = 8
number_of question.EntryNumber = 9
number_of question.PayoutCount = 10
number_of question.BackingCount = 11
number_of question.CoversLength = 12

-- the answers of the code, and one that refuses
abbrev pub Answered : Type 0
Answered = Result (Unit {0}) Refusal

abbrev pub refused : Question → (place : ℕ) → Answered
refused q p = Err (record { question = q; place = p })

abbrev pub asked : Answered → Asked
asked (Ok _) = passes
asked (Err r) = fails (number_of r.question) r.place
