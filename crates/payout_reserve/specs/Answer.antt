-- The answer about the state field that covers a payout by itself: questions 1 to 9 come first, as they do before
-- a verdict.
use Rattle.std.specs.Prelude.{ℕ, List}
use Rattle.std.specs.Prelude.{Option, None, Some, Result, Ok, Err}
use Rattle.fields.specs.Field.{Fields, fields}
use Rattle.questions.specs.Questions.{passes, fails, ask_file}
use Rattle.questions.specs.Answers.{number_of}
use Rattle.questions.specs.declared.question.Refusal.{Refusal}
use Rattle.reserves.specs.States.{state_index}
use Rattle.claim.specs.Verdict.{entry_at, ask_exists}
use Rattle.claim.specs.Reserve.{payout_reserve}

-- a "no" to a question; the number of the state field that covers the payout, counted from 0 among all; or that none does
pub data ReserveAnswer : Type 0 where
  refused : (number place : ℕ) → ReserveAnswer
  covered : ℕ → ReserveAnswer
  uncovered : ReserveAnswer

-- the state field that was found, by its number
unfoldable pub covered_by : Fields → Option (List ℕ) → ReserveAnswer
covered_by model None = uncovered
covered_by model (Some r) = covered (state_index model r)

-- payout k of entry n, of a file that passes questions 1 to 8: question 9, and then the reserve; a payout that is not there has none
unfoldable pub entry_reserve : Fields → (n k : ℕ) → ReserveAnswer
entry_reserve model n k =
    elim (ask_exists model n) [
      | fails number place ↦ refused number place
      | passes ↦ covered_by model (payout_reserve model (entry_at model n).this k)
    ]

-- of any file
unfoldable pub file_reserve : List ℕ → (n k : ℕ) → ReserveAnswer
file_reserve file n k =
    elim (ask_file file) [
      | fails number place ↦ refused number place
      | passes ↦ entry_reserve (fields file) n k
    ]

-- each case of the answer that the code gives
abbrev pub answer_of : Result (Option ℕ) Refusal → ReserveAnswer
answer_of (Ok (Some index)) = covered index
answer_of (Ok None) = uncovered
answer_of (Err refusal) = refused (number_of refusal.question) refusal.place
