-- Question 1 by the length, then the fields of the file.
use Rattle.std.proofs.Common.{ℕ, ◌≤◌, ◌<◌, ◌≡◌, List, le-leb, length}
use borrow.Author.Tests.{lt-leb}
use Rattle.fields.specs.Field.{fields}
use Rattle.grammar.specs.Grammar.{slots_of}
use Rattle.questions.specs.Questions.{ask_fields, ask_form}
use Rattle.questions.specs.Answers.{Answered, refused, asked}
use Rattle.questions.specs.declared.question.Question.TheVariants as question
use Rattle.questions.proofs.check.check_form.Goals as goal

module _ (file : List ℕ) where
  too_long : 32768 < length file → asked (refused question.FileLength 0) ≡ ask_form file
  unfolding ask_form
  too_long h = rw (lt-leb (length file) 32768 h)

  by-fields : length file ≤ 32768 → (r : Answered) → asked r ≡ ask_fields (slots_of 0) 0 1 0 (fields file) → asked r ≡ ask_form file
  unfolding ask_form
  by-fields h r e = rw (le-leb (length file) 32768 h) e

pub returns-then-file-gt32768 : goal.returns-then-file-gt32768
returns-then-file-gt32768 c = search too_long

pub returns : goal.returns
returns c = search by-fields
