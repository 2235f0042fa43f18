-- The two cases of the answer are the two of the questions.
use Rattle.std.proofs.Common.{ℕ, ◌≡◌, ◌∙◌, Ok, Err}
use Rattle.questions.specs.Questions.{Asked}
use Rattle.questions.specs.Answers.{Answered, number_of, asked}
use Rattle.questions.specs.declared.question.Refusal.{Refusal}
use Rattle.export.specs.Refusal.{question_in, place_in}
use Rattle.export.proofs.zevdrak_check_file.Goals as goal

module _ (q : Asked) (a : Answered) (e : asked a ≡ q) where
  all-passed : a ≡ Ok tt → 0 ≡ question_in q
  all-passed h = rw (← e, h)

  place_kept : a ≡ Ok tt → (p : ℕ) → p ≡ place_in q p
  place_kept h p = rw (← e, h)

  module _ (d : Refusal) (h : a ≡ Err d) where
    number-told : (n : ℕ) → n ≡ number_of d.question → n ≡ question_in q
    number-told n k = k ∙ rw (← e, h)

    place-told : (p : ℕ) → d.place ≡ place_in q p
    place-told p = rw (← e, h)

pub returns-in-Ok : goal.returns-in-Ok
returns-in-Ok c = (search all-passed, search place_kept)

pub returns-in-Err : goal.returns-in-Err
returns-in-Err c = (search number-told, search place-told)
