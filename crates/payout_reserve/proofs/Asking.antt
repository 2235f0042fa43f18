-- A "no" to one of questions 1 to 9 is the answer; past them it is the reserve of the payout, by its number.
use Rattle.std.proofs.Common.{ℕ, ◌≡◌, refl, List, le-ltb, lt-ltb, length}
use Rattle.std.proofs.Common.{Option, None, Some, Result, Ok, Err}
use Rattle.std.specs.Option.{ok_or}
use Rattle.fields.specs.Field.{Fields, fields}
use Rattle.model.specs.Model.{entries}
use Rattle.questions.specs.Questions.{ask_file}
use Rattle.questions.specs.Answers.{Answered, asked}
use Rattle.questions.specs.declared.question.Refusal.{Refusal}
use Rattle.entries.specs.Entered.{entry_of}
use Rattle.reserves.specs.Covers.{index_in}
use Rattle.claim.specs.Reserve.{payout_reserve}
use Rattle.claim.specs.Verdict.{entry_at}
use Rattle.claim.proofs.Fitting.{answered-passes}
use Rattle.verdict.specs.Place.{place_of_entry, no_entry}
use Rattle.verdict.proofs.Asking.{entry-missing, entry-counted, entry-there, place-missing, place-found}
use Rattle.payout_reserve.specs.Answer.{covered_by, entry_reserve, file_reserve, answer_of}

-- the state field that was found, or none
told-found : (model : Fields) (o : Option (List ℕ)) → answer_of (Ok (index_in model o)) ≡ covered_by model o
unfolding index_in covered_by
told-found model None = refl
told-found model (Some r) = refl

-- Question 9

module _ (file : List ℕ) (n k : ℕ) (q : Result ℕ Refusal) (e : q ≡ ok_or (place_of_entry file n) no_entry) where
  pub entry-nowhere : (d : Refusal) → q ≡ Err d → answer_of (Err d) ≡ entry_reserve (fields file) n k
  unfolding entry_reserve
  entry-nowhere d f =
      let none = place-missing file n q e d f in
      rw none.1 (cc (le-ltb n (length (entries (fields file))) (entry-missing file n (place_of_entry file n) refl none.0)))

  module _ (place : ℕ) (f : q ≡ Ok place) (r : Option ℕ) (g : r ≡ index_in (fields file) (payout_reserve (fields file) (entry_of file place) k)) where
    some : place_of_entry file n ≡ Some place
    some = place-found file n q e place f

    past : entry_reserve (fields file) n k ≡ covered_by (fields file) (payout_reserve (fields file) (entry_at (fields file) n).this k)
    unfolding entry_reserve
    past = cc (lt-ltb n (length (entries (fields file))) (entry-counted file n (place_of_entry file n) refl place some))

    pub entry-answered : answer_of (Ok r) ≡ entry_reserve (fields file) n k
    entry-answered = rw (past, entry-there file n (place_of_entry file n) refl place some, g) (told-found _ _)

-- Questions 1 to 8

module _ (file : List ℕ) (n k : ℕ) (a : Answered) (e : asked a ≡ ask_file file) where
  past_file : a ≡ Ok tt → file_reserve file n k ≡ entry_reserve (fields file) n k
  unfolding file_reserve
  past_file h = cc (answered-passes file a e h)

  pub file-passed : a ≡ Ok tt → (r : Result (Option ℕ) Refusal) → answer_of r ≡ entry_reserve (fields file) n k → answer_of r ≡ file_reserve file n k
  file-passed h r f = rw (past_file h) f

  pub file-refused : (d : Refusal) → a ≡ Err d → answer_of (Err d) ≡ file_reserve file n k
  unfolding file_reserve
  file-refused d h = cc
