-- The first "no" of the three runs of questions is the answer.
use Rattle.std.proofs.Common.{ℕ, ◌≡◌, List, []}
use Rattle.std.proofs.lemmas.Result.{err_from_is_err_and}
use Rattle.fields.specs.Field.{fields}
use Rattle.model.specs.Model.{states, entries}
use Rattle.questions.specs.Questions.{Asked, ask_form, ask_names, at_most, ask_file}
use Rattle.questions.specs.Questions.Asked.{passes, fails}
use Rattle.questions.proofs.file.check_file.Goals as goal

module _ (file : List ℕ) where
  form-no : (n p : ℕ) → fails n p ≡ ask_form file → fails n p ≡ ask_file file
  unfolding ask_file
  form-no n p e = rw (← e)

  module _ (e : passes ≡ ask_form file) where
    names-no : (n p : ℕ) → fails n p ≡ ask_names [] (states (fields file)) → fails n p ≡ ask_file file
    unfolding ask_file
    names-no n p f = rw (← e, ← f)

    entries-last : passes ≡ ask_names [] (states (fields file)) → (r : Asked) → r ≡ at_most 64 8 (entries (fields file)) → r ≡ ask_file file
    unfolding ask_file
    entries-last f r g = rw (← e, ← f) g

pub returns-in_err-check_form : goal.returns-in_err-check_form
returns-in_err-check_form c =
    let p = err_from_is_err_and c.from_residual.result c.from_residual.ensures.1 in
    let e = c.in_err-check_form.ensures in
    rw (p.1, p.2) (search form-no)

pub returns-in_err-check_names : goal.returns-in_err-check_names
returns-in_err-check_names c =
    let p = err_from_is_err_and c.from_residual-in_err-check_names.result c.from_residual-in_err-check_names.ensures.1 in
    let e = c.in_ok-check_form.ensures in
    let f = c.in_err-check_names.ensures in
    rw (p.1, p.2) (search names-no)

pub returns : goal.returns
returns c = let e = c.in_ok-check_form.ensures in let f = c.in_ok-check_names.ensures in search entries-last
