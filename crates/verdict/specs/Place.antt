-- Where the entry with a number stands, as the code gives it.
use Rattle.std.specs.Prelude.{ℕ, cond, List, ltb, length}
use Rattle.std.specs.Prelude.{Option, None, Some}
use Rattle.fields.specs.Field.{fields}
use Rattle.model.specs.Model.{entries}
use Rattle.claim.specs.Verdict.{entry_at}
use Rattle.questions.specs.declared.question.Refusal.{Refusal}
use Rattle.questions.specs.declared.question.Question.TheVariants.{EntryNumber}

-- the "no" to question 9
abbrev pub no_entry : Refusal
no_entry = record { question = EntryNumber; place = 0 }

-- the place, if there is one, of an entry by its number
unfoldable pub place_of_entry : List ℕ → ℕ → Option ℕ
place_of_entry file n = cond (ltb n (length (entries (fields file)))) (Some (entry_at (fields file) n).place) None
