-- The verdict as the code gives it, by the paper's number and values.
use Rattle.std.specs.Prelude.{ℕ, ◌*◌, List, leb, length, get_or, Result, Ok, Err}
use Rattle.fields.specs.Field.{Field, Fields, Placed, fields}
use Rattle.questions.specs.Questions.{Asked, ask, at_most, ◌and_then◌}
use Rattle.questions.specs.Questions.Asked.{passes, fails}
use Rattle.walking.specs.Walking.{is_payout, payouts}
use Rattle.walking.specs.Table.{placed_at}
use Rattle.entries.specs.Calls.{body_where}
use Rattle.entries.specs.Entered.{entry_of}
use Rattle.entries.specs.declared.entry.Entry.{Entry}
use Rattle.matching.specs.Coded.{reason_of}
use Rattle.claim.specs.Verdict as rules
use Rattle.claim.specs.Verdict.Verdict.{refused}
use Rattle.questions.specs.Answers.{number_of}
use Rattle.verdict.specs.Outcomes.{outcome_of}
use Rattle.verdict.specs.declared.entry.Accepted.{Accepted}
use Rattle.verdict.specs.declared.entry.Objection.{Objection}
use Rattle.verdict.specs.declared.entry.Objection.TheVariants.{Refused, Rejected}
use Rattle.verdict.specs.declared.numbers.Numbers.{Numbers}
use Rattle.verdict.specs.declared.numbers.Outcome.TheVariants as outcome

-- the verdict of the code: what is accepted, or an objection
abbrev pub Told : Type 0
Told = Result Accepted Objection

-- what each case of it is, with the paper's values
unfoldable pub numbers_of : Told → Numbers
numbers_of (Ok accepted) = record { outcome = outcome.Accepted; first = accepted.payouts; second = accepted.spare }
numbers_of (Err (Rejected payout why)) = record { outcome = outcome.Rejected; first = payout; second = rules.reason (reason_of why) }
numbers_of (Err (Refused refusal)) = record { outcome = outcome.Refused; first = number_of refusal.question; second = refusal.place }

-- the same of a verdict of the rules on an entry
unfoldable pub numbers : Field → rules.Verdict → Numbers
numbers entry v = record { outcome = outcome_of v; first = rules.first_of v; second = rules.second_of entry v }

-- questions 10 to 12 of an entry as it is read, with as many bytes of covers lent
unfoldable pub ask_counted : Entry → ℕ → Asked
ask_counted e lent =
    ask (leb e.payouts 64) 10 (get_or e.paid 64 0)
    and_then ask (leb e.total 64) 11 e.place
    and_then ask (leb (3 * e.payouts) lent) 12 0

-- questions 11 and 12 of an entry at a place, and before them question 10
abbrev pub ask_backed : Placed → ℕ → Asked
ask_backed entry lent =
    ask (leb (rules.backing_count entry.this) 64) 11 entry.place and_then ask (leb (3 * length (payouts entry.this)) lent) 12 0

abbrev pub ask_placed : Placed → ℕ → Asked
ask_placed entry lent = at_most 64 10 (body_where is_payout entry) and_then ask_backed entry lent

-- the verdict past question 9, and past question 10
unfoldable pub placed_verdict : Fields → Placed → ℕ → rules.Verdict
placed_verdict model entry lent = elim (ask_placed entry lent) [ fails k p ↦ refused k p | passes ↦ rules.matching model entry.this ]

unfoldable pub backed_verdict : Fields → Placed → ℕ → rules.Verdict
backed_verdict model entry lent = elim (ask_backed entry lent) [ fails k p ↦ refused k p | passes ↦ rules.matching model entry.this ]

-- the numbers of the verdict on the entry at a place of the file, and the covers as they are left
abbrev pub placed_answer : List ℕ → ℕ → ℕ → Numbers
placed_answer file place lent = numbers (entry_of file place) (placed_verdict (fields file) (placed_at file place) lent)

abbrev pub placed_covers : List ℕ → ℕ → List ℕ → List ℕ
placed_covers file place covers = rules.written (placed_verdict (fields file) (placed_at file place) (length covers)) covers

-- and past all questions
abbrev pub matched_answer : List ℕ → ℕ → Numbers
matched_answer file place = numbers (entry_of file place) (rules.matching (fields file) (entry_of file place))

abbrev pub matched_covers : List ℕ → ℕ → List ℕ → List ℕ
matched_covers file place covers = rules.written (rules.matching (fields file) (entry_of file place)) covers

-- on the n-th entry of a file that passes questions 1 to 8, and of any file
abbrev pub entry_answer : List ℕ → ℕ → ℕ → Numbers
entry_answer file n lent = numbers (rules.entry_at (fields file) n).this (rules.entry_verdict (fields file) n lent)

abbrev pub entry_covers : List ℕ → ℕ → List ℕ → List ℕ
entry_covers file n covers = rules.written (rules.entry_verdict (fields file) n (length covers)) covers

abbrev pub file_answer : List ℕ → ℕ → ℕ → Numbers
file_answer file n lent = numbers (rules.entry_at (fields file) n).this (rules.verdict file n lent)
