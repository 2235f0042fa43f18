-- What is written of a file as the code goes through it: the record of a refusal by questions 1 to 8, or one for each entry, and
-- none where there are no entries.
use Rattle.std.specs.Prelude.{ℕ, ◌≡◌, length}
use mathlib.Core.List.{List, flat_map}
use Rattle.fields.specs.Field.{fields, nothing}
use Rattle.model.specs.Model.{entries}
use Rattle.questions.specs.Questions.{passes, fails, ask_file}
use Rattle.claim.specs.Verdict.{refused, outcome}
use Rattle.entries.specs.Entered.{entry_of}
use Rattle.verdict.specs.Outcomes.{outcome_number}
use Rattle.verdict.specs.declared.numbers.Outcome.{Outcome}
use Rattle.output.specs.Output.{Written}
use Rattle.output.specs.Writes.{Writes}
use Rattle.output.specs.declared.Output.{Output}
use Rattle.contract.specs.Records.{recorded, verdict_on, record_on, below, records, largest, outcome_of_all}
use Rattle.contract.specs.Coded.{verdict_at}
use Rattle.contract.specs.declared.records.Recorded.{Recorded}

-- bytes for the records of every file: 5 and the covers for each of 64 entries
abbrev pub records_enough : ℕ
records_enough = 12608

-- how many records there are
unfoldable pub record_count : List ℕ → ℕ
record_count file = elim (ask_file file) [ fails number place ↦ 1 | passes ↦ length (entries (fields file)) ]

-- the records
unfoldable pub each_record : List ℕ → List ℕ
each_record file =
    elim (ask_file file) [
      | fails number place ↦ recorded nothing (refused number place)
      | passes ↦ flat_map (record_on file) (below (length (entries (fields file))))
    ]

-- what an entry is
abbrev pub outcome_on : List ℕ → ℕ → ℕ
outcome_on file n = outcome (verdict_on file n)

-- the largest of what they are; 0 where there are none
unfoldable pub largest_of_each : List ℕ → ℕ
largest_of_each file =
    elim (ask_file file) [
      | fails number place ↦ 2
      | passes ↦ largest (outcome_on file) (length (entries (fields file)))
    ]

-- those are written
pub record EachRecorded (file before after : List ℕ) (r : Recorded) : Type 0 where
  pub what : outcome_number r.outcome ≡ largest_of_each file
  pub many : r.count ≡ record_count file
  pub bytes : Written (each_record file) before 0 after r.end

-- the records of all entries, with that of question 9 where there is none, are written
pub record AllRecorded (file before after : List ℕ) (r : Recorded) : Type 0 where
  pub what : outcome_number r.outcome ≡ outcome_of_all file
  pub bytes : Written (records file) before 0 after r.end

-- the record of a refusal is written, and is the only one
pub record RefusalRecorded (number place : ℕ) (before after : List ℕ) (r : Recorded) : Type 0 where
  pub what : outcome_number r.outcome ≡ 2
  pub many : r.count ≡ 1
  pub bytes : Written (recorded nothing (refused number place)) before 0 after r.end

-- the record of the entry at a place is written, and r is what the verdict on it is
pub record EntryRecorded (file : List ℕ) (place : ℕ) (before after : Output) (r : Outcome) : Type 0 where
  pub what : outcome_number r ≡ outcome (verdict_at file place)
  pub bytes : Writes (recorded (entry_of file place) (verdict_at file place)) before after
