-- Demand 3 of all entries of a file: what `Backed` says of an answer, of its two numbers and of the covers written, where no bytes
-- at all are lent for the covers. It is said of the verdicts, and of what is read back from the bytes of their records.
use Rattle.std.specs.Prelude.{ℕ, ◌≤◌, ◌<◌, ◌≡◌, List, [], length}
use Rattle.fields.specs.Field.{fields}
use Rattle.model.specs.Model.{entries}
use Rattle.questions.specs.Questions.{passes, ask_file}
use Rattle.claim.specs.Verdict.{entry_at, ask_entry, outcome, first_of, second_of, written}
use Rattle.claim.specs.Claim.{Backed}
use Rattle.contract.specs.Records.{covers_enough, verdict_on}
use Rattle.contract.specs.Each.{records_enough}
use Rattle.contract.specs.Reading.{outcome_in, first_in, second_in, covers_in, Whole, records_from}

-- the verdict on each entry past questions 1 to 8 about the file, and 9 to 12 about the entry, with room for 64 covers
unfoldable pub EachVerdictBacked : (file : List ℕ) → Type 0
EachVerdictBacked file =
    (n : ℕ) → ask_file file ≡ passes → ask_entry (fields file) n covers_enough ≡ passes →
    let v = verdict_on file n in
    let entry = (entry_at (fields file) n).this in
    Backed (fields file) entry [] (outcome v) (first_of v) (second_of entry v) (written v [])

-- what the bytes say of each such entry whose record they have whole
unfoldable pub EachBacked : (file bytes : List ℕ) → Type 0
EachBacked file bytes =
    (n : ℕ) → ask_file file ≡ passes → ask_entry (fields file) n covers_enough ≡ passes →
    let r = records_from bytes n in
    Whole r → Backed (fields file) (entry_at (fields file) n).this [] (outcome_in r) (first_in r) (second_in r) (covers_in r)

-- which is each entry's, where as many bytes were lent as are enough for every file
unfoldable pub EachWhole : (file lent bytes : List ℕ) → Type 0
EachWhole file lent bytes =
    records_enough ≤ length lent → (n : ℕ) → ask_file file ≡ passes → n < length (entries (fields file)) → Whole (records_from bytes n)
