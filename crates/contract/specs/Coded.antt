-- The record that the code makes of the numbers of a verdict.
use Rattle.std.specs.Prelude.{ℕ, ◌*◌, ◌≤◌, ◌≡◌, cond, List, [], ◌∷◌, ◌++◌, eqb, length, take}
use Rattle.fields.specs.Field.{fields}
use Rattle.walking.specs.Table.{placed_at}
use Rattle.claim.specs.Verdict.{Verdict}
use Rattle.verdict.specs.Coded.{placed_verdict}
use Rattle.verdict.specs.Outcomes.{outcome_number}
use Rattle.verdict.specs.declared.numbers.Numbers.{Numbers}
use Rattle.contract.specs.Records.{two_bytes, covers_enough}

-- the numbers as bytes
unfoldable pub head_of : Numbers → List ℕ
head_of x = outcome_number x.outcome ∷ two_bytes x.first ++ two_bytes x.second

-- the record: behind the numbers stand the covers of an accepted entry, the first of some bytes
unfoldable pub record_of : Numbers → List ℕ → List ℕ
record_of x covers = head_of x ++ cond (eqb (outcome_number x.outcome) 0) (take (3 * x.first) covers) []

-- the covers of an accepted entry with these numbers are among some bytes
pub record CoversIn (x : Numbers) (covers : List ℕ) : Type 0 where
  pub within : outcome_number x.outcome ≡ 0 → 3 * x.first ≤ length covers

-- the verdict on the entry at a place of a file that passes questions 1 to 9
abbrev pub verdict_at : (file : List ℕ) (place : ℕ) → Verdict
verdict_at file place = placed_verdict (fields file) (placed_at file place) covers_enough
