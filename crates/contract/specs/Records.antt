-- The verdicts on all entries of a file: a record of bytes for each, and an answer about all.
use Rattle.std.specs.Prelude.{ℕ, zero, suc, ◌/◌, ◌%◌, cond, ltb, length}
use mathlib.Core.List.{List, [], ◌∷◌, ◌++◌, flat_map}
use Rattle.fields.specs.Field.{Field, fields, nothing}
use Rattle.model.specs.Model.{entries}
use Rattle.questions.specs.Questions.{passes, fails, ask_file}
use Rattle.claim.specs.Verdict.{Verdict, refused, entry_at, verdict, outcome, first_of, second_of, written}

-- a number in two bytes, most significant first; one below 65,536 is kept whole
unfoldable pub two_bytes : ℕ → List ℕ
two_bytes k = k / 256 % 256 ∷ k % 256 ∷ []

-- the record of a verdict on an entry: what it is, its two numbers, and the covers of an accepted entry
unfoldable pub recorded : Field → Verdict → List ℕ
recorded entry v = outcome v ∷ two_bytes (first_of v) ++ two_bytes (second_of entry v) ++ written v []

-- bytes for the covers of every entry: three for each of 64 payouts
abbrev pub covers_enough : ℕ
covers_enough = 192

-- the verdict on an entry by its number
unfoldable pub verdict_on : List ℕ → ℕ → Verdict
verdict_on file n = verdict file n covers_enough

-- its record
unfoldable pub record_on : List ℕ → ℕ → List ℕ
record_on file n = recorded (entry_at (fields file) n).this (verdict_on file n)

-- the numbers below a count, from 0
unfoldable pub below : ℕ → List ℕ
below zero = []
below (suc n) = below n ++ n ∷ []

-- how many entries are asked about: of a file without entries the first, which question 9 refuses
unfoldable pub at_least_one : ℕ → ℕ
at_least_one zero = 1
at_least_one (suc n) = suc n

-- a refusal of questions 1 to 8, which is about no entry, is one record; else each entry that is asked about has one
unfoldable pub records : List ℕ → List ℕ
records file =
    elim (ask_file file) [
      | fails number place ↦ recorded nothing (refused number place)
      | passes ↦ flat_map (record_on file) (below (at_least_one (length (entries (fields file)))))
    ]

-- the largest of f 0, f 1, .. of the numbers below n; 0 where there are none
unfoldable pub largest : (ℕ → ℕ) → ℕ → ℕ
largest f zero = 0
largest f (suc n) = cond (ltb (largest f n) (f n)) (f n) (largest f n)

-- what all are together: refused where a question about the file says no, or where there is no entry; else the largest of what
-- its entries are
unfoldable pub outcome_of_all : List ℕ → ℕ
outcome_of_all file =
    elim (ask_file file) [
      | fails number place ↦ 2
      | passes ↦ largest (λ n. outcome (verdict_on file n)) (at_least_one (length (entries (fields file))))
    ]
