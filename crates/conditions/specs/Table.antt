-- Conditions as numbers of two bytes in a lent table, and how such a number is read back.
use Rattle.std.specs.Prelude.{ℕ, ◌+◌, ◌%◌, cond, List, map, leb, drop}
use Rattle.fields.specs.Field.{front}
use Rattle.conditions.specs.Conditions.{Condition, conditions_of}

-- the place, with 32,768 more if the condition is flipped; in an entry of at most 32,768 bytes every place is below that
-- number, and of a longer one the place is kept modulo 32,768
unfoldable pub mark : Condition → ℕ
mark c = cond c.flipped (c.place % 32768 + 32768) (c.place % 32768)

abbrev pub marks : List Condition → List ℕ
marks cs = map mark cs

-- the condition of an entry that a number of the table stands for
unfoldable pub condition_at : List ℕ → ℕ → Condition
condition_at entry k = record { place = k % 32768; flipped = leb 32768 k; this = front (drop (k % 32768) entry) }

-- the conditions of the clause or guard at the front of s, which stands at n
unfoldable pub conditions_at : List ℕ → ℕ → List Condition
conditions_at s n = conditions_of (record { place = n; this = front s })
