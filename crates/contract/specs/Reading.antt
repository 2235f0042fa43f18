-- A record as it is read back from bytes: the one in front of them, and those behind it.
use Rattle.std.specs.Prelude.{ℕ, zero, suc, ◌+◌, ◌*◌, ◌≤◌, cond, List, eqb, length, get_or, take, drop}

-- the number in the first two bytes, most significant first
unfoldable pub front_number : List ℕ → ℕ
front_number s = get_or s 0 0 * 256 + get_or s 1 0

-- the record in front: what the verdict is, in one byte
abbrev pub outcome_in : List ℕ → ℕ
outcome_in s = get_or s 0 0

-- its two numbers, in two bytes each
abbrev pub first_in : List ℕ → ℕ
first_in s = front_number (drop 1 s)

abbrev pub second_in : List ℕ → ℕ
second_in s = front_number (drop 3 s)

-- how many bytes the record takes: these five, and behind them the covers of an accepted entry, three for each payout
unfoldable pub size_of : List ℕ → ℕ
size_of s = cond (eqb (outcome_in s) 0) (5 + 3 * first_in s) 5

-- the covers
unfoldable pub covers_in : List ℕ → List ℕ
covers_in s = drop 5 (take (size_of s) s)

-- the record is there whole, and not cut off
unfoldable pub Whole : List ℕ → Type 0
Whole s = size_of s ≤ length s

-- the bytes from record n on, counted from 0: each record before it is passed over
unfoldable pub records_from : List ℕ → ℕ → List ℕ
records_from s zero = s
records_from s (suc n) = let r = records_from s n in drop (size_of r) r
