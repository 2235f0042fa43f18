-- A set of tokens is a number: 0 it is empty, 1 it has two that differ, p + 2 it has one token, which the comparison at place p of
-- the file names.
use Rattle.std.specs.Prelude.{ℕ, ◌+◌, ◌-◌, ◌≤◌, cond, List, [], ◌∷◌, map, eqb, leb, length, drop}
use Rattle.laws.specs.Texts.{same_bytes, known}
use Rattle.fields.specs.Field.{Placed, front, parts}
use Rattle.conditions.specs.Conditions.{Condition, conditions_from, required_conditions}
use Rattle.conditions.specs.Table.{condition_at}
use Rattle.tokens.specs.Tokens.{beside_in_asset, token_named}

-- the one token of a set; none of an empty one and of one with two that differ
unfoldable pub token_of : List ℕ → ℕ → List ℕ
token_of file k = cond (leb 2 k) (beside_in_asset (front (drop (k - 2) file))) []

-- two sets together
unfoldable pub joined : List ℕ → ℕ → ℕ → ℕ
joined file a b = cond (eqb b 0) a (cond (eqb a 0) b (cond (same_bytes (token_of file a) (token_of file b)) a 1))

-- a set and all of a list
unfoldable pub joined_all : List ℕ → ℕ → List ℕ → ℕ
joined_all file a [] = a
joined_all file a (b ∷ bs) = joined_all file (joined file a b) bs

-- what a condition of the entry at n names
unfoldable pub condition_number : ℕ → Condition → ℕ
condition_number n c = cond (known (token_named c)) (n + c.place + 2) 0

-- a set, with what the conditions of an entry name, of those clauses or guards whose tags are from `low` to `high`
unfoldable pub joined_from : List ℕ → (low high : ℕ) → Placed → ℕ → ℕ
joined_from file low high entry a = joined_all file a (map (condition_number entry.place) (conditions_from low high 3 (parts entry.this)))

-- what an entry names
unfoldable pub tokens_number : List ℕ → Placed → ℕ
tokens_number file entry = joined_all file 0 (map (condition_number entry.place) (required_conditions entry.this))

-- the token that a number of the table of an entry's conditions stands for
unfoldable pub token_at : List ℕ → ℕ → List ℕ
token_at entry k = token_named (condition_at entry k)

-- the entry stands in a file that passes question 1, where n numbers were listed before
pub record Standing (file : List ℕ) (place n : ℕ) : Type 0 where
  pub short : length file ≤ 32768
  pub within : place ≤ length file
  pub few : n ≤ 65536
