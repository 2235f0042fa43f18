-- Numbers in decimal digits.
use Rattle.std.specs.Prelude.{ℕ, zero, suc, ◌+◌, ◌/◌, ◌%◌, true, false, List, [], ◌∷◌, ◌++◌, ltb}

-- a number in decimal digits, at most k of them; 0x30 is the digit 0
unfoldable pub digits : (k n : ℕ) → List ℕ
digits zero n = []
digits (suc k) n = elim (ltb n 10) [ true ↦ (0x30 + n) ∷ [] | false ↦ digits k (n / 10) ++ (0x30 + n % 10) ∷ [] ]

-- all of them: a number has no more digits than it counts, and 0 has one
unfoldable pub decimal : ℕ → List ℕ
decimal n = digits (suc n) n
