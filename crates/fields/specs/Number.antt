-- A number made of a text's bytes.
use Rattle.std.specs.Prelude.{ℕ, ◌+◌, ◌*◌, ◌/◌, ◌%◌, cond, List, [], ◌∷◌, leb, length, take}
use Rattle.std.specs.Int.{Width, w16, w32, w64, from_le_bytes}

-- behind bytes with the number n
unfoldable pub number_from : (base n : ℕ) → List ℕ → ℕ
number_from base n [] = n
number_from base n (x ∷ xs) = number_from base ((n + x) * base % 4294967296) xs

-- of a whole text
abbrev pub text_number : (base : ℕ) → List ℕ → ℕ
text_number base s = number_from base 0 s

-- of two bytes: the upper half of that of the first bytes, in one base
abbrev pub short_number : List ℕ → ℕ
short_number s = text_number 1640531527 (take 32 s) / 65536

-- the first bytes of a text as a number, least significant first; 0 where there are fewer
unfoldable pub front_number : Width → (count : ℕ) → List ℕ → ℕ
front_number w count s = cond (leb count (length s)) (from_le_bytes w (take count s)) 0

-- of the first two, four and eight
abbrev pub front_pair : List ℕ → ℕ
front_pair s = front_number w16 2 s

abbrev pub front_quad : List ℕ → ℕ
front_quad s = front_number w32 4 s

abbrev pub front_word : List ℕ → ℕ
front_word s = front_number w64 8 s
