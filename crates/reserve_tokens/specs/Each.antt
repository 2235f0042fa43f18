-- Several state fields at once: a table has their places, and another has a number for each.
use Rattle.std.specs.Prelude.{ℕ, ◌≤◌, ◌<◌, ◌≡◌, List, length, get_or, drop}
use Rattle.fields.specs.Field.{Placed, front}
use Rattle.model.specs.Model.{name_of}
use Rattle.reserve_tokens.specs.Numbers.{numbers_in, reserve_number}
use Rattle.reserve_tokens.specs.Agreeing.{Agreed, Agreeing, AllAgree}

-- the name of the j-th of them
abbrev pub nth_name : (file places : List ℕ) → ℕ → List ℕ
nth_name file places j = name_of (front (drop (get_or places j 0) file))

-- what is said of a field's place in the table and of its number holds for each
pub record Each (P : ℕ → ℕ → Type 0) (places numbers : List ℕ) : Type 0 where
  pub room : length places ≤ length numbers
  pub each : (j : ℕ) → j < length places → P j (get_or numbers j 0)

-- the raises of each so far agree on its number
abbrev pub EachAgreed : (file places numbers : List ℕ) → Type 0
EachAgreed file places numbers = Each (λ j k. Agreed file k) places numbers

-- those of an entry agree on it with those before
abbrev pub EachAgreeing : (file places before : List ℕ) → Placed → (numbers : List ℕ) → Type 0
EachAgreeing file places before entry numbers =
    Each (λ j k. Agreeing file (get_or before j 0) (numbers_in file (nth_name file places j) entry) k) places numbers

-- all raises of each do
abbrev pub EachAllAgree : (file places numbers : List ℕ) → Type 0
EachAllAgree file places numbers = Each (λ j k. AllAgree file (nth_name file places j) k) places numbers

-- each has the number of the token that it holds
abbrev pub EachNumber : (file places numbers : List ℕ) → Type 0
EachNumber file places numbers = Each (λ j k. k ≡ reserve_number file (nth_name file places j)) places numbers
