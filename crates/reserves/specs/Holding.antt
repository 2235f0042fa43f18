-- Whether a state field holds the token that is asked for, and what is remembered of it.
use Rattle.std.specs.Prelude.{ℕ, ◌≡◌, Bool, ◌&&◌, List, Some, get_or, drop}
use Rattle.laws.specs.Texts.{same_bytes, known}
use Rattle.fields.specs.Field.{fields, front}
use Rattle.model.specs.Model.{name_of}
use Rattle.reserve_tokens.specs.ReserveTokens.{reserve_token}
use Rattle.reserve_tokens.specs.Numbers.{reserve_number}
use Rattle.reserve_tokens.specs.Each.{Each}
use Rattle.fundings.specs.Funded.{remembered_at}
use Rattle.fundings.specs.declared.facts.Facts.{Facts}
use Rattle.reserves.specs.States.{state_name}

-- a token is known, and it is t
unfoldable pub is_token : (t u : List ℕ) → Bool
is_token t u = known u && same_bytes t u

-- the i-th state field holds a token
unfoldable pub holds_token : (file token : List ℕ) → ℕ → Bool
holds_token file token i = is_token (reserve_token (fields file) (state_name file i)) token

-- what is remembered of the state fields of a file is right: of each that is worked out, the number of the token that it holds. What
-- the facts say of the maps that some call funds is right by their type
pub record FactsOf (facts : Facts) : Type 0 where
  pub right : (i n : ℕ) → remembered_at facts i ≡ Some n → n ≡ reserve_number facts.file.now (state_name facts.file.now i)

-- several state fields at once: a table has the place of each, whose number among all another has
abbrev pub Placing : (file indices places : List ℕ) → Type 0
Placing file indices places = Each (λ j place. name_of (front (drop place file)) ≡ state_name file (get_or indices j 0)) indices places

-- or it has the number of the token that each holds
abbrev pub Numbered : (file indices numbers : List ℕ) → Type 0
Numbered file indices numbers = Each (λ j number. number ≡ reserve_number file (state_name file (get_or indices j 0))) indices numbers
