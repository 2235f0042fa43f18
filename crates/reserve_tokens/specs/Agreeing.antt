-- What the raises of a state field agree on, one after the other.
use Rattle.std.specs.Prelude.{ℕ, ◌≡◌, cond, eqb}
use mathlib.Core.List.{List, [], ◌++◌, flat_map}
use Rattle.fields.specs.Field.{fields}
use Rattle.model.specs.Model.{entries}
use Rattle.reserve_tokens.specs.Reserving.{Found}
use Rattle.reserve_tokens.specs.Numbers.{numbers_in, agreed}

-- what is left of a number that raises agree on, or of 0, with the numbers of further raises
unfoldable pub agreed_after : List ℕ → ℕ → List ℕ → ℕ
agreed_after file k ns = cond (eqb k 0) 1 (agreed file k ns)

-- raises agree on a number, or it is 0, since one of them bars the field
abbrev pub Agreed : (file : List ℕ) → ℕ → Type 0
Agreed file k = (k ≡ 0 → ⊥) → Found file k

-- r is what raises with these numbers agree on with those before, 0 where one of all bars the field
pub record Agreeing (file : List ℕ) (before : ℕ) (ns : List ℕ) (r : ℕ) : Type 0 where
  pub found : Agreed file r
  pub left : (rest : List ℕ) → agreed_after file r rest ≡ agreed_after file before (ns ++ rest)

-- r is what all raises of a state field agree on, 0 where one of them bars it
abbrev pub AllAgree : (file name : List ℕ) → ℕ → Type 0
AllAgree file name r = agreed_after file r [] ≡ agreed file 1 (flat_map (numbers_in file name) (entries (fields file)))
