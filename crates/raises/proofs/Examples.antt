-- The definitions computed on examples: what zero is, where a state field starts, what raises it and by what.
use Rattle.std.proofs.Common.{ℕ, ◌≡◌, refl, Bool, true, false, List, [], ◌∷◌, ◌++◌, map}
use Prim.Native.String.{String}
use Rattle.laws.specs.Texts.{same_bytes, bytes}
use Rattle.tags.specs.Tag.{State, Genesis, Set, AddTo, SubtractFrom, String as Text, Checked, Wrapping, Add, Sub, Mul, composite, is_assign, is_wrapper}
use Rattle.fields.specs.Field.{fields, fields_to, front, nth, row, fields_from, sizes, encode}
use Rattle.fields.proofs.Writing.{write, word, name, type_name, integer, identifier}
use Rattle.model.specs.Model.{genesis}
use Rattle.walking.specs.Walking.{peel, peel_first, ident}
use Rattle.raises.specs.Raises.{assigns, value, sets_from, is_zero, defaults, genesis_values, starts_at_zero, raise}

abbrev r : List ℕ
r = identifier "r"

abbrev v : List ℕ
v = identifier "v"

abbrev checked : List ℕ → List ℕ
checked e = write Checked e

-- Zero

zeros : List (List ℕ) → List Bool
unfolding fields fields_to nth composite is_wrapper peel peel_first is_zero
zeros es = map (λ e. is_zero (front e)) es

-- 0, underscores around it, the empty text, two digits, no digit, and a zero inside wrappers
zero : zeros (integer "0" ∷ integer "_0_" ∷ integer "" ∷ integer "00" ∷ integer "_" ∷ checked (write Wrapping (integer "0_0")) ∷ [])
    ≡ true ∷ true ∷ true ∷ true ∷ true ∷ true ∷ []
unfolding zeros
zero = refl

-- another digit, a digit behind zeros, a string, a name, a hollow wrapper
no_zero : zeros (integer "1" ∷ integer "00_1" ∷ word Text "0" ∷ r ∷ checked [] ∷ []) ≡ false ∷ false ∷ false ∷ false ∷ false ∷ []
unfolding zeros
no_zero = refl

-- The start

abbrev state : String → List ℕ → List ℕ
state s default = write State (name s ++ (type_name "Q_Integer" ++ default))

abbrev first : ℕ → String → List ℕ → List ℕ
first how target e = write Genesis (write how (identifier target ++ e))

starts : List (List ℕ) → List Bool
unfolding same_bytes fields fields_to nth composite row fields_from is_wrapper is_assign genesis ident peel peel_first assigns is_zero defaults genesis_values starts_at_zero
starts models = map (λ m. starts_at_zero (fields m) (bytes "r")) models

-- no default, a zero one, another field's, zero at genesis, another field's value there
at_zero : starts
    (state "r" [] ∷ state "r" (integer "0") ∷ (state "r" [] ++ state "s" (integer "1")) ∷ (state "r" [] ++ first Set "r" (integer "0"))
    ∷ (state "r" (integer "0") ++ first Set "s" (integer "1")) ∷ [])
    ≡ true ∷ true ∷ true ∷ true ∷ true ∷ []
unfolding starts
at_zero = refl

-- a default of 1, and 1 at genesis: set, added, subtracted, or after a zero
at_one : starts
    (state "r" (integer "1") ∷ first Set "r" (integer "1") ∷ first AddTo "r" (integer "1") ∷ first SubtractFrom "r" (integer "1")
    ∷ (first Set "r" (integer "0") ++ first AddTo "r" (integer "1")) ∷ [])
    ≡ false ∷ false ∷ false ∷ false ∷ false ∷ []
unfolding starts
at_one = refl

-- Raises

abbrev sets : List ℕ → List ℕ
sets e = write Set (r ++ e)

raises_by : List (List ℕ) → List (List (List ℕ))
unfolding same_bytes fields fields_to nth composite sizes is_wrapper ident peel peel_first value sets_from raise encode
raises_by ss = map (λ s. map encode (raise (bytes "r") (front s))) ss

-- by v: `r += v`, r = r + v, r = checked(r) + v, r = checked(r + checked(v)), r = v
by-v : raises_by
    (write AddTo (r ++ v) ∷ sets (write Add (r ++ v)) ∷ sets (write Add (checked r ++ v)) ∷ sets (checked (write Add (r ++ checked v))) ∷ sets (checked v) ∷ [])
    ≡ (v ∷ []) ∷ (v ∷ []) ∷ (v ∷ []) ∷ (v ∷ []) ∷ (v ∷ []) ∷ []
unfolding raises_by
by-v = refl

-- by the whole value: r = v + r, r = v - r, r = r * v
by_value : raises_by (sets (write Add (v ++ r)) ∷ sets (write Sub (v ++ r)) ∷ sets (write Mul (r ++ v)) ∷ [])
    ≡ (write Add (v ++ r) ∷ []) ∷ (write Sub (v ++ r) ∷ []) ∷ (write Mul (r ++ v) ∷ []) ∷ []
unfolding raises_by
by_value = refl

-- not at all: `r -= v`, r = r - v, r = checked(checked(r) - v)
by-nothing : raises_by (write SubtractFrom (r ++ v) ∷ sets (write Sub (r ++ v)) ∷ sets (checked (write Sub (checked r ++ v))) ∷ []) ≡ [] ∷ [] ∷ [] ∷ []
unfolding raises_by
by-nothing = refl
