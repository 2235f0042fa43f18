-- The definitions computed on examples: which conditions name a token, where it stands, and which number a set of tokens has.
use Rattle.std.proofs.Common.{ℕ, ◌≡◌, refl, List, [], ◌∷◌, ◌++◌, map}
use Prim.Native.String.{String}
use mathlib.Core.List.{flat_map}
use Rattle.laws.specs.Texts.{same_bytes, bytes, known}
use Rattle.tags.specs.Tag.{Entry, Limits, Denies, Guard, InAsset, Checked, Wrapping, Not, Or, And, Eq, Ne, Lt, composite, is_wrapper}
use Rattle.fields.specs.Field.{Placed, fields, fields_to, front, nth, size, sizes, placed, placed_from, place_of}
use Rattle.fields.proofs.Writing.{write, name, identifier}
use Rattle.walking.specs.Walking.{peel, peel_first, peel_place, peel_first_place, ident}
use Rattle.conditions.specs.Conditions.{split_and, split_each, split_first, negated, negated_each, negated_first, conditions_of, required_conditions, opposite, operator}
use Rattle.tokens.specs.Tokens.{single, beside_in_asset, token_named, tokens_named, admitted_inflow_token}
use Rattle.tokens.specs.Numbers.{token_of, joined, joined_all, condition_number, joined_from, tokens_number}
use Rattle.tokens.specs.Place.{beside_place, token_place}

abbrev in_asset : List ℕ
in_asset = write InAsset []

-- in-asset == t
abbrev holds : String → List ℕ
holds t = write Eq (in_asset ++ identifier t)

abbrev x : List ℕ
x = identifier "x"

abbrev entry : List ℕ → List ℕ
entry c = write Entry (name "f" ++ c)

abbrev limits : List ℕ → List ℕ
limits e = write Limits e

abbrev denies : List ℕ → List ℕ
denies e = write Denies e

abbrev guard : List ℕ → List ℕ
guard e = write Guard e

admitted : List (List ℕ) → List (List ℕ)
unfolding same_bytes known fields fields_to nth composite size sizes placed placed_from flat_map is_wrapper peel peel_first
    ident split_and split_each split_first negated negated_each negated_first conditions_of required_conditions opposite operator single
    beside_in_asset token_named tokens_named admitted_inflow_token
admitted cs = map (λ c. admitted_inflow_token (front (entry c))) cs

-- conditions that name T
naming : admitted
    (limits (holds "T") ∷ guard (holds "T") ∷ guard (write Eq (identifier "T" ++ in_asset))
    ∷ guard (write Eq (write Checked in_asset ++ write Wrapping (identifier "T"))) ∷ guard (write And (x ++ write And (holds "T" ++ x)))
    ∷ denies (write Ne (in_asset ++ identifier "T")) ∷ denies (write Not (holds "T")) ∷ denies (write Or (x ++ write Ne (in_asset ++ identifier "T")))
    ∷ (limits (holds "T") ++ guard (holds "T")) ∷ [])
    ≡ bytes "T" ∷ bytes "T" ∷ bytes "T" ∷ bytes "T" ∷ bytes "T" ∷ bytes "T" ∷ bytes "T" ∷ bytes "T" ∷ bytes "T" ∷ []
unfolding admitted
naming = refl

-- conditions that name none, and two that differ: a wrapped Eq, Ne, a denied Eq, a denied And, Or, in-asset twice, no in-asset
naming-none : admitted
    ([] ∷ guard (write Checked (holds "T")) ∷ guard (write Ne (in_asset ++ identifier "T")) ∷ denies (holds "T") ∷ denies (write And (x ++ write Ne (in_asset ++ identifier "T")))
    ∷ guard (write Or (holds "T" ++ holds "T")) ∷ guard (write Eq (in_asset ++ in_asset)) ∷ guard (write Eq (x ++ x)) ∷ guard (write Lt (in_asset ++ identifier "T"))
    ∷ (limits (holds "T") ++ guard (holds "U")) ∷ [])
    ≡ [] ∷ [] ∷ [] ∷ [] ∷ [] ∷ [] ∷ [] ∷ [] ∷ [] ∷ [] ∷ []
unfolding admitted
naming-none = refl

-- where the token stands that an entry names: behind in-asset and its own head, on the left side, inside wrappers, in the first
-- condition that names it
places : List (List ℕ) → List ℕ
unfolding same_bytes known fields fields_to nth composite size sizes placed placed_from place_of flat_map is_wrapper peel peel_first
    peel_place peel_first_place ident split_and split_each split_first negated negated_each negated_first conditions_of required_conditions
    opposite operator beside_in_asset token_named token_of joined joined_all condition_number tokens_number beside_place token_place
places cs = map (λ c. token_place (entry c) (tokens_number (entry c) (record { place = 0; this = front (entry c) }))) cs

standing : places
    (limits (holds "T") ∷ guard (write Eq (identifier "T" ++ in_asset)) ∷ guard (write Eq (write Checked in_asset ++ write Wrapping (identifier "T")))
    ∷ (guard x ++ guard (holds "T")) ∷ (limits (holds "T") ++ guard (holds "T")) ∷ [])
    ≡ 19 ∷ 16 ∷ 25 ∷ 26 ∷ 19 ∷ []
unfolding places
standing = refl

-- the number of what an entry names, by its conditions: none, one, the same twice (the place of the first comparison, and 2), two
numbered : List (List ℕ) → List ℕ
unfolding same_bytes known fields fields_to nth composite size sizes placed placed_from flat_map is_wrapper peel peel_first
    ident split_and split_each split_first negated negated_each negated_first conditions_of required_conditions opposite operator
    beside_in_asset token_named token_of joined joined_all condition_number tokens_number
numbered cs = map (λ c. tokens_number (entry c) (record { place = 0; this = front (entry c) })) cs

numbering : numbered
    ([] ∷ guard x ∷ limits (holds "T") ∷ (guard x ++ denies (write Ne (in_asset ++ identifier "T"))) ∷ (limits (holds "T") ++ guard (holds "T"))
    ∷ (limits (holds "T") ++ guard (holds "U")) ∷ (limits (holds "T") ++ (guard (holds "U") ++ guard (holds "T"))) ∷ [])
    ≡ 0 ∷ 0 ∷ 12 ∷ 19 ∷ 12 ∷ 1 ∷ 1 ∷ []
unfolding numbered
numbering = refl

-- what its limits and denials name, and what its guards name, each by itself; with a token found before, the same and another
from_either : List (List ℕ) → List (ℕ × ℕ × ℕ)
unfolding numbered joined_from
from_either cs =
    map (λ c. let e : Placed = record { place = 0; this = front (entry c) } in
    (joined_from (entry c) Limits Denies e 0, joined_from (entry c) Guard Guard e 0, joined_from (entry c) Guard Guard e 12)) cs

either : from_either
    ([] ∷ limits (holds "T") ∷ (limits (holds "T") ++ guard (holds "T")) ∷ (limits (holds "T") ++ guard (holds "U"))
    ∷ (denies (write Ne (in_asset ++ identifier "T")) ++ limits (holds "U")) ∷ [])
    ≡ (0, 0, 12) ∷ (12, 0, 12) ∷ (12, 25, 12) ∷ (12, 25, 1) ∷ (1, 0, 12) ∷ []
unfolding from_either
either = refl
