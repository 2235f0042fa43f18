-- The definitions computed on examples: what And and a denial give, what they leave whole, and the order of an entry's conditions.
use Rattle.std.proofs.Common.{ℕ, ◌≡◌, refl, true, false, List, [], ◌∷◌, ◌++◌, map}
use mathlib.Core.List.{flat_map}
use Rattle.tags.specs.Tag.{Entry, Limits, Denies, Guard, Let, Identifier, Not, Negate, Call, Checked, Wrapping, Or, And, Eq, Ne, Lt, Gt, Le, Ge, Add, composite}
use Rattle.fields.specs.Field.{fields, fields_to, front, nth, nothing, size, sizes, placed, placed_from}
use Rattle.fields.proofs.Writing.{write, name, identifier}
use Rattle.conditions.specs.Conditions.{split_and, split_each, split_first, negated, negated_first, conditions_of, required_conditions, opposite, operator}
use Rattle.conditions.specs.Table.{mark, marks, condition_at, conditions_at}

-- two identifiers of four bytes, and a comparison of eleven
abbrev a : List ℕ
a = identifier "a"

abbrev b : List ℕ
b = identifier "b"

abbrev equal : List ℕ
equal = write Eq (a ++ b)

abbrev both : List ℕ
both = write And (a ++ equal)

-- what an expression at place 0 gives where it is required, and where it is denied
abbrev required : List ℕ → List ℕ
required s = marks (split_and 0 (front s))

abbrev denied : List ℕ → List ℕ
denied s = marks (negated 0 (front s))

-- Required

-- And is split, also inside And
split : map required (equal ∷ both ∷ write And (both ++ b) ∷ write And (a ++ both) ∷ [])
    ≡ (0 ∷ []) ∷ (3 ∷ 7 ∷ []) ∷ (6 ∷ 10 ∷ 21 ∷ []) ∷ (3 ∷ 10 ∷ 14 ∷ []) ∷ []
unfolding fields fields_to nth composite size sizes split_and mark
split = refl

-- it is not, inside a wrapper, `not`, Or or a comparison
unsplit : map required (write Checked both ∷ write Wrapping both ∷ write Not both ∷ write Or (both ++ both) ∷ write Eq (both ++ both) ∷ [])
    ≡ (0 ∷ []) ∷ (0 ∷ []) ∷ (0 ∷ []) ∷ (0 ∷ []) ∷ (0 ∷ []) ∷ []
unfolding fields fields_to nth composite size sizes split_and mark
unsplit = refl

-- Denied

-- `not e` gives e, and And in it is split; `not not e` gives `not e`; what is missing gives nothing
nots : map denied (write Not equal ∷ write Not both ∷ write Not (write Not equal) ∷ write Not [] ∷ [])
    ≡ (3 ∷ []) ∷ (6 ∷ 10 ∷ []) ∷ (3 ∷ []) ∷ [] ∷ []
unfolding fields fields_to nth composite size sizes split_and split_first negated mark
nots = refl

-- Or gives both negations, also where one side gives nothing, and Or inside Or
ors : map denied (write Or (equal ++ equal) ∷ write Or (equal ++ a) ∷ write Or (a ++ equal) ∷ write Or (write Or (write Not a ++ b) ++ equal) ∷ [])
    ≡ (32771 ∷ 32782 ∷ []) ∷ (32771 ∷ []) ∷ (32775 ∷ []) ∷ (9 ∷ 32785 ∷ []) ∷ []
unfolding fields fields_to nth composite size sizes split_and split_first negated mark
ors = refl

-- each comparison is flipped, and And in it is left as it is
comparisons : map (λ t. map operator (negated 0 (front (write t (a ++ b))))) (Eq ∷ Ne ∷ Lt ∷ Gt ∷ Le ∷ Ge ∷ [])
    ≡ (Ne ∷ []) ∷ (Eq ∷ []) ∷ (Ge ∷ []) ∷ (Le ∷ []) ∷ (Gt ∷ []) ∷ (Lt ∷ []) ∷ []
unfolding fields fields_to nth composite split_first negated opposite operator
comparisons = refl

flipped-whole : map denied (write Eq (a ++ both) ∷ write Lt (both ++ b) ∷ []) ≡ (32768 ∷ []) ∷ (32768 ∷ []) ∷ []
unfolding fields fields_to nth composite size sizes split_first negated mark
flipped-whole = refl

-- others give nothing: And, a call, an identifier, a sum, a comparison or `not` inside a wrapper, and what is missing
nothing-given : flat_map (λ s. negated 0 (front s))
    (write And (equal ++ equal) ∷ write Call (a ++ equal) ∷ a ∷ write Add (a ++ b) ∷ write Negate equal ∷ write Checked equal ∷ write Wrapping (write Not equal) ∷ [] ∷ [])
    ≡ []
unfolding fields fields_to nth composite flat_map split_first negated
nothing-given = refl

-- An entry

-- a denial, a limit, a guard, a let and a guard: clauses in their order, then guards; And is split in a limit and in a guard
entry : List ℕ
entry =
    write Entry (name "f" ++ (write Denies equal ++ (write Limits both ++ (write Guard both ++ (write Let (name "x" ++ equal) ++ write Guard equal)))))

listed : marks (required_conditions (front entry)) ≡ 32778 ∷ 27 ∷ 31 ∷ 48 ∷ 52 ∷ 84 ∷ []
unfolding fields fields_to nth composite size sizes placed placed_from flat_map split_and split_first negated negated_first conditions_of required_conditions mark entry
listed = refl

operators : map operator (required_conditions (front entry)) ≡ Ne ∷ Identifier ∷ Eq ∷ Identifier ∷ Eq ∷ Eq ∷ []
unfolding fields fields_to nth composite size sizes placed placed_from flat_map split_and split_first negated negated_first conditions_of required_conditions opposite operator entry
operators = refl

-- the numbers read back
read : map (condition_at entry) (32778 ∷ 27 ∷ [])
    ≡ record { place = 10; flipped = true; this = front equal } ∷ record { place = 27; flipped = false; this = front a } ∷ []
unfolding fields fields_to nth composite condition_at entry
read = refl

-- guards come last, also where they stand first, and a clause or guard that is empty gives nothing
guard-first : marks (required_conditions (front (write Entry (write Guard a ++ (write Limits [] ++ (write Guard [] ++ write Limits a)))))) ≡ 19 ∷ 6 ∷ []
unfolding fields fields_to nth composite size sizes placed placed_from flat_map split_and split_first negated_first conditions_of required_conditions mark
guard-first = refl

-- no entry, no conditions
no-entry : required_conditions nothing ≡ []
unfolding placed placed_from flat_map required_conditions
no-entry = refl

-- Of one clause or guard that stands at 7: its expression is behind its head; a part that is cut off gives nothing
at_seven : map (λ s. marks (conditions_at s 7)) (write Limits both ∷ write Denies equal ∷ write Guard equal ∷ write Guard [] ∷ [] ∷ [])
    ≡ (13 ∷ 17 ∷ []) ∷ (32778 ∷ []) ∷ (10 ∷ []) ∷ [] ∷ [] ∷ []
unfolding fields fields_to nth composite size sizes split_and split_each split_first negated negated_first conditions_of mark conditions_at
at_seven = refl
