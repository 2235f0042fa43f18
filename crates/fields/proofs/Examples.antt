-- The definitions computed on examples: what is whole, what is cut, what nests, and where it stands.
use Rattle.std.proofs.Common.{ℕ, ◌≡◌, refl, List, [], ◌∷◌, ◌++◌, map}
use Rattle.tags.specs.Tag.{composite}
use Rattle.fields.specs.Field.{Field, fields, fields_to, nth, front, part, nothing, size, sizes, place_of, placed, encode, encodes}
use Rattle.fields.specs.Field.Field.{field}
use Rattle.fields.specs.Field.Fields.{end, next}

-- the identifier a, and a.amount
identifier : List ℕ
identifier = 0x33 ∷ 0 ∷ 1 ∷ 0x61 ∷ []

member : List ℕ
member = 0x3A ∷ 0 ∷ 13 ∷ identifier ++ (0x20 ∷ 0 ∷ 6 ∷ 0x61 ∷ 0x6D ∷ 0x6F ∷ 0x75 ∷ 0x6E ∷ 0x74 ∷ [])

name : Field
name = field 0x20 (0x61 ∷ 0x6D ∷ 0x6F ∷ 0x75 ∷ 0x6E ∷ 0x74 ∷ []) (end [])

nested : fields member ≡ next (field 0x3A [] (next (field 0x33 (0x61 ∷ []) (end [])) (next name (end [])))) (end [])
unfolding fields fields_to composite member identifier name
nested = refl

-- no bytes, and a head of one byte and of two
cut-heads : map fields ([] ∷ (0x33 ∷ []) ∷ (0x33 ∷ 0 ∷ []) ∷ []) ≡ end [] ∷ end (0x33 ∷ []) ∷ end (0x33 ∷ 0 ∷ []) ∷ []
unfolding fields fields_to
cut-heads = refl

-- a length that ends exactly with its encloser, and one past it
ends_with : front (0x3C ∷ 0 ∷ 4 ∷ identifier) ≡ field 0x3C [] (next (field 0x33 (0x61 ∷ []) (end [])) (end []))
unfolding fields fields_to nth composite identifier
ends_with = refl

ends-past : fields (0x3C ∷ 0 ∷ 4 ∷ 0x33 ∷ 0 ∷ 2 ∷ 0x61 ∷ []) ≡ next (field 0x3C [] (end (0x33 ∷ 0 ∷ 2 ∷ 0x61 ∷ []))) (end [])
unfolding fields fields_to composite
ends-past = refl

-- the length's more significant byte comes first
long : fields (0x33 ∷ 1 ∷ 0 ∷ []) ≡ end (0x33 ∷ 1 ∷ 0 ∷ [])
unfolding fields fields_to
long = refl

-- the parts of a.amount by number and place, and a part that is missing
parts-by-number : part 0 (front member) ∷ part 1 (front member) ∷ part 2 (front member) ∷ [] ≡ front identifier ∷ name ∷ nothing ∷ []
unfolding fields fields_to nth composite member identifier name
parts-by-number = refl

places : place_of 0 (fields member) ∷ place_of 1 (fields (identifier ++ member)) ∷ place_of 1 (fields (0x33 ∷ 0 ∷ [])) ∷ [] ≡ 0 ∷ 4 ∷ 2 ∷ []
unfolding fields fields_to place_of size sizes composite member identifier
places = refl

numbered : map (λ p. p.place) (placed 7 (fields (identifier ++ (member ++ identifier)))) ≡ 7 ∷ 11 ∷ 27 ∷ []
unfolding fields fields_to placed size sizes composite member identifier
numbered = refl

-- written again
written : encodes (fields (member ++ (0x33 ∷ 0 ∷ []))) ≡ member ++ (0x33 ∷ 0 ∷ [])
unfolding fields fields_to encode encodes size sizes composite member identifier
written = refl
