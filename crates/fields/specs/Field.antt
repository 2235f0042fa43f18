-- The model file as a tree of fields. A field is a one-byte tag, a two-byte length (most significant byte first) and
-- that many content bytes. Reading never refuses and loses nothing: what is no whole field stays where it stands.
use Rattle.std.specs.Prelude.{ℕ, zero, suc, ◌+◌, ◌*◌, ◌/◌, ◌%◌, Bool, true, false, cond, List, [], ◌∷◌, ◌++◌, length, get_or, take, drop, leb}
use Rattle.laws.specs.Lists.{filter}
use Rattle.tags.specs.Tag.{between, composite}

-- a field has a tag, and a text or parts; `rest` is what stands behind the last whole field
mutual
  pub data Field : Type 0 where
    field : (tag : ℕ) → (text : List ℕ) → (parts : Fields) → Field

  pub data Fields : Type 0 where
    end : (rest : List ℕ) → Fields
    next : Field → Fields → Fields

-- Reading

-- the tag of the field at the front of s
abbrev pub tag_of : List ℕ → ℕ
tag_of s = get_or s 0 0

-- the length of its content
abbrev pub length_of : List ℕ → ℕ
length_of s = get_or s 1 0 * 256 + get_or s 2 0

-- whether its head and content are all there
abbrev pub whole : List ℕ → Bool
whole s = leb (3 + length_of s) (length s)

-- its content
abbrev pub content : List ℕ → List ℕ
content s = take (length_of s) (drop 3 s)

-- what stands behind it
abbrev pub after : List ℕ → List ℕ
after s = drop (3 + length_of s) s

-- the fields of s, at most n in a row and n deep
unfoldable pub fields_to : ℕ → List ℕ → Fields
fields_to zero s = end s
fields_to (suc n) s =
    elim (whole s) [
      | false ↦ end s
      | true ↦ next (elim (composite (tag_of s)) [
        | true ↦ field (tag_of s) [] (fields_to n (content s))
        | false ↦ field (tag_of s) (content s) (end [])
      ])
          (fields_to n (after s))
    ]

-- the fields of s
unfoldable pub fields : List ℕ → Fields
fields s = fields_to (length s) s

-- the field with a tag and a content
abbrev pub field_with : ℕ → List ℕ → Field
field_with t x = cond (composite t) (field t [] (fields x)) (field t x (end []))

-- Parts

-- a field's tag, text and parts
abbrev pub tag : Field → ℕ
tag (field t x ps) = t

abbrev pub text : Field → List ℕ
text (field t x ps) = x

abbrev pub parts : Field → Fields
parts (field t x ps) = ps

-- a part that is missing: it has no tag and equals nothing
abbrev pub nothing : Field
nothing = field 0 [] (end [])

-- the n-th of the fields, counted from 0
unfoldable pub nth : ℕ → Fields → Field
nth n (end r) = nothing
nth zero (next f fs) = f
nth (suc n) (next f fs) = nth n fs

-- the n-th part of a field
abbrev pub part : ℕ → Field → Field
part n f = nth n (parts f)

-- the field at the front of s
abbrev pub front : List ℕ → Field
front s = nth 0 (fields s)

-- Sizes and places

-- how many bytes a field takes in the file
unfoldable mutual
  pub size : Field → ℕ
  size (field t x ps) = 3 + (length x + sizes ps)

  pub sizes : Fields → ℕ
  sizes (end r) = length r
  sizes (next f fs) = size f + sizes fs

-- how many bytes stand before the n-th field; all, where there are no n fields
unfoldable pub place_of : ℕ → Fields → ℕ
place_of zero fs = 0
place_of (suc n) (end r) = length r
place_of (suc n) (next f fs) = size f + place_of n fs

-- the fields in a row
unfoldable pub row : Fields → List Field
row (end r) = []
row (next f fs) = f ∷ row fs

-- those whose tags are from `low` to `high`
unfoldable pub fields_from : (low high : ℕ) → Fields → List Field
fields_from low high fs = filter (λ f. between low high (tag f)) (row fs)

-- a field with the offset of its tag byte
pub record Placed : Type 0 where
  pub place : ℕ
  pub this : Field

-- the fields in a row, the first at a place
unfoldable pub placed : ℕ → Fields → List Placed
placed n (end r) = []
placed n (next f fs) = record { place = n; this = f } ∷ placed (n + size f) fs

-- those whose tags are from `low` to `high`, with their places
unfoldable pub placed_from : (low high : ℕ) → ℕ → Fields → List Placed
placed_from low high n fs = filter (λ p. between low high (tag p.this)) (placed n fs)

-- a field's parts with their places
abbrev pub placed_parts : Placed → List Placed
placed_parts p = placed (p.place + 3) (parts p.this)

-- Writing

unfoldable mutual
  -- the bytes of a field: its tag, the length of its content in two bytes, its content
  pub encode : Field → List ℕ
  encode (field t x ps) =
      t ∷ (length x + sizes ps) / 256 ∷ (length x + sizes ps) % 256 ∷ (x ++ encodes ps)

  -- the bytes of fields in a row
  pub encodes : Fields → List ℕ
  encodes (end r) = r
  encodes (next f fs) = encode f ++ encodes fs
