-- Which tags may stand where, and which parts are needed: the Model file as a table.
use Rattle.std.specs.Prelude.{ℕ, ◌+◌, ◌%◌, Bool, cond, ◌&&◌, ◌||◌, List, [], ◌∷◌, leb, eqb}
use Rattle.std.specs.Prelude.{Option, None, Some}
use Rattle.laws.specs.Lists.{all}
use Rattle.tags.specs.Tag.{Name, TypeName, Parameter, between, is_item, is_clause, is_statement, is_expression}

-- the classes of tags that a part may have
abbrev pub name : ℕ
name = 1

abbrev pub type_name : ℕ
type_name = 2

abbrev pub item : ℕ
item = 3

abbrev pub parameter : ℕ
parameter = 4

abbrev pub clause : ℕ
clause = 5

abbrev pub statement : ℕ
statement = 6

abbrev pub expression : ℕ
expression = 7

-- whether a tag is of a class
unfoldable pub in_class : ℕ → ℕ → Bool
in_class c t =
    eqb c name && eqb t Name
    || eqb c type_name && eqb t TypeName
    || eqb c item && is_item t
    || eqb c parameter && eqb t Parameter
    || eqb c clause && is_clause t
    || eqb c statement && is_statement t
    || eqb c expression && is_expression t

-- a slot is for one part of a class, for at most one, or for any count; as a number it is the class, and 16 or 32 more
abbrev pub one : ℕ → ℕ
one c = c

abbrev pub optional : ℕ → ℕ
optional c = 0x10 + c

abbrev pub many : ℕ → ℕ
many c = 0x20 + c

-- whether a part with tag t goes into a slot
abbrev pub takes : ℕ → ℕ → Bool
takes slot t = in_class (slot % 0x10) t

-- whether a slot needs no part
abbrev pub may_stay_empty : ℕ → Bool
may_stay_empty slot = leb 0x10 slot

-- whether a slot takes more parts
abbrev pub goes_on : ℕ → Bool
goes_on slot = leb 0x20 slot

-- the slots of the tags from `low` to `high`, in order
pub record Row : Type 0 where
  pub low : ℕ
  pub high : ℕ
  pub slots : List ℕ

-- a row
abbrev pub row : ℕ → ℕ → List ℕ → Row
row l h s = record { low = l; high = h; slots = s }

-- the Model file, a row for each tag with parts; 00 is the file itself
unfoldable pub grammar : List Row
grammar =
    row 0x00 0x00 (many item ∷ []) ∷
    row 0x01 0x01 (one name ∷ one type_name ∷ optional expression ∷ []) ∷
    row 0x02 0x02 (one statement ∷ []) ∷
    row 0x03 0x03 (one name ∷ many parameter ∷ many clause ∷ many statement ∷ []) ∷
    row 0x04 0x04 (one name ∷ one type_name ∷ []) ∷
    row 0x05 0x06 (one expression ∷ []) ∷
    row 0x10 0x10 (one expression ∷ []) ∷
    row 0x11 0x11 (one name ∷ one expression ∷ []) ∷
    row 0x12 0x12 (one name ∷ many expression ∷ []) ∷
    row 0x13 0x15 (one expression ∷ one expression ∷ []) ∷
    row 0x16 0x16 (one expression ∷ []) ∷
    row 0x38 0x39 (one expression ∷ []) ∷
    row 0x3A 0x3A (one expression ∷ one name ∷ []) ∷
    row 0x3B 0x3B (one expression ∷ many expression ∷ []) ∷
    row 0x3C 0x3D (one expression ∷ []) ∷
    row 0x40 0x4D (one expression ∷ one expression ∷ []) ∷ []

-- the slots of a tag, by the first row that has it; texts and empty fields have none
unfoldable pub slots_in : List Row → ℕ → List ℕ
slots_in [] t = []
slots_in (r ∷ rs) t = cond (between r.low r.high t) r.slots (slots_in rs t)

-- the slots of a field's parts
abbrev pub slots_of : ℕ → List ℕ
slots_of t = slots_in grammar t

-- the slots that are left behind a part with tag t, if it may stand here: it goes into the first slot that takes it, and
-- only slots that may stay empty are passed over
unfoldable pub advance : List ℕ → ℕ → Option (List ℕ)
advance [] t = None
advance (s ∷ ss) t =
    cond (takes s t) (Some (cond (goes_on s) (s ∷ ss) ss))
    (cond (may_stay_empty s) (advance ss t) None)

-- whether every needed part was there, with these slots left
unfoldable pub complete : List ℕ → Bool
complete slots = all may_stay_empty slots
