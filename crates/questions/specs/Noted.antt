-- Names noted in a table, by numbers made of their bytes: a name whose number the table does not show was not noted.
use Rattle.std.specs.Prelude.{ℕ, ◌+◌, ◌/◌, ◌%◌, Bool, cond, ◌&&◌, ◌||◌, List, eqb, length, get_or, set}
use Rattle.tags.specs.Tag.{State}
use Rattle.fields.specs.Field.{tag_of, front}
use Rattle.fields.specs.Number.{text_number}
use Rattle.model.specs.Model.{name_of}

-- the place of a number in a table
abbrev pub table_place : List ℕ → ℕ → ℕ
table_place table n = n / 262144 % length table

-- what is noted of a number at its place
abbrev pub note_of : ℕ → ℕ
note_of n = n / 2048 % 128 + 1

-- what a place holds after one more note: 0 is no note yet, and 255 stands where notes differ
unfoldable pub joined_note : ℕ → ℕ → ℕ
joined_note held note = cond (eqb held 0 || eqb held note) note 255

-- what a table holds at the place of a number; a table without room holds 255 everywhere
unfoldable pub held_at : List ℕ → ℕ → ℕ
held_at table n = get_or table (table_place table n) 255

-- whether a table shows a number: its own note, or one that stands for all
unfoldable pub shows : List ℕ → ℕ → Bool
shows table n = eqb (held_at table n) (note_of n) || eqb (held_at table n) 255

-- the table with one more number
unfoldable pub with_number : List ℕ → ℕ → List ℕ
with_number table n = set table (table_place table n) (joined_note (held_at table n) (note_of n))

-- whether a table shows the name of the field at the front of s, which is a state field, by its number in a base
abbrev pub shows_front : (base : ℕ) → (s table : List ℕ) → Bool
shows_front base s table = eqb (tag_of s) State && shows table (text_number base (name_of (front s)))

-- the table with the name of the field at the front of s, if it is a state field
abbrev pub with_front : (base : ℕ) → (s table : List ℕ) → List ℕ
with_front base s table = cond (eqb (tag_of s) State) (with_number table (text_number base (name_of (front s)))) table
