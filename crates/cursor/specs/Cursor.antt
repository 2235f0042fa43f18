-- What each reading step finds at a place of s, with the cursor behind what was read.
use Rattle.std.specs.Prelude.{ℕ, ◌+◌, cond, List, leb, length, drop}
use Rattle.fields.specs.Field.{tag_of, length_of, whole}
use Rattle.cursor.specs.declared.Cursor.{Cursor}
use Rattle.cursor.specs.declared.Head.{Head}
use Rattle.cursor.specs.declared.Head.TheVariants as head
use Rattle.cursor.specs.declared.Text.{Text}
use Rattle.cursor.specs.declared.Text.TheVariants as text
use Rattle.cursor.specs.declared.Part.{Part}
use Rattle.cursor.specs.declared.Part.TheVariants as part

-- a cursor at a place
abbrev pub cursor_at : ℕ → Cursor
cursor_at at = record { at = at }

-- a head: three bytes, the tag and the length
abbrev pub head_at : List ℕ → ℕ → Head
head_at s at =
    cond (leb 3 (length (drop at s)))
    (head.Found (tag_of (drop at s)) (length_of (drop at s)) (cursor_at (at + 3)))
    (cond (leb 1 (length (drop at s))) head.Cut head.End)

-- a text of n bytes
abbrev pub text_at : List ℕ → ℕ → ℕ → Text
text_at s at n = cond (leb n (length (drop at s))) (text.Found at (at + n) (cursor_at (at + n))) text.Cut

-- a whole field: its content stands from `start` up to `end`
abbrev pub part_at : List ℕ → ℕ → Part
part_at s at =
    cond (whole (drop at s))
    (part.Found (tag_of (drop at s)) (at + 3) (at + 3 + length_of (drop at s)) (cursor_at (at + 3 + length_of (drop at s))))
    (cond (leb 1 (length (drop at s))) part.Cut part.End)
