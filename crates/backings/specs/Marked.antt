-- What the marks of the code say of a number, and what they are at the start and after a cover.
use Rattle.std.specs.Prelude.{ℕ, ◌+◌, Bool, true, false, cond, not, List, ltb, get_or, take, set, replicate}
use Rattle.backings.specs.declared.marks.Marks.{Marks as Coded}

-- the mark of a number; past the last of 64 there is none
unfoldable pub mark_at : List Bool → ℕ → Bool
mark_at marks i = get_or marks i false

-- a backing is free where its mark is set, and taken where it is not
unfoldable pub free_at : Coded → ℕ → Bool
free_at m i = mark_at m.free i

unfoldable pub taken_at : Coded → ℕ → Bool
taken_at m i = not (free_at m i)

-- the marks of the start: 64 set, and no reserve used
unfoldable pub all_free : Coded
all_free = record { free = replicate 64 true; used = replicate 64 0; uses = 0 }

-- the marks without the free one of number i; past the last of 64 there is none to take away
unfoldable pub without : Coded → ℕ → Coded
without m i = record { free = set m.free i false; used = m.used; uses = m.uses }

-- how many reserves are used, and which
abbrev pub uses : Coded → ℕ
uses m = m.uses

abbrev pub used_of : Coded → List ℕ
used_of m = take m.uses m.used

-- the marks with one more reserve that is used; 64 find room
unfoldable pub with_used : Coded → ℕ → Coded
with_used m i = cond (ltb m.uses 64) (record { free = m.free; used = set m.used m.uses i; uses = m.uses + 1 }) m
