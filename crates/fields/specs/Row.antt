-- The fields of a part of the file in a row, as the code goes through them: each with its place, as the part that starts with it.
use Rattle.std.specs.Prelude.{ℕ, ◌+◌, ◌≡◌, true, false, List, Option, Some, None, length}
use Rattle.fields.specs.Field.{Placed, fields, placed, length_of, whole, after, front}
use Rattle.fields.specs.declared.field.Fields.{Fields}
use Rattle.fields.specs.declared.field.Field.{Field as Found}

-- a field that was found, as the rules see it
abbrev pub shown : Found → Placed
shown p = record { place = p.place; this = front p.part.now }

-- those that are left
abbrev pub left : Fields → List Placed
left s = placed s.place (fields s.rest.now)

-- where the part ends that starts with a field, and where a row ends
abbrev pub reach : Found → ℕ
reach p = p.place + length p.part.now

abbrev pub end_of : Fields → ℕ
end_of s = s.place + length s.rest.now

-- a step to the field in front, with what is left behind it
pub record Step (s : Fields) (p : Found) (t : Fields) : Type 0 where
  pub there : whole s.rest.now ≡ true
  pub place : p.place ≡ s.place
  pub part : p.part.now ≡ s.rest.now
  pub behind : t.place ≡ s.place + (3 + length_of s.rest.now)
  pub rest : t.rest.now ≡ after s.rest.now

-- what a step gives: nothing where no whole field stands in front
abbrev pub Steps : Fields → Option Found → Fields → Type 0
Steps s None t = whole s.rest.now ≡ false
Steps s (Some p) t = Step s p t
