-- A field that was found, without its place.
use Rattle.std.specs.Prelude.{Option, None, Some}
use Rattle.fields.specs.Field.{Field, front, nothing}
use Rattle.fields.specs.declared.field.Field.{Field as Found}

-- the field that was found, without its place
abbrev pub this_of : Found → Field
this_of p = front p.part.now

-- or nothing, where none was found
abbrev pub or_nothing : Option Found → Field
or_nothing None = nothing
or_nothing (Some p) = this_of p
