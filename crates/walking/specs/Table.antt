-- What a table of places holds after a walk.
use Rattle.std.specs.Prelude.{ℕ, ◌%◌, List, map, eqb, drop}
use Rattle.laws.specs.Lists.{filter}
use Rattle.fields.specs.Field.{Placed, front, tag}

-- how many fields a file that passes question 1 has at most: 32,768 bytes by three, which a field takes at least
abbrev pub most_fields : ℕ
most_fields = 10923

-- the field that a file has at a place
abbrev pub placed_at : List ℕ → ℕ → Placed
placed_at file n = record { place = n; this = front (drop n file) }

-- those of one tag
abbrev pub of_tag : ℕ → List Placed → List Placed
of_tag t ps = filter (λ p. eqb (tag p.this) t) ps

-- their places, as the table's two bytes hold them: up to 65,535 that is the place itself (proofs/Callers.antt)
abbrev pub places_of : ℕ → List Placed → List ℕ
places_of t ps = map (λ p. p.place % 65536) (of_tag t ps)
