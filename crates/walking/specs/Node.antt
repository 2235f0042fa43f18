-- What the code asks of a node: where its content ends, if it has a tag.
use Rattle.std.specs.Prelude.{ℕ, ◌+◌, cond, ◌&&◌, List, eqb, Option, Some, None}
use Rattle.fields.specs.Field.{tag_of, length_of, whole}

abbrev pub node_of : List ℕ → ℕ → Option ℕ
node_of s t = cond (whole s && eqb (tag_of s) t) (Some (3 + length_of s)) None
