-- Where in the file a token stands that is found: its first byte is the first of an identifier's text. The token itself is in
-- Tokens.antt; here only its place.
use Rattle.std.specs.Prelude.{ℕ, ◌+◌, ◌-◌, cond, List, eqb, length, drop}
use Rattle.tags.specs.Tag.{InAsset}
use Rattle.fields.specs.Field.{Field, tag, front, parts, part, place_of}
use Rattle.walking.specs.Walking.{peel, peel_place}

-- the identifier beside in-asset, in an expression at n; `last` is the end of the file
unfoldable pub beside_place : (last n : ℕ) → Field → ℕ
beside_place last n e =
    cond (eqb (tag (peel (part 0 e))) InAsset) (peel_place last (n + 3 + place_of 1 (parts e)) (part 1 e)) (peel_place last (n + 3) (part 0 e))

-- the token of a set, by the set's number: behind the head of the identifier, in the comparison that names it
unfoldable pub token_place : List ℕ → ℕ → ℕ
token_place file k = beside_place (length file) (k - 2) (front (drop (k - 2) file)) + 3
