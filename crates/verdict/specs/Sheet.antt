-- The three bytes of a cover, as the code writes them.
use Rattle.std.specs.Prelude.{ℕ, ◌/◌, ◌%◌, List, [], ◌∷◌}
use Rattle.matching.specs.Matching.{Cover}
use Rattle.claim.specs.Verdict.{kind, index}

-- the kind, and the index in two bytes, most significant first; an index below 65,536 is kept whole
unfoldable pub cover_bytes : Cover → List ℕ
cover_bytes c = kind c ∷ index c / 256 % 256 ∷ index c % 256 ∷ []
