-- The lines as the code writes them, from the bytes of the records.
use Rattle.std.specs.Prelude.{ℕ, zero, suc, cond, eqb, drop}
use mathlib.Core.List.{List, [], ◌∷◌, ◌++◌, flat_map}
use Rattle.laws.specs.Texts.{bytes}
use Rattle.claim.specs.Claim.{kind_at, index_at}
use Rattle.contract.specs.Records.{below}
use Rattle.contract.specs.Reading.{outcome_in, first_in, second_in, size_of}
use Rattle.listing.specs.Decimal.{decimal}
use Rattle.listing.specs.Listing.{line, refusal_line, accepted_line, rejected_line}

-- the line of the k-th cover
unfoldable pub cover_line_at : List ℕ → ℕ → List ℕ
cover_line_at covers k = line (bytes "p") (decimal k ∷ decimal (kind_at covers k) ∷ decimal (index_at covers k) ∷ [])

-- the lines of the record in front, which is the n-th
unfoldable pub lines_of : ℕ → List ℕ → List ℕ
lines_of n s =
    cond (eqb (outcome_in s) 2) (refusal_line (first_in s) (second_in s))
    (cond (eqb (outcome_in s) 1) (rejected_line n (first_in s))
    (accepted_line n (first_in s) (second_in s) ++ flat_map (cover_line_at (drop 5 s)) (below (first_in s))))

-- the lines of the first records, counted from n
unfoldable pub text_of : (count n : ℕ) → List ℕ → List ℕ
text_of zero n s = []
text_of (suc count) n s = lines_of n s ++ text_of count (suc n) (drop (size_of s) s)
