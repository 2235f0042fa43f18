-- The code's cases are the definition's.
use Rattle.std.proofs.Common.{◌≡◌, refl}
use Rattle.matching.specs.Matching as matching
use Rattle.matching.specs.Matching.Cover.{equal_debit, equal_parameter, bounding_debit, bounding_parameter, reserve}
use Rattle.matching.specs.Matching.Reason.{split_without_amount, conflict_at_equal, amount_taken, conflict_at_bounding, no_reserve, reserve_used}
use Rattle.matching.specs.Coded.{cover_of, reason_of, coded_cover, coded_reason}

-- a cover and a reason of the definition as the code's and back
pub cover-back : (c : matching.Cover) → cover_of (coded_cover c) ≡ c
cover-back (equal_debit i) = refl
cover-back (equal_parameter i) = refl
cover-back (bounding_debit i) = refl
cover-back (bounding_parameter i) = refl
cover-back (reserve i) = refl

pub reason-back : (r : matching.Reason) → reason_of (coded_reason r) ≡ r
reason-back split_without_amount = refl
reason-back conflict_at_equal = refl
reason-back amount_taken = refl
reason-back conflict_at_bounding = refl
reason-back no_reserve = refl
reason-back reserve_used = refl
