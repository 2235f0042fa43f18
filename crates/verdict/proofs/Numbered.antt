-- The numbers that the code has for its cases are those of the rules.
use Rattle.std.proofs.Common.{◌≡◌, refl}
use Rattle.matching.specs.Coded.{reason_of, reason_number}
use Rattle.matching.specs.declared.answer.Reason.{Reason}
use Rattle.matching.specs.declared.answer.Reason.TheVariants.{SplitWithoutAmount, ConflictAtEqual, AmountTaken, ConflictAtBounding, NoReserve, ReserveUsed}
use Rattle.claim.specs.Verdict.{Verdict, refused, rejected, accepted, reason, outcome}
use Rattle.verdict.specs.Outcomes.{outcome_number, outcome_of}

pub reason_told : (why : Reason) → reason_number why ≡ reason (reason_of why)
unfolding reason
reason_told SplitWithoutAmount = refl
reason_told ConflictAtEqual = refl
reason_told AmountTaken = refl
reason_told ConflictAtBounding = refl
reason_told NoReserve = refl
reason_told ReserveUsed = refl

pub outcome-told : (v : Verdict) → outcome_number (outcome_of v) ≡ outcome v
unfolding outcome
outcome-told (accepted cs) = refl
outcome-told (rejected payout why) = refl
outcome-told (refused number place) = refl
