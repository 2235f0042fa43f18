-- What a verdict is, in the code's cases and in the paper's numbers.
use Rattle.std.specs.Prelude.{ℕ, ◌≡◌, ◌<◌, Result, MatchResult}
use Rattle.claim.specs.Verdict as rules
use Rattle.claim.specs.Verdict.Verdict.{refused, rejected, accepted}
use Rattle.verdict.specs.declared.numbers.Outcome.{Outcome}
use Rattle.verdict.specs.declared.numbers.UnknownOutcome.{UnknownOutcome}
use Rattle.verdict.specs.declared.numbers.Outcome.TheVariants.{Accepted, Rejected, Refused}

-- the number of each
abbrev pub outcome_number : Outcome → ℕ
outcome_number Accepted = 0
outcome_number Rejected = 1
outcome_number Refused = 2

-- what a verdict of the rules is
abbrev pub outcome_of : rules.Verdict → Outcome
outcome_of (accepted cs) = Accepted
outcome_of (rejected payout why) = Rejected
outcome_of (refused number place) = Refused

-- read is the outcome with this number, or the number is one that no outcome has
abbrev pub IsOutcome : (number : ℕ) (read : Result Outcome UnknownOutcome) → Type 0
IsOutcome number read = MatchResult read (λ outcome. outcome_number outcome ≡ number) (λ unknown. (unknown.0 ≡ number) × (2 < number))
