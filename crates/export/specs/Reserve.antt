-- The answer about the state field that covers a payout by itself, as numbers for a caller in C.
use Rattle.std.specs.Prelude.{ℕ}
use Rattle.payout_reserve.specs.Answer.{ReserveAnswer}
use Rattle.payout_reserve.specs.Answer.ReserveAnswer.{refused, covered, uncovered}

-- what it is: 0 a state field covers the payout, 1 none does, 2 refused
abbrev pub reserve_outcome : ReserveAnswer → ℕ
reserve_outcome (covered number) = 0
reserve_outcome uncovered = 1
reserve_outcome (refused number place) = 2

-- the first number: that of the field among the state fields, counted from 0; 65,535 for none, since no file has as many; or
-- the question that said no
abbrev pub reserve_first : ReserveAnswer → ℕ
reserve_first (covered number) = number
reserve_first uncovered = 65535
reserve_first (refused number place) = number

-- the second: the place of the "no", and otherwise 0
abbrev pub reserve_second : ReserveAnswer → ℕ
reserve_second (covered number) = 0
reserve_second uncovered = 0
reserve_second (refused number place) = place
