-- The code's covers, reasons and answers, case by case.
use Rattle.std.specs.Prelude.{ℕ, ◌+◌, ◌-◌, ◌≡◌, cond, List, eqb, ltb, Result, Ok, Err}
use Rattle.laws.specs.Lists.{any}
use Rattle.fields.specs.Field.{Field, Fields, fields}
use Rattle.entries.specs.Entered.{entry_of}
use Rattle.entries.specs.declared.entry.Entry.{Entry}
use Rattle.backings.specs.Marked.{without, with_used, used_of}
use Rattle.backings.specs.declared.marks.Marks.{Marks as Coded}
use Rattle.backings.specs.declared.marks.Test.{Test}
use Rattle.backings.specs.declared.marks.Test.TheVariants.{Equals, Bounds}
use Rattle.matching.specs.Matching.{Backing, Marks, by_equal, not_taken, by_bounding, by_reserve, answer}
use Rattle.matching.specs.Matching as matching
use Rattle.matching.specs.Matching.Cover.{equal_debit, equal_parameter, bounding_debit, bounding_parameter, reserve}
use Rattle.matching.specs.Matching.Reason.{split_without_amount, conflict_at_equal, amount_taken, conflict_at_bounding, no_reserve, reserve_used}
use Rattle.matching.specs.Matching.Answer.{cover, rejection}
use Rattle.matching.specs.Standing.{backings_of, marks_of, Stands}
use Rattle.matching.specs.Prepared.{payout_at}
use Rattle.matching.specs.declared.payout.Payout.{Payout}
use Rattle.matching.specs.declared.answer.Cover.{Cover}
use Rattle.matching.specs.declared.answer.Cover.TheVariants.{EqualDebit, EqualParameter, BoundingDebit, BoundingParameter, Reserve}
use Rattle.matching.specs.declared.answer.Reason.{Reason}
use Rattle.matching.specs.declared.answer.Reason.TheVariants.{SplitWithoutAmount, ConflictAtEqual, AmountTaken, ConflictAtBounding, NoReserve, ReserveUsed}

-- the cover that one of the code is
abbrev pub cover_of : Cover → matching.Cover
cover_of (EqualDebit i) = equal_debit i
cover_of (EqualParameter i) = equal_parameter i
cover_of (BoundingDebit i) = bounding_debit i
cover_of (BoundingParameter i) = bounding_parameter i
cover_of (Reserve i) = reserve i

-- the reason
abbrev pub reason_of : Reason → matching.Reason
reason_of SplitWithoutAmount = split_without_amount
reason_of ConflictAtEqual = conflict_at_equal
reason_of AmountTaken = amount_taken
reason_of ConflictAtBounding = conflict_at_bounding
reason_of NoReserve = no_reserve
reason_of ReserveUsed = reserve_used

-- its number in the paper
abbrev pub reason_number : Reason → ℕ
reason_number SplitWithoutAmount = 1
reason_number ConflictAtEqual = 2
reason_number AmountTaken = 3
reason_number ConflictAtBounding = 4
reason_number NoReserve = 5
reason_number ReserveUsed = 6

-- the answer, with the marks after it
abbrev pub answer_of : Result Cover Reason → Marks → matching.Answer
answer_of (Ok c) after = cover (cover_of c) after
answer_of (Err r) after = rejection (reason_of r)

-- the other way round: the code's cover, reason and answer
abbrev pub coded_cover : matching.Cover → Cover
coded_cover (equal_debit i) = EqualDebit i
coded_cover (equal_parameter i) = EqualParameter i
coded_cover (bounding_debit i) = BoundingDebit i
coded_cover (bounding_parameter i) = BoundingParameter i
coded_cover (reserve i) = Reserve i

abbrev pub coded_reason : matching.Reason → Reason
coded_reason split_without_amount = SplitWithoutAmount
coded_reason conflict_at_equal = ConflictAtEqual
coded_reason amount_taken = AmountTaken
coded_reason conflict_at_bounding = ConflictAtBounding
coded_reason no_reserve = NoReserve
coded_reason reserve_used = ReserveUsed

unfoldable pub coded : matching.Answer → Result Cover Reason
coded (cover c after) = Ok (coded_cover c)
coded (rejection r) = Err (coded_reason r)

-- the marks after a cover: what it names is taken or used. `count` is the number of debits
unfoldable pub after_cover : Coded → ℕ → Cover → Coded
after_cover m count (EqualDebit i) = without m i
after_cover m count (EqualParameter i) = without m (count + i)
after_cover m count (BoundingDebit i) = without m i
after_cover m count (BoundingParameter i) = without m (count + i)
after_cover m count (Reserve i) = with_used m i

-- the cover by backing number i, which equals the amount
unfoldable pub equal_at : (count i : ℕ) → Cover
equal_at count i = cond (ltb i count) (EqualDebit i) (EqualParameter (i - count))

-- or bounds it
unfoldable pub bounding_at : (count i : ℕ) → Cover
bounding_at count i = cond (ltb i count) (BoundingDebit i) (BoundingParameter (i - count))

-- by the test that it passes
abbrev pub cover_at : Test → (count i : ℕ) → Cover
cover_at Equals = equal_at
cover_at Bounds = bounding_at

-- why a payout is rejected whose token and that of such a backing conflict
abbrev pub conflict_at : Test → Reason
conflict_at Equals = ConflictAtEqual
conflict_at Bounds = ConflictAtBounding

-- the step of the definition by which such a backing decides, and the one that follows where there is none
abbrev pub step_by : Test → Fields → Field → Marks → Field → matching.Answer
step_by Equals = by_equal
step_by Bounds = by_bounding

abbrev pub next_step : Test → Fields → Field → Marks → Field → matching.Answer
next_step Equals = not_taken
next_step Bounds = by_reserve

-- the answer by the reserve at an index, which may be used
unfoldable pub reserve_at : Coded → ℕ → Result Cover Reason
reserve_at m i = cond (any (eqb i) (used_of m)) (Err ReserveUsed) (Ok (Reserve i))

-- a step of the definition, for the k-th payout of an entry and the marks that the code's stand for
abbrev pub at_payout : (Fields → Field → Marks → Field → matching.Answer) → List ℕ → Entry → Coded → ℕ → matching.Answer
at_payout step file e m k = step (fields file) (entry_of file e.place) (marks_of (backings_of file e.place) m) (payout_at file e k)

-- the code's answer by such a step, for a payout
abbrev pub answered : (Fields → Field → Marks → Field → matching.Answer) → List ℕ → Payout → Coded → Result Cover Reason
answered step file p m = coded (at_payout step file p.entry.now m p.k)

-- the code's answer, and its marks after it, are those that the definition gives for a payout, whatever the order in which its
-- marks stand
pub record Answers (model : Fields) (entry : Field) (bs : List Backing) (s : Marks) (p : Field) (r : Result Cover Reason) (left : Coded) : Type 0 where
  pub after : Marks
  pub same : answer model entry s p ≡ answer_of r after
  pub stands : Stands bs left after

-- for all marks that the code's stand for
abbrev pub AnswersFor : List ℕ → Entry → Coded → ℕ → Result Cover Reason → Coded → Type 0
AnswersFor file e m k r left =
    (before : Marks) → Stands (backings_of file e.place) m before →
    Answers (fields file) (entry_of file e.place) (backings_of file e.place) before (payout_at file e k) r left
