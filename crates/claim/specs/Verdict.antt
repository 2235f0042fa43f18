-- The verdict on an entry, and what is written.
use Rattle.std.specs.Prelude.{ℕ, suc, ◌+◌, ◌-◌, ◌*◌, ◌/◌, ◌%◌, List, [], ◌∷◌, ◌++◌, leb, ltb, length, get_or, drop}
use Rattle.laws.specs.Lists.{filter}
use Rattle.fields.specs.Field.{Field, Fields, Placed, fields, nothing}
use Rattle.model.specs.Model.{entries}
use Rattle.questions.specs.Questions.{Asked, passes, fails, ask, ◌and_then◌, at_most, ask_file}
use Rattle.walking.specs.Walking.{body_exprs, is_payout, debits, asset_params, payouts}
use Rattle.matching.specs.Matching.{Cover, Reason, Marks, cover, rejection, answer, start}
use Rattle.matching.specs.Matching.Cover.{equal_debit, equal_parameter, bounding_debit, bounding_parameter, reserve}
use Rattle.matching.specs.Matching.Reason.{split_without_amount, conflict_at_equal, amount_taken, conflict_at_bounding, no_reserve, reserve_used}

-- a "no" to a question; a payout that nothing covers, and why; or a cover for each payout
pub data Verdict : Type 0 where
  refused : (number place : ℕ) → Verdict
  rejected : (payout : ℕ) → Reason → Verdict
  accepted : List Cover → Verdict

-- a cover in front of those of the later payouts
abbrev pub with_cover : Cover → Verdict → Verdict
with_cover c (refused n p) = refused n p
with_cover c (rejected n r) = rejected n r
with_cover c (accepted cs) = accepted (c ∷ cs)

-- the payouts in order, counted from n
unfoldable pub match_from : Fields → Field → Marks → ℕ → List Field → Verdict
match_from model entry s n [] = accepted []
match_from model entry s n (p ∷ ps) =
    elim (answer model entry s p) [
      | rejection r ↦ rejected n r
      | cover c after ↦ with_cover c (match_from model entry after (suc n) ps)
    ]

-- all payouts of an entry
unfoldable pub matching : Fields → Field → Verdict
matching model entry = match_from model entry (start model entry) 0 (payouts entry)

-- how many backings the entry has
unfoldable pub backing_count : Field → ℕ
backing_count entry = length (debits entry) + length (asset_params entry)

-- the entry with a number, counted from 0
abbrev pub entry_at : Fields → ℕ → Placed
entry_at model n = get_or (entries model) n (record { place = 0; this = nothing })

-- question 9: does entry n exist?
abbrev pub ask_exists : Fields → ℕ → Asked
ask_exists model n = ask (ltb n (length (entries model))) 9 0

-- questions 9 to 12, about the entry asked about and the length of the lent covers
unfoldable pub ask_entry : Fields → ℕ → ℕ → Asked
ask_entry model n lent =
    let e = entry_at model n in
    ask_exists model n
    and_then at_most 64 10 (filter (λ p. is_payout p.this) (body_exprs e))
    and_then ask (leb (backing_count e.this) 64) 11 e.place
    and_then ask (leb (3 * length (payouts e.this)) lent) 12 0

-- the verdict on entry n of a file that passes questions 1 to 8
unfoldable pub entry_verdict : Fields → ℕ → ℕ → Verdict
entry_verdict model n lent =
    elim (ask_entry model n lent) [
      | fails k p ↦ refused k p
      | passes ↦ matching model (entry_at model n).this
    ]

-- the verdict on entry n of any file
unfoldable pub verdict : List ℕ → ℕ → ℕ → Verdict
verdict file n lent =
    elim (ask_file file) [
      | fails k p ↦ refused k p
      | passes ↦ entry_verdict (fields file) n lent
    ]

-- the kinds of covers, in the paper's numbers
unfoldable pub kind : Cover → ℕ
kind (equal_debit i) = 1
kind (equal_parameter i) = 2
kind (bounding_debit i) = 3
kind (bounding_parameter i) = 4
kind (reserve i) = 5

-- the index of a cover
unfoldable pub index : Cover → ℕ
index (equal_debit i) = i
index (equal_parameter i) = i
index (bounding_debit i) = i
index (bounding_parameter i) = i
index (reserve i) = i

-- the reasons of a rejection, in the paper's numbers
unfoldable pub reason : Reason → ℕ
reason split_without_amount = 1
reason conflict_at_equal = 2
reason amount_taken = 3
reason conflict_at_bounding = 4
reason no_reserve = 5
reason reserve_used = 6

-- three bytes a payout: the kind, and the index, most significant byte first
unfoldable pub sheet : List Cover → List ℕ
sheet [] = []
sheet (c ∷ cs) = kind c ∷ index c / 256 ∷ index c % 256 ∷ sheet cs

-- what the lent covers hold afterwards: only an accepted entry's covers are written, the rest is untouched
unfoldable pub written : Verdict → List ℕ → List ℕ
written (refused n p) before = before
written (rejected n r) before = before
written (accepted cs) before = sheet cs ++ drop (3 * length cs) before

-- backings minus payouts, or 0
unfoldable pub spare : Field → ℕ
spare entry = backing_count entry - length (payouts entry)

-- A verdict in the paper's number and values: what it is, 0 accepted, 1 rejected, 2 refused
unfoldable pub outcome : Verdict → ℕ
outcome (accepted cs) = 0
outcome (rejected payout r) = 1
outcome (refused number place) = 2

-- its first number: how many payouts there are, the payout that has no cover, or the question that said no
unfoldable pub first_of : Verdict → ℕ
first_of (accepted cs) = length cs
first_of (rejected payout r) = payout
first_of (refused number place) = number

-- its second, of a verdict on an entry: how many backings it has to spare, the reason, or the place
unfoldable pub second_of : Field → Verdict → ℕ
second_of entry (accepted cs) = spare entry
second_of entry (rejected payout r) = reason r
second_of entry (refused number place) = place
