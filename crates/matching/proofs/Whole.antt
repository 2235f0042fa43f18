-- The answer for a payout, with the marks after it: each way that the definition goes, the code's answer is the same with the
-- marks in any order, and the marks that the code hands back stand for the definition's.
use Rattle.std.proofs.Common.{ℕ, ◌+◌, ◌-◌, ◌≤◌, ◌<◌, ◌≡◌, refl, sym, ap, ◌∙◌, Bool, true, false, List, arith, ltb-false, eqb, ltb}
use Rattle.std.proofs.Common.{Option}
use mathlib.Core.Bool.{false≢true}
use Rattle.std.proofs.Common.{None, Some}
use Rattle.laws.specs.Lists.{any, find, position}
use Rattle.laws.specs.Texts.{same_bytes}
use Rattle.fields.specs.Field.{Field, Fields, fields}
use Rattle.model.specs.Model.{state_names}
use Rattle.walking.specs.Walking.{peel, present}
use Rattle.tokens.specs.Tokens.{differ}
use Rattle.guards.specs.Payouts.{payout_token, payout_amount}
use Rattle.reserves.specs.Reserves.{reserve_bounding_payout}
use Rattle.entries.specs.declared.entry.Entry.{Entry}
use Rattle.backings.specs.Marked.{uses, without, with_used}
use Rattle.entries.specs.Entered.{Entered, entry_of}
use Rattle.backings.specs.Tables.{equal_to, asked_by, first_free}
use Rattle.backings.specs.declared.marks.Test.{Test}
use Rattle.backings.specs.declared.marks.Test.TheVariants.{Equals, Bounds}
use Rattle.backings.specs.declared.marks.Marks.{Marks as Coded}
use Rattle.matching.specs.Matching.{Backing, Marks, equals, bounds, equal_cover, bounding_cover, take_backing, take_reserve, by_reserve, by_bounding, not_taken, by_equal, answer}
use Rattle.matching.specs.Matching as matching
use Rattle.matching.specs.Matching.Cover.{equal_debit, equal_parameter, bounding_debit, bounding_parameter, reserve}
use Rattle.matching.specs.Matching.Reason.{split_without_amount, conflict_at_equal, amount_taken, conflict_at_bounding, no_reserve, reserve_used}
use Rattle.matching.specs.Matching.Answer.{cover, rejection}
use Rattle.matching.specs.Standing.{marks_of, Stands, backings_of, backing_at}
use Rattle.matching.specs.Prepared.{Ready, payout_at}
use Rattle.matching.specs.Coded.{coded_cover, coded_reason, coded, after_cover, answered, equal_at, bounding_at, cover_at, step_by, next_step, Answers, AnswersFor}
use Rattle.matching.specs.declared.answer.Cover.TheVariants.{EqualDebit, EqualParameter, BoundingDebit, BoundingParameter, Reserve}
use Rattle.matching.specs.declared.answer.Cover.{Cover}
use Rattle.matching.specs.declared.answer.Reason.{Reason}
use Rattle.std.specs.Prelude.{Result, Ok, Err}
use Rattle.matching.specs.declared.answer.Pass.{Pass}
use Rattle.matching.specs.declared.payout.Payout.{Payout}
use Rattle.matching.proofs.Steps.{passes, cover_by, conflict_by, split_step, answer-step, taken_step, untaken-step, backing-step, no-backing-step, reserve-step, no-reserve-step, conflict-step}
use Rattle.matching.proofs.Steps.{take_step, used_step, unused-step}
use Rattle.matching.proofs.Found.{free-some, free-none}
use Rattle.matching.proofs.Answering.{cover-coded, passes-amount}
use Rattle.matching.proofs.Covering.{cover-back, reason-back}
use Rattle.matching.proofs.Kept.{backing-taken, reserve-taken}

-- a cover by backing number i takes that one
module _ (m : Coded) (count i : ℕ) where
  behind : count ≤ i → count + (i - count) ≡ i
  behind h = omega arith

  equal-takes : after_cover m count (equal_at count i) ≡ without m i
  unfolding after_cover equal_at
  equal-takes = go (ltb i count) refl
    where
      go : (b : Bool) → ltb i count ≡ b → after_cover m count (equal_at count i) ≡ without m i
      go true e = rw e
      go false e = rw (e, behind (ltb-false i count e))

  bounding-takes : after_cover m count (bounding_at count i) ≡ without m i
  unfolding after_cover bounding_at
  bounding-takes = go (ltb i count) refl
    where
      go : (b : Bool) → ltb i count ≡ b → after_cover m count (bounding_at count i) ≡ without m i
      go true e = rw e
      go false e = rw (e, behind (ltb-false i count e))

  cover-takes : (t : Test) → after_cover m count (cover_at t count i) ≡ without m i
  cover-takes Equals = equal-takes
  cover-takes Bounds = bounding-takes

-- the marks after a cover stand for those of the definition
abbrev Good : List Backing → Coded → ℕ → matching.Answer → Type 0
Good bs m count (cover c after) = Stands bs (after_cover m count (coded_cover c)) after
Good bs m count (rejection r) = Unit {0}

module _ (file : List ℕ) (en : Entry) (entered : Entered file en) (m : Coded) (room : uses m < 64)
    (s : Marks) (v : Stands (backings_of file en.place) m s) (p : Field) where
  abbrev model : Fields
  model = fields file

  abbrev entry : Field
  entry = entry_of file en.place

  abbrev bs : List Backing
  bs = backings_of file en.place

  abbrev marks : Marks
  marks = marks_of (backings_of file en.place) m

  -- an answer with the pass's marks, and one with the marks that the code's stand for: the same, with good marks
  record Fits (a b : matching.Answer) : Type 0 where
    same : coded a ≡ coded b
    good : Good bs m en.debits a

  -- a backing is taken
  module _ (test : Field → Bool) (tests : Backing → Bool) (agree : (b : Backing) → tests b ≡ test b.amount) (i : ℕ)
      (f : first_free file en m test ≡ Some i)
      (c : matching.Cover) (k : after_cover m en.debits (coded_cover c) ≡ without m i) (r : matching.Reason) where
    abbrev taken : Backing
    taken = backing_at file en i

    fits-take : Fits (take_backing s p tests taken c r) (take_backing marks p tests taken c r)
    unfolding coded
    fits-take = go (differ taken.token (payout_token p)) refl
      where
        go : (d : Bool) → differ taken.token (payout_token p) ≡ d → Fits (take_backing s p tests taken c r) (take_backing marks p tests taken c r)
        go true e =
            rw (conflict-step s p tests taken c r e, conflict-step marks p tests taken c r e) (record { same = refl; good = tt })
        go false e =
            rw (take_step s p tests taken c r e, take_step marks p tests taken c r e)
            (record { same = refl; good = rw k (backing-taken file en entered m s v test tests agree i f) })

  -- a reserve is used
  fits-use : (i : ℕ) → Fits (take_reserve s i) (take_reserve marks i)
  unfolding coded marks_of after_cover
  fits-use i = go (any (eqb i) s.used) refl
    where
      go : (d : Bool) → any (eqb i) s.used ≡ d → Fits (take_reserve s i) (take_reserve marks i)
      go true e = rw (used_step s i e, used_step marks i (rw v.used at e)) (record { same = refl; good = tt })
      go false e =
          rw (unused-step s i e, unused-step marks i (rw v.used at e))
          (record { same = refl; good = reserve-taken file en entered m s v i room })

  fits-reserve : Fits (by_reserve model entry s p) (by_reserve model entry marks p)
  unfolding coded
  fits-reserve = go (reserve_bounding_payout model entry (peel (payout_amount p)) (payout_token p)) refl
    where
      go : (o : Option (List ℕ)) → reserve_bounding_payout model entry (peel (payout_amount p)) (payout_token p) ≡ o → Fits (by_reserve model entry s p) (by_reserve model entry marks p)
      go None e = rw (no-reserve-step model entry s p e, no-reserve-step model entry marks p e) (record { same = refl; good = tt })
      go (Some r) e = rw (reserve-step model entry s p r e, reserve-step model entry marks p r e) (fits-use (position (same_bytes r) (state_names model)))

  -- the first free backing that passes a test, or the rest
  fits-backing : (t : Test) → Fits (next_step t model entry s p) (next_step t model entry marks p) → Fits (step_by t model entry s p) (step_by t model entry marks p)
  unfolding marks_of
  fits-backing t rest = go (first_free file en m (asked_by t (payout_amount p))) refl
    where
      go : (o : Option ℕ) → first_free file en m (asked_by t (payout_amount p)) ≡ o → Fits (step_by t model entry s p) (step_by t model entry marks p)
      go (Some i) e =
          let z = free-some file en entered m (asked_by t (payout_amount p)) (passes t p) (passes-amount t p) i e in
          rw (
            backing-step model entry s p t (backing_at file en i) (ap (find (passes t p)) v.free ∙ z),
            backing-step model entry marks p t (backing_at file en i) z,
          ) (fits-take (asked_by t (payout_amount p)) (passes t p) (passes-amount t p) i e (cover_by t (backing_at file en i))
          (ap (after_cover m en.debits) (cover-coded file en i t) ∙ cover-takes m en.debits i t) (conflict_by t))
      go None e =
          let z = free-none file en entered m (asked_by t (payout_amount p)) (passes t p) (passes-amount t p) e in
          rw (no-backing-step model entry s p t (ap (find (passes t p)) v.free ∙ z), no-backing-step model entry marks p t z) rest

  -- no taken backing may equal it
  fits-taken : Fits (not_taken model entry s p) (not_taken model entry marks p)
  unfolding coded
  fits-taken = go (any (equal_to (payout_amount p)) s.taken) refl
    where
      go : (d : Bool) → any (equal_to (payout_amount p)) s.taken ≡ d → Fits (not_taken model entry s p) (not_taken model entry marks p)
      go true e =
          rw (taken_step model entry s p e, taken_step model entry marks p (sym (v.taken (equal_to (payout_amount p))) ∙ e))
          (record { same = refl; good = tt })
      go false e =
          rw (untaken-step model entry s p e, untaken-step model entry marks p (sym (v.taken (equal_to (payout_amount p))) ∙ e))
          (fits-backing Bounds fits-reserve)

  fits-answer : Fits (answer model entry s p) (answer model entry marks p)
  unfolding coded
  fits-answer = go (present (payout_amount p)) refl
    where
      go : (d : Bool) → present (payout_amount p) ≡ d → Fits (answer model entry s p) (answer model entry marks p)
      go true e = rw (answer-step model entry s p e, answer-step model entry marks p e) (fits-backing Equals fits-taken)
      go false e = rw (split_step model entry s p e, split_step model entry marks p e) (record { same = refl; good = tt })

  -- all of it: a cover is taken, and a rejection changes nothing
  module _ (r : Result Cover Reason) (e : r ≡ coded (answer model entry marks p)) where
    answers_covered : (c : Cover) → r ≡ Ok c → (left : Coded) → left ≡ after_cover m en.debits c → Answers model entry bs s p r left
    unfolding coded
    answers_covered c g left f = go (answer model entry s p) refl fits-answer
      where
        go : (d : matching.Answer) → answer model entry s p ≡ d → Fits (answer model entry s p) (answer model entry marks p) → Answers model entry bs s p r left
        go (cover d after) h w =
            let a : r ≡ Ok (coded_cover d) = e ∙ sym w.same ∙ ap coded h in
            let b : c ≡ coded_cover d = cc in
            record {
              after = after;
              same = h ∙ rw (a, cover-back d);
              stands = rw (f, b) (rw h at w.good);
            }
        go (rejection x) h w =
            let a : r ≡ Err (coded_reason x) = e ∙ sym w.same ∙ ap coded h in
            absurd (false≢true cc)

    answers_rejected : (q : Reason) → r ≡ Err q → Answers model entry bs s p r m
    unfolding coded
    answers_rejected q g = go (answer model entry s p) refl fits-answer
      where
        go : (d : matching.Answer) → answer model entry s p ≡ d → Fits (answer model entry s p) (answer model entry marks p) → Answers model entry bs s p r m
        go (cover d after) h w =
            let a : r ≡ Ok (coded_cover d) = e ∙ sym w.same ∙ ap coded h in
            absurd (false≢true cc)
        go (rejection x) h w =
            let a : r ≡ Err (coded_reason x) = e ∙ sym w.same ∙ ap coded h in
            record {
              after = s;
              same = h ∙ rw (a, reason-back x);
              stands = v;
            }

-- and for all marks that the code's stand for
module _ (file : List ℕ) (p : Payout) (pass : Pass) (w : Ready file p pass)
    (r : Result Cover Reason) (e : r ≡ answered answer file p pass.marks) (between left : Coded) (same : between ≡ pass.marks) where
  abbrev en : Entry
  en = p.entry.now

  abbrev k : ℕ
  k = p.k

  pub covered-all : (c : Cover) → r ≡ Ok c → left ≡ after_cover between en.debits c → AnswersFor file en pass.marks k (Ok c) left
  covered-all c g f before v =
      rw (← g) (answers_covered file en w.entered pass.marks w.room before v (payout_at file en k) r e c g left (f ∙ ap (λ m. after_cover m en.debits c) same))

  pub rejected-all : (q : Reason) → r ≡ Err q → AnswersFor file en pass.marks k (Err q) between
  rejected-all q g before v =
      rw (← g, same) (answers_rejected file en w.entered pass.marks w.room before v (payout_at file en k) r e q g)

-- one more reserve at most
with-uses : (m : Coded) (i : ℕ) → uses (with_used m i) ≤ uses m + 1
unfolding with_used
with-uses m i = go (ltb (uses m) 64) refl
  where
    go : (b : Bool) → ltb (uses m) 64 ≡ b → uses (with_used m i) ≤ uses m + 1
    go true e = rw e (omega arith)
    go false e = rw e (omega arith)

uses-after : (m : Coded) (count : ℕ) (c : Cover) → uses (after_cover m count c) ≤ uses m + 1
unfolding after_cover without
uses-after m count (EqualDebit i) = omega arith
uses-after m count (EqualParameter i) = omega arith
uses-after m count (BoundingDebit i) = omega arith
uses-after m count (BoundingParameter i) = omega arith
uses-after m count (Reserve i) = with-uses m i

pub uses-few : (m between : Coded) → between ≡ m → (count : ℕ) (c : Cover) (left : Coded) → left ≡ after_cover between count c → uses left ≤ uses m + 1
uses-few m between same count c left f = rw (f, same) (uses-after m count c)
