-- The definition's steps, one at a time: a search that finds something decides, and one that finds nothing leaves the rest.
use Rattle.std.proofs.Common.{◌≡◌, Bool, true, false, List, ◌∷◌, ℕ, eqb}
use Rattle.std.proofs.Common.{None, Some}
use Rattle.laws.specs.Lists.{any, find, remove_first, position}
use Rattle.laws.specs.Texts.{same_bytes}
use Rattle.fields.specs.Field.{Field, Fields}
use Rattle.model.specs.Model.{state_names}
use Rattle.walking.specs.Walking.{peel, present}
use Rattle.tokens.specs.Tokens.{differ}
use Rattle.guards.specs.Payouts.{payout_token, payout_amount}
use Rattle.reserves.specs.Reserves.{reserve_bounding_payout}
use Rattle.backings.specs.Tables.{equal_to}
use Rattle.backings.specs.declared.marks.Test.{Test}
use Rattle.backings.specs.declared.marks.Test.TheVariants.{Equals, Bounds}
use Rattle.matching.specs.Matching.{Backing, Cover, Reason, Marks, equals, bounds, equal_cover, bounding_cover, take_backing, take_reserve, by_reserve, by_bounding, not_taken, by_equal, answer}
use Rattle.matching.specs.Matching.Cover.{reserve}
use Rattle.matching.specs.Matching.Reason.{split_without_amount, conflict_at_equal, amount_taken, conflict_at_bounding, no_reserve, reserve_used}
use Rattle.matching.specs.Matching.Answer.{cover, rejection}
use Rattle.matching.specs.Coded.{step_by, next_step}

-- by the test that a backing passes: the definition's own, the cover and why the payout is rejected
abbrev pub passes : Test → Field → Backing → Bool
passes Equals = equals
passes Bounds = bounds

abbrev pub cover_by : Test → Backing → Cover
cover_by Equals = equal_cover
cover_by Bounds = bounding_cover

abbrev pub conflict_by : Test → Reason
conflict_by Equals = conflict_at_equal
conflict_by Bounds = conflict_at_bounding

module _ (model : Fields) (entry : Field) (s : Marks) (p : Field) where
  pub split_step : present (payout_amount p) ≡ false → answer model entry s p ≡ rejection split_without_amount
  unfolding answer
  split_step e = rw e

  pub answer-step : present (payout_amount p) ≡ true → answer model entry s p ≡ by_equal model entry s p
  unfolding answer
  answer-step e = rw e

  pub equal-step : (b : Backing) → find (equals p) s.free ≡ Some b →
      by_equal model entry s p ≡ take_backing s p (equals p) b (equal_cover b) conflict_at_equal
  unfolding by_equal
  equal-step b e = cc

  pub no-equal-step : find (equals p) s.free ≡ None → by_equal model entry s p ≡ not_taken model entry s p
  unfolding by_equal
  no-equal-step e = cc

  pub taken_step : any (equal_to (payout_amount p)) s.taken ≡ true → not_taken model entry s p ≡ rejection amount_taken
  unfolding not_taken equal_to
  taken_step e = rw e

  pub untaken-step : any (equal_to (payout_amount p)) s.taken ≡ false → not_taken model entry s p ≡ by_bounding model entry s p
  unfolding not_taken equal_to
  untaken-step e = rw e

  pub bounding-step : (b : Backing) → find (bounds p) s.free ≡ Some b →
      by_bounding model entry s p ≡ take_backing s p (bounds p) b (bounding_cover b) conflict_at_bounding
  unfolding by_bounding
  bounding-step b e = cc

  pub no-bounding-step : find (bounds p) s.free ≡ None → by_bounding model entry s p ≡ by_reserve model entry s p
  unfolding by_bounding
  no-bounding-step e = cc

  pub backing-step : (t : Test) (b : Backing) → find (passes t p) s.free ≡ Some b →
      step_by t model entry s p ≡ take_backing s p (passes t p) b (cover_by t b) (conflict_by t)
  backing-step Equals = equal-step
  backing-step Bounds = bounding-step

  pub no-backing-step : (t : Test) → find (passes t p) s.free ≡ None → step_by t model entry s p ≡ next_step t model entry s p
  no-backing-step Equals = no-equal-step
  no-backing-step Bounds = no-bounding-step

  pub reserve-step : (r : List ℕ) → reserve_bounding_payout model entry (peel (payout_amount p)) (payout_token p) ≡ Some r →
      by_reserve model entry s p ≡ take_reserve s (position (same_bytes r) (state_names model))
  unfolding by_reserve
  reserve-step r e = cc

  pub no-reserve-step : reserve_bounding_payout model entry (peel (payout_amount p)) (payout_token p) ≡ None → by_reserve model entry s p ≡ rejection no_reserve
  unfolding by_reserve
  no-reserve-step e = cc

module _ (s : Marks) (p : Field) (test : Backing → Bool) (b : Backing) (c : Cover) (r : Reason) where
  pub conflict-step : differ b.token (payout_token p) ≡ true → take_backing s p test b c r ≡ rejection r
  unfolding take_backing
  conflict-step e = rw e

  pub take_step : differ b.token (payout_token p) ≡ false →
      take_backing s p test b c r ≡ cover c (record { free = remove_first test s.free; taken = b.amount ∷ s.taken; used = s.used })
  unfolding take_backing
  take_step e = rw e

module _ (s : Marks) (i : ℕ) where
  pub used_step : any (eqb i) s.used ≡ true → take_reserve s i ≡ rejection reserve_used
  unfolding take_reserve
  used_step e = rw e

  pub unused-step : any (eqb i) s.used ≡ false →
      take_reserve s i ≡ cover (reserve i) (record { free = s.free; taken = s.taken; used = i ∷ s.used })
  unfolding take_reserve
  unused-step e = rw e
