-- The covers that a payout may get: an equal backing, a bounding one or a reserve, each with what had to be so before.
use Rattle.std.proofs.Common.{ℕ, ◌≡◌, refl, Bool, true, false, List, ◌∷◌, eqb}
use Rattle.std.proofs.Common.{Option}
use mathlib.Core.Bool.{false≢true}
use Rattle.std.proofs.Common.{None, Some}
use Rattle.laws.specs.Lists.{any, find, remove_first, position}
use Rattle.laws.specs.Texts.{same_bytes}
use Rattle.fields.specs.Field.{Field, Fields}
use Rattle.model.specs.Model.{state_names}
use Rattle.walking.specs.Walking.{peel, present}
use Rattle.equality.specs.Equality.{expr_eq}
use Rattle.tokens.specs.Tokens.{differ}
use Rattle.guards.specs.Payouts.{payout_token, payout_amount}
use Rattle.reserves.specs.Reserves.{reserve_bounding_payout}
use Rattle.matching.specs.Matching.{Cover, Reason, Backing, Marks, equals, bounds, equal_cover, bounding_cover, take_backing, take_reserve, by_reserve, by_bounding, not_taken, by_equal, answer}
use Rattle.matching.specs.Matching.Cover.{reserve}
use Rattle.matching.specs.Matching.Reason.{conflict_at_equal, conflict_at_bounding, split_without_amount, amount_taken, no_reserve}
use Rattle.matching.specs.Matching.Answer.{cover, rejection}

-- the tokens of a payout and a backing are not known to differ
abbrev pub Agree : Field → Backing → Type 0
Agree p b = differ b.token (payout_token p) ≡ false

-- a taken backing equals the payout's amount
abbrev pub gone : Marks → Field → Bool
gone s p = any (λ a. expr_eq a (peel (payout_amount p))) s.taken

-- the marks once the backing b, the first to pass the test, is taken
abbrev pub taking : Marks → (Backing → Bool) → Backing → Marks
taking s test b = record { free = remove_first test s.free; taken = b.amount ∷ s.taken; used = s.used }

-- the marks once the reserve at an index is used
abbrev pub using-up : Marks → ℕ → Marks
using-up s i = record { free = s.free; taken = s.taken; used = i ∷ s.used }

module _ (model : Fields) (entry : Field) where
  -- the covers that a payout p may get at the marks s, and the marks after it
  pub data Step (s : Marks) (p : Field) : Cover → Marks → Type 0 where
    -- the first free backing equal to its amount
    equal : {b : Backing} → find (equals p) s.free ≡ Some b → Agree p b →
        Step s p (equal_cover b) (taking s (equals p) b)
    -- none is equal, free or taken: the first free one that bounds it
    bounding : {b : Backing} → find (equals p) s.free ≡ None → gone s p ≡ false →
        find (bounds p) s.free ≡ Some b → Agree p b → Step s p (bounding_cover b) (taking s (bounds p) b)
    -- or the first covering reserve, which is not used
    reserving : {r : List ℕ} → find (equals p) s.free ≡ None → gone s p ≡ false →
        reserve_bounding_payout model entry (peel (payout_amount p)) (payout_token p) ≡ Some r →
        any (eqb (position (same_bytes r) (state_names model))) s.used ≡ false →
        Step s p (reserve (position (same_bytes r) (state_names model))) (using-up s (position (same_bytes r) (state_names model)))

  module _ (s t : Marks) (p : Field) (c : Cover) where
    -- a backing that gives a cover was taken, and no tokens conflict
    taken_step : (test : Backing → Bool) (b : Backing) (d : Cover) (r : Reason) →
        take_backing s p test b d r ≡ cover c t → (Agree p b) × (d ≡ c) × (taking s test b ≡ t)
    unfolding take_backing
    taken_step test b d r e = go (differ b.token (payout_token p)) refl
      where
        go : (k : Bool) → differ b.token (payout_token p) ≡ k → (Agree p b) × (d ≡ c) × (taking s test b ≡ t)
        go true h = ((cc), (cc), (cc))
        go false h = (h, (cc), (cc))

    -- a reserve that gives a cover was not used
    used_step : (i : ℕ) → take_reserve s i ≡ cover c t → (any (eqb i) s.used ≡ false) × (reserve i ≡ c) × (using-up s i ≡ t)
    unfolding take_reserve
    used_step i e = go (any (eqb i) s.used) refl
      where
        go : (k : Bool) → any (eqb i) s.used ≡ k → (any (eqb i) s.used ≡ false) × (reserve i ≡ c) × (using-up s i ≡ t)
        go true h = ((cc), (cc), (cc))
        go false h = (h, (cc), (cc))

    no_step : (r : Reason) → rejection r ≡ cover c t → Step s p c t
    no_step r e = absurd (false≢true (cc))

    equal-step : (b : Backing) → find (equals p) s.free ≡ Some b →
        take_backing s p (equals p) b (equal_cover b) conflict_at_equal ≡ cover c t → Step s p c t
    equal-step b f e =
        let h = taken_step (equals p) b (equal_cover b) conflict_at_equal e in
        rw (← h.1, ← h.2) (equal f h.0)

    bounding-step : (b : Backing) → find (equals p) s.free ≡ None → gone s p ≡ false → find (bounds p) s.free ≡ Some b →
        take_backing s p (bounds p) b (bounding_cover b) conflict_at_bounding ≡ cover c t → Step s p c t
    bounding-step b f g k e =
        let h = taken_step (bounds p) b (bounding_cover b) conflict_at_bounding e in
        rw (← h.1, ← h.2) (bounding f g k h.0)

    reserving-step : find (equals p) s.free ≡ None → gone s p ≡ false → by_reserve model entry s p ≡ cover c t → Step s p c t
    unfolding by_reserve
    reserving-step f g e = go (reserve_bounding_payout model entry (peel (payout_amount p)) (payout_token p)) refl
      where
        go : (o : Option (List ℕ)) → reserve_bounding_payout model entry (peel (payout_amount p)) (payout_token p) ≡ o → Step s p c t
        go None k = no_step no_reserve (rw (by_reserve, k) at e)
        go (Some r) k =
            let h = used_step (position (same_bytes r) (state_names model)) (rw (by_reserve, k) at e) in
            rw (← h.1, ← h.2) (reserving f g k h.0)

    others-step : find (equals p) s.free ≡ None → not_taken model entry s p ≡ cover c t → Step s p c t
    unfolding not_taken by_bounding
    others-step f e = go (gone s p) refl (find (bounds p) s.free) refl
      where
        go : (k : Bool) → gone s p ≡ k → (o : Option Backing) → find (bounds p) s.free ≡ o → Step s p c t
        go true g o h = no_step amount_taken (rw g at e)
        go false g None h = reserving-step f g (rw (g, by_bounding, h) at e)
        go false g (Some b) h = bounding-step b f g h (rw (g, by_bounding, h) at e)

    -- every cover that a payout gets is one of the three
    pub a-step : answer model entry s p ≡ cover c t → Step s p c t
    unfolding answer by_equal
    a-step e = go (present (payout_amount p)) refl (find (equals p) s.free) refl
      where
        go : (k : Bool) → present (payout_amount p) ≡ k → (o : Option Backing) → find (equals p) s.free ≡ o → Step s p c t
        go false g o h = no_step split_without_amount (rw g at e)
        go true g None h = others-step h (rw (g, by_equal, h) at e)
        go true g (Some b) h = equal-step b h (rw (g, by_equal, h) at e)
