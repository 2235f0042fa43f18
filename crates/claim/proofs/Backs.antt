-- Demand 3, first half: each cover backs its payout, since what is free is among the entry's debits and parameters, each at
-- its index, and a reserve stands at the position of its name.
use Rattle.std.proofs.Common.{ℕ, zero, suc, ◌<◌, arith, not-suc-le-zero, ◌≡◌, refl, ap, Bool, true, false, ◌&&◌, not, List, eq-eqb, eqb, length, get_or}
use mathlib.Core.Bool.{or-false}
use Rattle.std.proofs.Common.{Some}
use Rattle.laws.specs.Lists.{any, find, remove_first, position, numbered}
use Rattle.laws.specs.Texts.{same_bytes}
use Rattle.laws.proofs.Finding.{any_found, any-removed, find-passes}
use Rattle.laws.proofs.Lists.{any_append, any-implied, any_none, any-map}
use Rattle.laws.proofs.Texts.{bytes-equal}
use Rattle.laws.proofs.Truths.{and_left, and_right, and_both, or_right}
use Rattle.fields.specs.Field.{Field, Fields, nothing, part}
use Rattle.model.specs.Model.{state_names}
use Rattle.walking.specs.Walking.{peel, receiver, debits, asset_params}
use Rattle.equality.specs.Amount.{amount_of}
use Rattle.tokens.specs.Tokens.{admitted_inflow_token}
use Rattle.fundings.specs.FundingTokens.{funding_token}
use Rattle.guards.specs.Payouts.{payout_token, payout_amount}
use Rattle.reserves.specs.Reserves.{reserve_covers, reserve_bounding_payout}
use Rattle.matching.specs.Matching.{Cover, Source, Backing, Marks, debit, parameter, debit_backings, parameter_backings, backings, equals, bounds, equal_cover, bounding_cover}
use Rattle.matching.proofs.Ways.{Agree, Step, equal, bounding, reserving}
use Rattle.claim.specs.Verdict.{kind, index}
use Rattle.claim.specs.Claim.{passes_at, not_known_to_differ, backs_equal, backs_bounding, backs_reserve, backs}
use Rattle.claim.proofs.Passing.{Passed, done, step}
use Rattle.claim.proofs.Numbered.{at-number, at_position}

abbrev is_debit : Source → Bool
is_debit debit = true
is_debit parameter = false

-- the backing of a numbered debit, and of a numbered parameter
abbrev pub debit_of : Fields → ℕ × Field → Backing
debit_of model = λ (i, d). record { source = debit; index = i; amount = peel (part 2 d); token = funding_token model (receiver d) }

abbrev pub parameter_of : Field → ℕ × List ℕ → Backing
parameter_of entry = λ (i, p). record { source = parameter; index = i; amount = amount_of p; token = admitted_inflow_token entry }

module _ (model : Fields) (entry : Field) where
  -- the cover backs the payout
  abbrev pub Backs : Field → Cover → Type 0
  Backs p c = backs model entry p (kind c) (index c) ≡ true

  -- among all backings, a debit that passes is among the debits, a parameter among the parameters
  module _ (g : Backing → Bool) where
    no-debit : any (λ x. is_debit x.source && g x) (parameter_backings entry) ≡ false
    unfolding parameter_backings
    no-debit = rw any-map (any_none (λ p. false) (λ p. refl) (numbered 0 (asset_params entry)))

    no-parameter : any (λ x. not (is_debit x.source) && g x) (debit_backings model entry) ≡ false
    unfolding debit_backings
    no-parameter = rw any-map (any_none (λ p. false) (λ p. refl) (numbered 0 (debits entry)))

    among-debits : any (λ x. is_debit x.source && g x) (backings model entry) ≡ true → any g (debit_backings model entry) ≡ true
    unfolding backings
    among-debits e =
        any-implied (λ x. is_debit x.source && g x) g (λ x. and_right (is_debit x.source) (g x)) (debit_backings model entry)
        (rw (any_append, no-debit, or-false) at e)

    among-parameters : any (λ x. not (is_debit x.source) && g x) (backings model entry) ≡ true → any g (parameter_backings entry) ≡ true
    unfolding backings
    among-parameters e =
        any-implied (λ x. not (is_debit x.source) && g x) g (λ x. and_right (not (is_debit x.source)) (g x)) (parameter_backings entry)
        (rw (any_append, no-parameter) at e)

  -- a test that a free backing passes, some backing passes
  abbrev pub Within : Marks → Type 0
  Within s = (f : Backing → Bool) → any f s.free ≡ true → any f (backings model entry) ≡ true

  module _ (s : Marks) (w : Within s) (p : Field) where
    -- the first free backing that passes a test, its token not known to differ, stands at its index
    module _ (test : Backing → Bool) (b : Backing) (e : find test s.free ≡ Some b) (a : Agree p b) where
      fits : Backing → Bool
      fits x = test x && not_known_to_differ p x

      this : Backing → Bool
      this x = eqb b.index x.index && fits x

      this-one : this b ≡ true
      unfolding this fits not_known_to_differ
      this-one = rw (eq-eqb b.index b.index refl, find-passes test s.free b e, a)

      debit-at : b.source ≡ debit → passes_at (λ x. test x && not_known_to_differ p x) (debit_backings model entry) b.index ≡ true
      unfolding debit_backings this fits
      debit-at h =
          at-number (debit_of model) (λ x. x.index) (λ q. refl) fits b.index (debits entry)
          (among-debits this (w (λ x. is_debit x.source && this x)
          (any_found test (λ x. is_debit x.source && this x) s.free b e (and_both (is_debit b.source) (this b) (ap is_debit h) this-one))))

      parameter-at : b.source ≡ parameter → passes_at (λ x. test x && not_known_to_differ p x) (parameter_backings entry) b.index ≡ true
      unfolding parameter_backings this fits
      parameter-at h =
          at-number (parameter_of entry) (λ x. x.index) (λ q. refl) fits b.index (asset_params entry)
          (among-parameters this (w (λ x. not (is_debit x.source) && this x)
          (any_found test (λ x. not (is_debit x.source) && this x) s.free b e
          (and_both (not (is_debit b.source)) (this b) (ap (λ k. not (is_debit k)) h) this-one))))

    is_field : (r : List ℕ) → backs_reserve model entry p r ≡ true → any (same_bytes r) (state_names model) ≡ true
    unfolding backs_reserve reserve_covers
    is_field r e = search (and_left, and_right)

    -- the first reserve that covers stands at the position of its name
    reserve-at : (r : List ℕ) → reserve_bounding_payout model entry (peel (payout_amount p)) (payout_token p) ≡ Some r →
        passes_at (backs_reserve model entry p) (state_names model) (position (same_bytes r) (state_names model)) ≡ true
    unfolding reserve_bounding_payout backs_reserve
    reserve-at r e =
        let h = find-passes (reserve_covers model entry (peel (payout_amount p)) (payout_token p)) _ r e in
        at_position (same_bytes r) (backs_reserve model entry p) (λ x k. rw (← bytes-equal r x k) h) (state_names model) (is_field r h)

    -- a payout's cover backs it, whichever way it got it
    pub step-backs : (c : Cover) (t : Marks) → Step model entry s p c t → Backs p c
    unfolding backs kind index backs_equal backs_bounding
    step-backs c t (equal {b} e a) = go b.source refl
      where
        go : (k : Source) → b.source ≡ k → Backs p (equal_cover b)
        go debit h = rw (h, debit-at (equals p) b e a h)
        go parameter h = rw (h, parameter-at (equals p) b e a h)
    step-backs c t (bounding {b} f g e a) = go b.source refl
      where
        go : (k : Source) → b.source ≡ k → Backs p (bounding_cover b)
        go debit h = rw (h, debit-at (bounds p) b e a h)
        go parameter h = rw (h, parameter-at (bounds p) b e a h)
    step-backs c t (reserving {r} f g e u) = rw (reserve-at r e)

  -- what is free after it was free before
  pub step-within : (s : Marks) (p : Field) (c : Cover) (t : Marks) → Within s → Step model entry s p c t → Within t
  step-within s p c t w (equal {b} e a) f h =
      w f (rw (any-removed (equals p) f s.free b e) (or_right (f b) (any f (remove_first (equals p) s.free)) h))
  step-within s p c t w (bounding {b} _ _ e a) f h =
      w f (rw (any-removed (bounds p) f s.free b e) (or_right (f b) (any f (remove_first (bounds p) s.free)) h))
  step-within s p c t w (reserving _ _ e u) f h = w f h

  -- each payout of a pass is backed by its cover
  pub passed-backs : (s : Marks) (ps : List Field) (cs : List Cover) → Within s → Passed model entry s ps cs →
      (i : ℕ) (d : Cover) → i < length ps → Backs (get_or ps i nothing) (get_or cs i d)
  passed-backs s ps cs w done i d h = absurd (not-suc-le-zero h)
  passed-backs s ps cs w (step {t} {p} {c} x r) zero d h = step-backs s w p c t x
  passed-backs s ps cs w (step {t} {p} {ps = qs} {c} {cs = ds} x r) (suc i) d h =
      passed-backs t qs ds (step-within s p c t w x) r i d (omega arith)
