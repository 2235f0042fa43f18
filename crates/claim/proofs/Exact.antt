-- Demand 3, second half: where each payout's amount equals some backing's, each takes the next one of its amount, and nothing
-- else is taken.
use Rattle.std.proofs.Common.{ℕ, zero, suc, ◌<◌, arith, not-suc-le-zero, ◌≡◌, refl, sym, ap, ◌∙◌, Bool, true, false, ◌||◌, List, [], ◌∷◌, length, get_or, take, drop}
use Rattle.std.proofs.Common.{Option}
use mathlib.Core.Bool.{false≢true}
use Rattle.std.proofs.Common.{None, Some}
use Rattle.std.proofs.Common.{slice_get}
use Rattle.laws.specs.Lists.{any, filter, find, remove_first}
use Rattle.laws.proofs.Counting.{count}
use Rattle.laws.proofs.Finding.{any-removed, any-not-found, find-passes, find-filter, filter-other, filter-taken}
use Rattle.laws.proofs.Truths.{or-move}
use Rattle.fields.specs.Field.{Field, Fields, nothing}
use Rattle.guards.specs.Payouts.{payout_amount}
use Rattle.matching.specs.Matching.{Cover, Backing, Marks, equals, bounds, equal_cover, take_backing, by_equal, answer}
use Rattle.matching.specs.Matching.Answer.{cover}
use Rattle.matching.proofs.Alike.{equal-present, alike, alike-equals, other-equals}
use Rattle.matching.proofs.Ways.{Agree, gone, taking, Step, equal, bounding, reserving}
use Rattle.claim.specs.Verdict.{accepted, match_from}
use Rattle.claim.proofs.Passing.{Passed, done, step}

-- of the free backings equal to p, the one after as many as there are payouts of that amount in qs
abbrev pub jth_of : List Backing → List Field → Field → Option Backing
jth_of free qs p = slice_get (filter (equals p) free) (count (λ q. alike q p) qs)

second : (l : List Backing) (n : ℕ) → slice_get l (suc n) ≡ slice_get (drop 1 l) n
second [] n = refl
second (x ∷ l) n = refl

-- a payout p takes the first of its amount, and for any other payout all is as if p did not stand before it
jth-next : (free : List Backing) (p q : Field) (qs : List Field) → jth_of free (p ∷ qs) q ≡ jth_of (remove_first (equals p) free) qs q
jth-next free p q qs = go (alike p q) refl
  where
    go : (k : Bool) → alike p q ≡ k → jth_of free (p ∷ qs) q ≡ jth_of (remove_first (equals p) free) qs q
    go true e = rw (e, alike-equals p q e, filter-taken (equals q) free) (second (filter (equals q) free) (count (λ r. alike r q) qs))
    go false e = rw (e, filter-other (equals p) (equals q) free (other-equals p q e))

-- a free or taken backing equals the payout's amount
abbrev pub Met : Marks → Field → Type 0
Met s p = any (equals p) s.free || gone s p ≡ true

met-taken : (s : Marks) (test : Backing → Bool) (b : Backing) (q : Field) → find test s.free ≡ Some b → Met s q → Met (taking s test b) q
unfolding equals
met-taken s test b q e m = rw (any-removed test (equals q) s.free b e, or-move) at m

module _ (model : Fields) (entry : Field) (s : Marks) (p : Field) where
  step-met : (q : Field) (c : Cover) (t : Marks) → Step model entry s p c t → Met s q → Met t q
  step-met q c t (equal {b} e a) m = met-taken s (equals p) b q e m
  step-met q c t (bounding {b} _ _ e a) m = met-taken s (bounds p) b q e m
  step-met q c t (reserving _ _ e u) m = m

  -- so the payout is covered by an equal backing
  abbrev Covered : Cover → Marks → Type 0
  Covered c t = (b : Backing) × (find (equals p) s.free ≡ Some b) × (Agree p b) × (c ≡ equal_cover b) × (t ≡ taking s (equals p) b)

  not-met : find (equals p) s.free ≡ None → gone s p ≡ false → Met s p → ⊥
  not-met e f m = false≢true (rw (any-not-found (equals p) s.free e, f) at m)

  step-equal : (c : Cover) (t : Marks) → Step model entry s p c t → Met s p → Covered c t
  step-equal c t (equal {b} e a) m = (b, e, a, refl, refl)
  step-equal c t (bounding e f _ _) m = absurd (not-met e f m)
  step-equal c t (reserving e f _ _) m = absurd (not-met e f m)

  answer-equal : (b : Backing) → find (equals p) s.free ≡ Some b → Agree p b → answer model entry s p ≡ cover (equal_cover b) (taking s (equals p) b)
  unfolding answer by_equal take_backing equals
  answer-equal b e a = rw (equal-present b.amount (payout_amount p) (find-passes (equals p) s.free b e), by_equal, e, a)

-- each payout has a j-th free backing of its amount, the two tokens not known to differ
abbrev pub Has : List Backing → List Field → ℕ → Type 0
Has free ps i = (b : Backing) × (jth_of free (take i ps) (get_or ps i nothing) ≡ Some b) × (Agree (get_or ps i nothing) b)

abbrev pub AllMet : Marks → List Field → Type 0
AllMet s ps = (i : ℕ) → i < length ps → Met s (get_or ps i nothing)

module _ (model : Fields) (entry : Field) where
  -- a pass covers each payout by its j-th
  pub passed-jth : (s : Marks) (ps : List Field) (cs : List Cover) → Passed model entry s ps cs → AllMet s ps →
      (i : ℕ) (d : Cover) → i < length ps → (h : Has s.free ps i) × (get_or cs i d ≡ equal_cover h.0)
  passed-jth s ps cs done m i d h = absurd (not-suc-le-zero h)
  passed-jth s ps cs (step {t} {p} {ps = qs} {c} {cs = ds} x r) m zero d h =
      let k = step-equal model entry s p c t x (m 0 h) in
      ((k.0, sym (find-filter (equals p) s.free) ∙ k.1, k.2), k.3)
  passed-jth s ps cs (step {t} {p} {ps = qs} {c} {cs = ds} x r) m (suc i) d h =
      let k = step-equal model entry s p c t x (m 0 (omega arith)) in
      let n = passed-jth t qs ds r (λ j l. step-met model entry s p (get_or qs j nothing) c t x (m (suc j) (omega arith))) i d (omega arith) in (
        (
          n.0.0,
          jth-next s.free p (get_or qs i nothing) (take i qs)
              ∙ sym (ap (λ (z : Marks). jth_of z.free (take i qs) (get_or qs i nothing)) k.4) ∙ n.0.1,
          n.0.2,
        ),
        n.1,
      )

  -- and where there is one for each, there is a pass
  pub jth-passes : (s : Marks) (n : ℕ) (ps : List Field) → AllMet s ps → ((i : ℕ) → i < length ps → Has s.free ps i) →
      (cs : List Cover) × (match_from model entry s n ps ≡ accepted cs)
  unfolding match_from
  jth-passes s n [] m has = ([], refl)
  jth-passes s n (p ∷ ps) m has =
      let h = has 0 (omega arith) in
      let b = h.0 in
      let e : find (equals p) s.free ≡ Some b = find-filter (equals p) s.free ∙ h.1 in
      let r = jth-passes (taking s (equals p) b) (suc n) ps (λ j l. met-taken s (equals p) b (get_or ps j nothing) e (m (suc j) (omega arith)))
      (λ j l. let k = has (suc j) (omega arith) in (k.0, sym (jth-next s.free p (get_or ps j nothing) (take j ps)) ∙ k.1, k.2)) in
      (equal_cover b ∷ r.0, rw (match_from, answer-equal model entry s p b e h.2, r.1))
