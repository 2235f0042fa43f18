-- Accepted, the pass gave each payout a cover: the payouts one by one, each from the marks that the one before it left.
use Rattle.std.proofs.Common.{ℕ, suc, ◌≡◌, refl, ap, List, [], ◌∷◌, length}
use mathlib.Core.Bool.{false≢true}
use Rattle.fields.specs.Field.{Field, Fields}
use Rattle.matching.specs.Matching.{Cover, Marks, Answer, answer}
use Rattle.matching.specs.Matching.Answer.{cover, rejection}
use Rattle.matching.proofs.Ways.{Step, a-step}
use Rattle.claim.specs.Verdict.{Verdict, refused, rejected, accepted, with_cover, match_from}

module _ (model : Fields) (entry : Field) where
  -- a pass over payouts that gives each a cover
  pub data Passed : Marks → List Field → List Cover → Type 0 where
    done : {s : Marks} → Passed s [] []
    step : {s t : Marks} {p : Field} {ps : List Field} {c : Cover} {cs : List Cover} →
        Step model entry s p c t → Passed t ps cs → Passed s (p ∷ ps) (c ∷ cs)

  -- as many covers as payouts
  pub passed-count : (s : Marks) (ps : List Field) (cs : List Cover) → Passed s ps cs → length cs ≡ length ps
  passed-count s ps cs done = refl
  passed-count s ps cs (step {t} {ps = qs} {cs = ds} x r) = ap suc (passed-count t qs ds r)

  -- accepted, the pass gave each payout its cover
  pub a-pass : (s : Marks) (n : ℕ) (ps : List Field) (cs : List Cover) → match_from model entry s n ps ≡ accepted cs → Passed s ps cs
  unfolding match_from
  a-pass s n [] cs e = let h : [] ≡ cs = cc in rw (← h) done
  a-pass s n (p ∷ ps) cs e = go (answer model entry s p) refl (λ t. a-pass t (suc n) ps)
    where
      then : (c : Cover) (t : Marks) → Step model entry s p c t → ((ds : List Cover) → match_from model entry t (suc n) ps ≡ accepted ds → Passed t ps ds) →
          (v : Verdict) → match_from model entry t (suc n) ps ≡ v → with_cover c v ≡ accepted cs → Passed s (p ∷ ps) cs
      then c t x r (refused m q) f g = absurd (false≢true (cc))
      then c t x r (rejected m q) f g = absurd (false≢true (cc))
      then c t x r (accepted ds) f g = let h : c ∷ ds ≡ cs = cc in rw (← h) (step x (r ds f))

      go : (a : Answer) → answer model entry s p ≡ a →
          ((t : Marks) (ds : List Cover) → match_from model entry t (suc n) ps ≡ accepted ds → Passed t ps ds) → Passed s (p ∷ ps) cs
      go (rejection q) h r = absurd (false≢true (cc))
      go (cover c t) h r = then c t (a-step model entry s t p c h) (r t) (match_from model entry t (suc n) ps) refl (rw (match_from, h) at e)
