-- Two payouts of equal amounts have the same equal backings, two of other amounts none in common: equality is symmetric and
-- transitive.
use Rattle.std.proofs.Common.{zero, suc, arith, ◌≡◌, ◌∙◌, Bool, true, false, le-leb}
use mathlib.Core.Path.{fun_ext}
use Rattle.laws.proofs.Truths.{agree, refuted}
use Rattle.tags.specs.Tag.{composite, is_wrapper}
use Rattle.fields.specs.Field.{Field}
use Rattle.fields.specs.Field.Field.{field}
use Rattle.walking.specs.Walking.{peel, peel_first, present}
use Rattle.equality.specs.Equality.{expr_eq, same_text}
use Rattle.equality.proofs.Equality.{equal-in, expr-symmetric, expr-transitive}
use Rattle.guards.specs.Payouts.{payout_amount}
use Rattle.matching.specs.Matching.{Backing, equals}

-- a missing part equals nothing
pub equal-present : (a f : Field) → expr_eq a (peel f) ≡ true → present f ≡ true
unfolding peel peel_first same_text composite is_wrapper
equal-present (field u y qs) (field zero x ps) e =
    let (h, k, l) = equal-in u 0 y x qs ps e in
    cc (rw h at k)
equal-present (field u y qs) (field (suc t) x ps) e = le-leb 1 (suc t) (omega arith)

-- the payouts' amounts are equal
abbrev pub alike : Field → Field → Bool
alike p q = expr_eq (peel (payout_amount p)) (peel (payout_amount q))

module _ (p q : Field) where
  abbrev amount_p : Field
  amount_p = peel (payout_amount p)

  abbrev amount_q : Field
  amount_q = peel (payout_amount q)

  -- then the same backings equal them
  pub alike-equals : alike p q ≡ true → equals p ≡ equals q
  unfolding equals
  alike-equals e = fun_ext (λ b. agree (equals p b) (equals q b) (λ h. expr-transitive b.amount amount_p amount_q h e)
      (λ h. expr-transitive b.amount amount_q amount_p h (expr-symmetric amount_q amount_p ∙ e)))

  -- else no backing equals both
  pub other-equals : alike p q ≡ false → (b : Backing) → equals p b ≡ true → equals q b ≡ false
  unfolding equals
  other-equals e b h = refuted (equals q b) (alike p q) e
      (λ k. expr-transitive amount_p b.amount amount_q (expr-symmetric amount_p b.amount ∙ h) k)
