-- The numbers are those of the verdict, the bytes those that it writes, and demand 3 follows from the two.
use Rattle.std.proofs.Common.{ℕ, ◌≡◌, ap, ◌∙◌}
use Rattle.fields.specs.Field.{Field}
use Rattle.claim.specs.Verdict.{Verdict, outcome, first_of, second_of}
use Rattle.claim.proofs.Claim.{demand-3}
use Rattle.verdict.specs.Outcomes.{outcome_number}
use Rattle.verdict.specs.Coded.{Told, numbers_of, numbers}
use Rattle.verdict.specs.declared.numbers.Numbers.{Numbers}
use Rattle.verdict.proofs.Numbered.{outcome-told}
use Rattle.export.proofs.zevdrak_verdict.Goals as goal

module _ (r : Numbers) (x : Told) (e : r ≡ numbers_of x) (entry : Field) (v : Verdict) (f : numbers_of x ≡ numbers entry v) where
  number-told : (n : ℕ) → n ≡ outcome_number r.outcome → n ≡ outcome v
  unfolding numbers
  number-told n k = k ∙ ap (λ (n : Numbers). outcome_number n.outcome) (e ∙ f) ∙ outcome-told v

  first-told : r.first ≡ first_of v
  unfolding numbers
  first-told = ap (λ (n : Numbers). n.first) (e ∙ f)

  second-told : r.second ≡ second_of entry v
  unfolding numbers
  second-told = ap (λ (n : Numbers). n.second) (e ∙ f)

pub returns-clause-answer : goal.returns-clause-answer
returns-clause-answer c = search number-told

pub returns-clause-first : goal.returns-clause-first
returns-clause-first c = search first-told

pub returns-clause-second : goal.returns-clause-second
returns-clause-second c = search second-told

pub returns-clause-backed : goal.returns-clause-backed
returns-clause-backed c = search (demand-3, number-told, first-told, second-told)
