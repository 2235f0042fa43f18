-- All are accepted together exactly where each is: what is accepted has the number 0, which is the least.
use Rattle.std.proofs.Common.{ℕ, zero, suc, ◌<◌, ◌≡◌, refl, ap, ◌∙◌, Bool, true, false, cond, List, ◌↔◌, arith, ltb-true, ltb-false, ltb, length}
use Rattle.fields.specs.Field.{fields}
use Rattle.model.specs.Model.{entries}
use Rattle.questions.specs.Questions.{Asked, passes, fails, ask_file}
use Rattle.claim.specs.Verdict.{refused, verdict, outcome}
use Rattle.claim.specs.Claim.{Accepted}
use Rattle.verdict.proofs.Asking.{ninth}
use Rattle.contract.specs.Records.{verdict_on, at_least_one, largest, outcome_of_all, covers_enough}
use Rattle.contract.proofs.Each.{some-there}

-- the larger of two numbers is 0 where both are
both_zero : (a b : ℕ) → cond (ltb a b) b a ≡ 0 → (a ≡ 0) × (b ≡ 0)
both_zero a b e = go (ltb a b) refl e
  where
    go : (t : Bool) → ltb a b ≡ t → cond t b a ≡ 0 → (a ≡ 0) × (b ≡ 0)
    go true f g = absurd (omega (arith, ltb-true a b f, g))
    go false f g = (g, omega (arith, ltb-false a b f, g))

module _ (f : ℕ → ℕ) where
  each-zero : (n : ℕ) → largest f n ≡ 0 → (i : ℕ) → i < n → f i ≡ 0
  unfolding largest
  each-zero zero e i h = absurd (omega (arith, h))
  each-zero (suc n) e i h = let (before, last) = both_zero (largest f n) (f n) e in go last (each-zero n before i) (ltb i n) refl
    where
      go : f n ≡ 0 → (i < n → f i ≡ 0) → (t : Bool) → ltb i n ≡ t → f i ≡ 0
      go last earlier true g = earlier (ltb-true i n g)
      go last earlier false g = let same : i ≡ n = omega (arith, h, ltb-false i n g) in ap f same ∙ last

  all-zero : (n : ℕ) → ((i : ℕ) → i < n → f i ≡ 0) → largest f n ≡ 0
  unfolding largest
  all-zero zero h = refl
  all-zero (suc n) h = rw (all-zero n (λ i g. h i (omega (arith, g))), h n (omega arith))

-- the file passes questions 1 to 8 and has entries, and each entry is accepted
pub record EachAccepted (file : List ℕ) : Type 0 where
  pub passed : ask_file file ≡ passes
  pub some : 0 < length (entries (fields file))
  pub each : (n : ℕ) → n < length (entries (fields file)) → Accepted (outcome (verdict_on file n))

module _ (file : List ℕ) where
  abbrev count : ℕ
  count = length (entries (fields file))

  abbrev what : ℕ → ℕ
  what n = outcome (verdict_on file n)

  -- without entries the first is asked about, and refused
  some_of : ask_file file ≡ passes → largest what (at_least_one count) ≡ 0 → 0 < count
  unfolding at_least_one largest verdict_on verdict outcome
  some_of f e = go count refl e
    where
      go : (k : ℕ) → count ≡ k → largest what (at_least_one k) ≡ 0 → 0 < count
      go zero h g =
          let r : verdict_on file 0 ≡ refused 9 0 = rw (verdict_on, verdict, f) (ninth (fields file) 0 covers_enough (omega (arith, h))) in
          absurd (omega (arith, rw r at g))
      go (suc k) h g = omega (arith, h)

  each_of : (a : Asked) → ask_file file ≡ a → ◌≡◌ {A = ℕ} (elim a [ fails number place ↦ 2 | passes ↦ largest what (at_least_one count) ]) 0 → EachAccepted file
  each_of (fails k p) f e = absurd (omega (arith, e))
  each_of passes f e =
      let z : 0 < count = some_of f e in
      record { passed = f; some = z; each = λ n h. each-zero what (at_least_one count) e n (rw (some-there count z) h) }

  pub together : outcome_of_all file ≡ 0 ↔ EachAccepted file
  unfolding outcome_of_all
  together = (
    each_of (ask_file file) refl,
    λ x. let p : ask_file file ≡ passes = x.passed in
        rw (outcome_of_all, p, some-there count x.some) (all-zero what count x.each),
  )
