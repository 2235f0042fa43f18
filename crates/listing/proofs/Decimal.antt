-- Decimal digits: those of a tenth of the number, and the last one.
use Rattle.std.proofs.Common.{ℕ, zero, suc, ◌+◌, ◌/◌, ◌%◌, ◌^◌, ◌<◌, ◌≤◌, ◌≡◌, refl, sym, ap, ◌∙◌, add-one, Bool, true, false, List, [], ◌∷◌, ◌++◌, arith, ltb-true, ltb-false, lt-ltb, le-ltb, ltb}
use Rattle.std.specs.Fmt as library
use Rattle.std.proofs.lemmas.Fmt.{decimal_from_appends, length-decimal-le_succ}
use Rattle.output.specs.Writes.{Writes}
use Rattle.output.specs.declared.Output.{Output}
use Rattle.listing.specs.Decimal.{digits, decimal}

module _ (k n : ℕ) where
  digits-one : n < 10 → digits (suc k) n ≡ (0x30 + n) ∷ []
  unfolding digits
  digits-one h = cc (lt-ltb n 10 h)

  digits_more : 10 ≤ n → digits (suc k) n ≡ digits k (n / 10) ++ (0x30 + n % 10) ∷ []
  unfolding digits
  digits_more h = cc (le-ltb n 10 h)

-- more digits than the number counts are not used
enough : (k j n : ℕ) → n < k → n < j → digits k n ≡ digits j n
enough zero j n h g = absurd (omega (arith, h))
enough (suc k) zero n h g = absurd (omega (arith, g))
enough (suc k) (suc j) n h g = by (enough k j (n / 10)) (ltb n 10) refl
  where
    by : (n / 10 < k → n / 10 < j → digits k (n / 10) ≡ digits j (n / 10)) → (b : Bool) → ltb n 10 ≡ b → digits (suc k) n ≡ digits (suc j) n
    by same true e = digits-one k n (ltb-true n 10 e) ∙ sym (digits-one j n (ltb-true n 10 e))
    by same false e =
        let l : 10 ≤ n = ltb-false n 10 e in
        digits_more k n l ∙ ap (λ ds. ds ++ (0x30 + n % 10) ∷ []) (same (omega (arith, h, l)) (omega (arith, g, l))) ∙ sym (digits_more j n l)

module _ (n : ℕ) where
  pub one-digit : n < 10 → decimal n ≡ (0x30 + n % 10) ∷ []
  unfolding decimal
  one-digit h = digits-one n n h ∙ ap (λ d. (0x30 + d) ∷ []) (omega (arith, h))

  pub more-digits : 10 ≤ n → decimal n ≡ decimal (n / 10) ++ (0x30 + n % 10) ∷ []
  unfolding decimal
  more-digits h = digits_more n n h ∙ ap (λ ds. ds ++ (0x30 + n % 10) ∷ []) (enough n (suc (n / 10)) (n / 10) (omega (arith, h)) (omega arith))

-- the library's digits are these
same-decimal : (n : ℕ) → n < 2 ^ 64 → decimal n ≡ library.decimal n
unfolding decimal
same-decimal n h = decimal_from_appends digits (record { one = digits-one; more = digits_more }) (suc n) n h (rw add-one at (length-decimal-le_succ n h))

pub number-written : (n : ℕ) → n < 2 ^ 64 → (text : List ℕ) → text ≡ library.decimal n → (a b : Output) → Writes text a b → Writes (decimal n) a b
number-written n h text e a b w = rw (same-decimal n h, ← e) w

pub digit-written : (n : ℕ) → n < 10 → (a b : Output) → Writes ((0x30 + n) ∷ []) a b → Writes (decimal n) a b
unfolding decimal
digit-written n h a b w = rw (digits-one n n h) w
