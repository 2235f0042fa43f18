-- Without a token that all raises agree on there is none, however the field starts; with one, the start decides.
use Rattle.std.proofs.Common.{ℕ, ◌≤◌, ◌<◌, ◌≡◌, refl, ◌∙◌, Bool, true, false, cond, List, ne_eqb, eqb, arith}
use borrow.Author.Tests.{eqb-false}
use Rattle.laws.proofs.Told.{told_is}
use Rattle.laws.proofs.Truths.{chosen}
use Rattle.fields.specs.Field.{fields}
use Rattle.raises.specs.Raises.{starts_at_zero}
use Rattle.reserve_tokens.specs.Numbers.{agreed, reserve_number}
use Rattle.reserve_tokens.specs.Agreeing.{agreed_after, AllAgree}
use Rattle.reserve_tokens.proofs.reserve.started.Goals as goal

module _ (file name : List ℕ) (n : ℕ) (f : AllAgree file name n) where
  none-agreed : n < 2 → 1 ≡ reserve_number file name
  unfolding reserve_number agreed_after agreed
  none-agreed h = chosen (λ k. 1 ≡ k) (starts_at_zero (fields file) name) (go (eqb n 0) refl ∙ f) refl
    where
      go : (b : Bool) → eqb n 0 ≡ b → 1 ≡ cond b 1 n
      go true e = refl
      go false e = omega (arith, h, eqb-false n 0 e)

  starts-higher : false ≡ starts_at_zero (fields file) name → 1 ≡ reserve_number file name
  unfolding reserve_number
  starts-higher e = rw (← e)

  starts-there : true ≡ starts_at_zero (fields file) name → 2 ≤ n → n ≡ reserve_number file name
  unfolding reserve_number agreed_after agreed
  starts-there e h = rw (← e) (rw (ne_eqb n 0 (λ z. omega (arith, h, z))) at f)

pub returns-then-agreed-lt2 : goal.returns-then-agreed-lt2
returns-then-agreed-lt2 c = search none-agreed

pub returns-then-not-starts_at_zero : goal.returns-then-not-starts_at_zero
returns-then-not-starts_at_zero c = search (starts-higher, told_is)

pub returns : goal.returns
returns c = search (starts-there, told_is)
