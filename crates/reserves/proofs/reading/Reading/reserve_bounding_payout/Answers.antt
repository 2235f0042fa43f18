-- A payout without a known token, whose amount no guard bounds or which does not contain what comes in, has no reserve; else the first
-- guard whose field covers decides.
use Rattle.std.proofs.Common.{ℕ, ◌≤◌, ◌≡◌, refl, sym, ◌∙◌, Bool, true, false, not, List, [], ◌∷◌, length, drop}
use Rattle.std.proofs.Common.{Option, None, Some, arith}
use borrow.Author.Tests.{not-true, not-false}
use Rattle.laws.specs.Texts.{known}
use Rattle.fields.specs.Field.{Field, fields, front, parts}
use Rattle.fields.proofs.Places.{is-zero}
use Rattle.walking.specs.Table.{placed_at}
use Rattle.guards.specs.Guards.{contains_inflow}
use Rattle.guards.specs.Asked.{asked_token, asked_amount}
use Rattle.guards.specs.Bounding.{bounding}
use Rattle.guards.specs.Lowerings.{lowering_numbers}
use Rattle.reserves.specs.Covers.{asked_reserve, first_covering}
use Rattle.reserves.proofs.Covered.{unknown-token, no-guard, none-contained, all-contained}
use Rattle.reserves.proofs.reading.Reading.reserve_bounding_payout.Goals as goal

module _ (file : List ℕ) (place : ℕ) (asked : List ℕ) (k : ℕ) where
  no-token : (t : List ℕ) → t ≡ asked_token file asked k → length t ≡ 0 → None ≡ asked_reserve file place asked k
  unfolding known
  no-token [] e z = unknown-token file place asked k (rw (← e) refl)
  no-token (x ∷ t) e z = cc

  module _ (x : List ℕ) (e : x ≡ drop place file) (p : List ℕ) (f : fields p ≡ parts (front x)) (a : List ℕ) (g : front a ≡ asked_amount file asked k)
      (gs : List Field) (h : bounding (front a) (fields p) ≡ gs) where
    all-bounding : gs ≡ bounding (asked_amount file asked k) (parts (front (drop place file)))
    all-bounding = rw (← e, ← f, ← g) (sym h)

    none-bounds : gs ≡ [] → None ≡ asked_reserve file place asked k
    none-bounds o = no-guard file place asked k (sym all-bounding ∙ o)

    module _ (b : Bool) (i : b ≡ contains_inflow (front x) (front a)) where
      inflow : b ≡ contains_inflow (front (drop place file)) (asked_amount file asked k)
      inflow = rw (← e, ← g) i

      not-contained : not b ≡ true → None ≡ asked_reserve file place asked k
      not-contained o = none-contained file place asked k (sym inflow ∙ not-true b o)

      by_guards : not b ≡ false → length file ≤ 32768 → (t : List ℕ) → t ≡ asked_token file asked k → (r : Option ℕ) →
          r ≡ first_covering file t (lowering_numbers (front a) (placed_at file place)) gs → r ≡ asked_reserve file place asked k
      by_guards o small t j r q = q ∙ rw (all-bounding, j, g) (all-contained file place asked k small (sym inflow ∙ not-false b o))

pub returns-then-is_empty-clause-found : goal.returns-then-is_empty-clause-found
returns-then-is_empty-clause-found c = search (no-token, is-zero)

pub returns-in_err-guard-clause-found : goal.returns-in_err-guard-clause-found
returns-in_err-guard-clause-found c =
    let none : c.first_guard.result ≡ None = grind arith in
    let left : c.from_residual.result ≡ None = grind arith in
    rw left (search (none-bounds, rw none at c.first_guard.ensures.found))

pub returns-then-not-contains_inflow-clause-found : goal.returns-then-not-contains_inflow-clause-found
returns-then-not-contains_inflow-clause-found c =
    let some : c.first_guard.result ≡ Some c.in_ok-guard.guard = grind arith in
    search (not-contained, rw some at c.first_guard.ensures.found)

pub returns-clause-found : goal.returns-clause-found
returns-clause-found c =
    let some : c.first_guard.result ≡ Some c.in_ok-guard.guard = grind arith in
    search (by_guards, rw some at c.first_guard.ensures.found, rw c.list_facts.ensures.same.file at c.first_lowered.ensures.found)
