-- The claim's own words computed: what backs a payout and what does not, and which is the j-th of an amount.
use Rattle.std.proofs.Common.{ℕ, ◌≡◌, refl, Bool, true, false, List, [], ◌∷◌, ◌++◌, map}
use Rattle.std.proofs.Common.{None, Some}
use Rattle.tags.specs.Tag.{Checked}
use Rattle.fields.specs.Field.{front, fields}
use Rattle.fields.proofs.Writing.{write, integer}
use Rattle.claim.specs.Verdict.{entry_at}
use Rattle.claim.specs.Claim.{named_by, equal_kind, passes_at, not_known_to_differ, backs_equal, backs_bounding, backs_reserve, backs, payout_at, earlier, jth}
use Rattle.claim.proofs.Samples.{found, entry, state, asset, plain, guard, holds, n, amount, half, debit, send, raising, drawing}

-- whether the covers of a kind and an index back payout i of entry e
unfoldable backing : List ℕ → (e i : ℕ) → List (ℕ × ℕ) → List Bool
unfolding found passes_at not_known_to_differ backs_equal backs_bounding backs_reserve backs
backing file e i covers =
    let this = (entry_at (fields file) e).this in
    map (λ (k, x). backs (fields file) this (payout_at (fields file) this i) k x) covers

-- two parameters, a debit of n; a.amount is sent, then n / 2
abbrev mixed : List ℕ
mixed = entry (asset "b" ++ asset "a" ++ plain ++ debit n ++ send (amount "a") ++ send (half n))

-- a.amount: the second parameter, which equals it and so bounds it; not the first, no debit, no kind beyond the five
equal-backs : backing mixed 0 0 ((2, 1) ∷ (4, 1) ∷ (2, 0) ∷ (4, 0) ∷ (2, 2) ∷ (1, 0) ∷ (3, 0) ∷ (5, 0) ∷ (0, 1) ∷ (6, 1) ∷ [])
    ≡ true ∷ true ∷ false ∷ false ∷ false ∷ false ∷ false ∷ false ∷ false ∷ false ∷ []
unfolding backing
equal-backs = refl

-- n / 2: the debit bounds it and does not equal it
bound-backs : backing mixed 0 1 ((3, 0) ∷ (1, 0) ∷ (3, 1) ∷ (4, 0) ∷ (4, 1) ∷ []) ≡ true ∷ false ∷ false ∷ false ∷ false ∷ []
unfolding backing
bound-backs = refl

-- tokens known to differ bar what equals and what bounds
differing : backing (entry (asset "a" ++ guard (holds "U") ++ send (amount "a"))) 0 0 ((2, 0) ∷ (4, 0) ∷ []) ≡ false ∷ false ∷ []
unfolding backing
differing = refl

-- a reserve: the second state field; with its in-asset guard twice it holds no token
abbrev reserves : List ℕ → List ℕ
reserves guards = state "q" [] ++ state "r" (integer "0") ++ raising guards ++ entry (asset "b" ++ drawing)

reserve-backs : backing (reserves (guard (holds "T"))) 1 0 ((5, 1) ∷ (5, 0) ∷ (5, 2) ∷ (2, 0) ∷ (4, 0) ∷ []) ≡ true ∷ false ∷ false ∷ false ∷ false ∷ []
unfolding backing
reserve-backs = refl

no-token : backing (reserves (guard (holds "T") ++ guard (holds "T"))) 1 0 ((5, 1) ∷ []) ≡ false ∷ []
unfolding backing
no-token = refl

-- kinds 1 and 3 name debits, 2 and 4 parameters
named : map named_by (1 ∷ 2 ∷ 3 ∷ 4 ∷ 5 ∷ []) ≡ 1 ∷ 2 ∷ 1 ∷ 2 ∷ 5 ∷ []
unfolding named_by
named = refl

-- how many payouts of its amount stand before each payout, and the kind and index of its j-th; (0, 0) where there is none
unfoldable counting : List ℕ → List ℕ → List (ℕ × ℕ × ℕ)
unfolding found earlier jth
counting file payouts =
    let this = front file in
    map (λ i.
    let before = earlier (fields file) this i in
    elim (jth (fields file) this i) [ None ↦ (before, 0, 0) | Some b ↦ (before, equal_kind b.source, b.index) ])
    payouts

-- n twice debited, once wrapped, with another debit between, and a.amount debited: debits first, each amount by itself
jth-counted : counting (entry (asset "a" ++ debit n ++ debit (integer "1") ++ debit (write Checked n) ++ debit (amount "a")
    ++ send (amount "a") ++ send n ++ send (amount "a") ++ send n ++ send n)) (0 ∷ 1 ∷ 2 ∷ 3 ∷ 4 ∷ [])
    ≡ (0, 1, 3) ∷ (0, 1, 0) ∷ (1, 2, 0) ∷ (1, 1, 2) ∷ (2, 0, 0) ∷ []
unfolding counting
jth-counted = refl
