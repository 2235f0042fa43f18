-- The edges of the rules of tokens, conditions, amounts, bounds and reserves, computed as verdicts; covers as they are written, and
-- reserves by themselves, computed too.
use Rattle.std.proofs.Common.{ℕ, ◌≡◌, refl, List, [], ◌∷◌, ◌++◌, replicate}
use Prim.Native.String.{String}
use Rattle.std.proofs.Common.{None, Some}
use Rattle.tags.specs.Tag.{Genesis, Limits, Denies, Set, AddTo, SubtractFrom, Not, Call, Checked, Wrapping, Or, And, Eq, Ne, Lt, Ge, Add, Sub, Rem, Shr}
use Rattle.tags.specs.Tag.{String as StringTag}
use Rattle.fields.proofs.Writing.{write, word, integer, identifier}
use Rattle.matching.specs.Matching.Cover.{equal_debit, equal_parameter, bounding_debit, bounding_parameter, reserve}
use Rattle.matching.specs.Matching.Reason.{conflict_at_equal, conflict_at_bounding, no_reserve, reserve_used}
use Rattle.claim.specs.Verdict.{rejected, accepted, written, sheet, kind, index}
use Rattle.claim.proofs.Samples.{Row, about, found, stated, left, reserve_in, entry, one, state, asset, plain, guard, statement, caller}
use Rattle.claim.proofs.Samples.{in_asset, holds, n, amount, half, less_one, member, debit, send, double, raising, drawing, k3, k11, k12, again}

-- an entry that funds the map m in the token t
abbrev funding : String → List ℕ → List ℕ
funding t value = entry (asset "a" ++ write Limits (holds t) ++ statement (member "m" "set" (identifier "x" ++ value)))

-- debit n, send n
abbrev same : List ℕ
same = entry (plain ++ debit n ++ send n)

-- the state field r, its default, what raises it, and an entry with b that draws on it
abbrev pool : List ℕ → List ℕ → List ℕ → List ℕ
pool default raised drawn = state "r" default ++ entry (asset "a" ++ raised) ++ entry (asset "b" ++ drawn)

abbrev by_a : List ℕ
by_a = guard (holds "T") ++ write AddTo (identifier "r" ++ amount "a")

edges : List Row
edges =
    -- tokens: a conflict at a bounding backing; the payout's token unknown; two tokens named; wrapped, so peeled
    one (asset "a" ++ guard (holds "U") ++ send (half (amount "a"))) (rejected 0 conflict_at_bounding) ∷
    one (asset "a" ++ guard (holds "U") ++ statement (write Call (identifier "send_asset" ++ word StringTag "T" ++ caller ++ amount "a")))
    (accepted (equal_parameter 0 ∷ [])) ∷
    one (asset "a" ++ guard (holds "U") ++ guard (holds "T") ++ send (amount "a")) (accepted (equal_parameter 0 ∷ [])) ∷
    one (asset "a" ++ guard (write Eq (identifier "U" ++ write Checked in_asset)) ++ send (amount "a")) (rejected 0 conflict_at_equal) ∷
    -- conditions: a denial of != names the token, one of == does not; not, Or and And; a wrapped condition names none
    one (asset "a" ++ write Denies (write Ne (in_asset ++ identifier "U")) ++ send (amount "a")) (rejected 0 conflict_at_equal) ∷
    one (asset "a" ++ write Denies (holds "U") ++ send (amount "a")) (accepted (equal_parameter 0 ∷ [])) ∷
    one (asset "a" ++ write Denies (write Or (identifier "x" ++ write Not (write And (holds "U" ++ identifier "x")))) ++ send (amount "a"))
    (rejected 0 conflict_at_equal) ∷
    one (asset "a" ++ guard (write Checked (holds "U")) ++ send (amount "a")) (accepted (equal_parameter 0 ∷ [])) ∷
    -- a map funded in one other token; in two; by no `p.amount`
    about (funding "U" (write Checked (amount "a")) ++ same) 1 (rejected 0 conflict_at_equal) ∷
    about (funding "U" (amount "a") ++ funding "V" (amount "a") ++ same) 2 (accepted (equal_debit 0 ∷ [])) ∷
    about (funding "U" (half (amount "a")) ++ same) 1 (accepted (equal_debit 0 ∷ [])) ∷
    -- amounts are peeled, what is inside them is not; strings are equal, in-asset is not
    one (debit (write Checked n) ++ send (write Wrapping n)) (accepted (equal_debit 0 ∷ [])) ∷
    one (debit (half (write Checked n)) ++ send (half n)) (rejected 0 no_reserve) ∷
    one (debit (word StringTag "n") ++ send (word StringTag "n")) (accepted (equal_debit 0 ∷ [])) ∷
    one (debit in_asset ++ send in_asset) (rejected 0 no_reserve) ∷
    -- debits before parameters, each once
    one (asset "a" ++ debit (amount "a") ++ send (amount "a") ++ send (amount "a")) (accepted (equal_debit 0 ∷ equal_parameter 0 ∷ [])) ∷
    -- bounds: Wrapping bars Sub below it, and nothing else
    one (debit n ++ send (write Wrapping (write Shr (write Rem (n ++ integer "9") ++ integer "1")))) (accepted (bounding_debit 0 ∷ [])) ∷
    one (debit n ++ send (write Wrapping (half (less_one n)))) (rejected 0 no_reserve) ∷
    one (debit n ++ send (write Sub (integer "1" ++ n))) (rejected 0 no_reserve) ∷
    -- split gives its first argument
    one (asset "a" ++ debit n ++ send (write Checked (member "a" "split" (half n)))) (accepted (bounding_debit 0 ∷ [])) ∷
    -- no payout in a clause, no debit in a clause, by another key or by a wrapped caller
    one (write Limits (write Call (identifier "send_asset" ++ identifier "T" ++ caller ++ n))) (accepted []) ∷
    one (write Limits (member "m" "debit" (caller ++ n)) ++ send n) (rejected 0 no_reserve) ∷
    one (statement (member "m" "debit" (write Checked caller ++ n)) ++ send n) (rejected 0 no_reserve) ∷
    -- a reserve used twice; the second state field, guarded and lowered in the other form; lowered by a wrapping value
    about (pool (integer "0") by_a (drawing ++ send double)) 1 (rejected 1 reserve_used) ∷
    about (state "q" [] ++ pool (integer "0_0") by_a (guard (write Lt (double ++ identifier "r")) ++ write Set (identifier "r" ++ write Sub (identifier "r" ++ double)) ++ send double)) 1
    (accepted (reserve 1 ∷ [])) ∷
    about (pool [] by_a (guard (write Ge (identifier "r" ++ double)) ++ write SubtractFrom (identifier "r" ++ write Wrapping double) ++ send double)) 1 (rejected 0 no_reserve) ∷
    -- a reserve that starts at 1; by genesis; raised by what is credited too; raised by a debit of a map funded in T
    about (pool (integer "1") by_a drawing) 1 (rejected 0 no_reserve) ∷
    about (write Genesis (write Set (identifier "r" ++ integer "1")) ++ pool [] by_a drawing) 1 (rejected 0 no_reserve) ∷
    about (pool [] (by_a ++ statement (member "w" "insert" (identifier "x" ++ amount "a"))) drawing) 1 (rejected 0 no_reserve) ∷
    about (funding "T" (amount "a") ++ pool [] (debit n ++ write Set (identifier "r" ++ write Add (identifier "r" ++ n))) drawing) 2
    (accepted (reserve 0 ∷ [])) ∷
    -- an amount without `p.amount` has no reserve
    about (pool [] by_a (guard (write Ge (identifier "r" ++ n)) ++ write SubtractFrom (identifier "r" ++ n) ++ send n)) 1 (rejected 0 no_reserve) ∷ []

edges-hold : found edges ≡ stated edges
unfolding found edges
edges-hold = refl

-- the covers of K3: kind 2, index 0, and the rest as it was; of K4, which is rejected, and of K3 with too few lent: as they were
sheets : left k3 0 (replicate 5 7) ∷ left (entry (asset "a" ++ send (amount "a") ++ send (amount "a"))) 0 (replicate 6 7)
    ∷ left k3 0 (replicate 2 7) ∷ []
    ≡ (2 ∷ 0 ∷ 0 ∷ 7 ∷ 7 ∷ []) ∷ replicate 6 7 ∷ replicate 2 7 ∷ []
unfolding left k3
sheets = refl

-- two covers, an index above 255 among them
two-covers : written (accepted (bounding_parameter 3 ∷ reserve 258 ∷ [])) (replicate 8 7) ≡ 4 ∷ 0 ∷ 3 ∷ 5 ∷ 1 ∷ 2 ∷ 7 ∷ 7 ∷ []
unfolding written sheet kind index
two-covers = refl

-- as K11, with b.amount itself: the parameter backs the payout, and r covers it all the same
abbrev backed : List ℕ
backed =
    state "r" (integer "0") ++ raising (guard (holds "T"))
    ++ entry (asset "b" ++ guard (write Ge (identifier "r" ++ amount "b")) ++ write SubtractFrom (identifier "r" ++ amount "b") ++ send (amount "b"))

-- the reserves by themselves: of K11, of K12, of two payouts of one amount, of which neither uses it up, and of one that is
-- backed; none of a payout or an entry that is not there
alone : reserve_in k11 1 0 ∷ reserve_in k12 1 0 ∷ reserve_in again 2 0 ∷ reserve_in again 2 1 ∷ reserve_in backed 1 0 ∷ []
    ≡ Some 0 ∷ None ∷ Some 1 ∷ Some 1 ∷ Some 0 ∷ []
unfolding reserve_in
alone = refl

absent : reserve_in k11 1 1 ∷ reserve_in k11 0 0 ∷ reserve_in k11 2 0 ∷ reserve_in [] 0 0 ∷ [] ≡ replicate 4 None
unfolding reserve_in
absent = refl
