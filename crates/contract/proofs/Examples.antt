-- Records computed from the definitions, as bytes, and what the entries of a file are together.
use Rattle.std.proofs.Common.{ℕ, ◌≡◌, refl, Bool, true, false, List, [], ◌∷◌, ◌++◌, map, leb, length, take}
use mathlib.Core.List.{flat_map}
use Rattle.fields.proofs.Writing.{integer, times}
use Rattle.claim.specs.Verdict.{kind, index, reason, outcome, first_of, second_of, sheet, written, spare}
use Rattle.claim.proofs.Samples.{found, entry, state, asset, amount, send, k3, k11}
use Rattle.contract.specs.Records.{two_bytes, recorded, verdict_on, record_on, below, at_least_one, records, largest, outcome_of_all}
use Rattle.contract.specs.Reading.{front_number, outcome_in, first_in, second_in, size_of, covers_in, records_from}

unfoldable records_of : List ℕ → List ℕ
unfolding found kind index reason sheet written spare below outcome first_of second_of two_bytes recorded verdict_on record_on at_least_one records flat_map
records_of file = records file

unfoldable together_in : List ℕ → ℕ
unfolding found outcome verdict_on at_least_one largest outcome_of_all
together_in file = outcome_of_all file

-- K11: the first entry raises the reserve, pays nothing out and has a parameter to spare, the second draws on it
k11-records : records_of k11 ≡ 0 ∷ 0 ∷ 0 ∷ 0 ∷ 1 ∷ 0 ∷ 0 ∷ 1 ∷ 0 ∷ 0 ∷ 5 ∷ 0 ∷ 0 ∷ []
unfolding records_of
k11-records = refl

-- an entry that is rejected at its second payout, since the amount is taken, between two others
three : List ℕ
three = entry [] ++ entry (asset "a" ++ send (amount "a") ++ send (amount "a")) ++ entry (asset "a" ++ asset "b" ++ send (amount "b"))

three-records : records_of three ≡ 0 ∷ 0 ∷ 0 ∷ 0 ∷ 0 ∷ 1 ∷ 0 ∷ 1 ∷ 0 ∷ 3 ∷ 0 ∷ 0 ∷ 1 ∷ 0 ∷ 1 ∷ 2 ∷ 0 ∷ 1 ∷ []
unfolding records_of three
three-records = refl

-- a file that question 7 refuses at the place 26 has that record alone, and one without entries that of question 9
file-records : records_of (state "r" [] ++ state "q" [] ++ state "r" []) ∷ records_of [] ∷ [] ≡ (2 ∷ 0 ∷ 7 ∷ 0 ∷ 26 ∷ []) ∷ (2 ∷ 0 ∷ 9 ∷ 0 ∷ 0 ∷ []) ∷ []
unfolding records_of
file-records = refl

-- an entry that question 10 refuses: the place 1,937 takes both bytes
tenth : List ℕ
tenth = entry [] ++ entry (times 65 (send (integer "1")))

tenth-records : records_of tenth ≡ 0 ∷ 0 ∷ 0 ∷ 0 ∷ 0 ∷ 2 ∷ 0 ∷ 10 ∷ 7 ∷ 145 ∷ []
unfolding records_of tenth
tenth-records = refl

-- all accepted, one rejected, one refused, the file refused, no entries
together-examples : together_in k11 ∷ together_in three ∷ together_in (tenth ++ three) ∷ together_in (0x03 ∷ 0x00 ∷ []) ∷ together_in [] ∷ []
    ≡ 0 ∷ 1 ∷ 2 ∷ 2 ∷ 2 ∷ []
unfolding together_in three tenth
together-examples = refl

-- Records read back

-- which of the first records in some bytes are whole
unfoldable whole_in : (count : ℕ) → List ℕ → List Bool
unfolding front_number size_of records_from below
whole_in count bytes = map (λ n. let r = records_from bytes n in leb (size_of r) (length r)) (below count)

-- what the n-th is, its two numbers, and its covers
unfoldable read_in : List ℕ → ℕ → ℕ × ℕ × ℕ × List ℕ
unfolding front_number size_of covers_in records_from
read_in bytes n = let r = records_from bytes n in (outcome_in r, first_in r, second_in r, covers_in r)

-- K3: its 8 bytes are whole, with others behind them too, and 7 of them, 5 or 4 are not
k3-read : read_in (records_of k3) 0 ≡ (0, 1, 0, 2 ∷ 0 ∷ 0 ∷ [])
unfolding records_of read_in k3
k3-read = refl

k3-behind : read_in (records_of k3 ++ 7 ∷ 7 ∷ []) 0 ≡ (0, 1, 0, 2 ∷ 0 ∷ 0 ∷ [])
unfolding records_of read_in k3
k3-behind = refl

k3-whole : map (λ k. whole_in 1 (take k (records_of k3))) (0 ∷ 4 ∷ 5 ∷ 7 ∷ 8 ∷ [])
    ≡ (false ∷ []) ∷ (false ∷ []) ∷ (false ∷ []) ∷ (false ∷ []) ∷ (true ∷ []) ∷ []
unfolding records_of whole_in k3
k3-whole = refl

-- two records, 5 bytes and 8: the second can be cut off by itself, and with the first nothing is left of it; there is no third
k11-read : read_in (records_of k11) 1 ≡ (0, 1, 0, 5 ∷ 0 ∷ 0 ∷ [])
unfolding records_of read_in
k11-read = refl

k11-whole : map (λ k. whole_in 3 (take k (records_of k11))) (4 ∷ 5 ∷ 12 ∷ 13 ∷ [])
    ≡ (false ∷ false ∷ false ∷ []) ∷ (true ∷ false ∷ false ∷ []) ∷ (true ∷ false ∷ false ∷ []) ∷ (true ∷ true ∷ false ∷ []) ∷ []
unfolding records_of whole_in
k11-whole = refl

-- a rejected entry between two others has no covers, whatever the number of its payout
three-read : map (read_in (records_of three)) (0 ∷ 1 ∷ 2 ∷ []) ≡ (0, 0, 0, []) ∷ (1, 1, 3, []) ∷ (0, 1, 1, 2 ∷ 0 ∷ 1 ∷ []) ∷ []
unfolding records_of read_in three
three-read = refl
