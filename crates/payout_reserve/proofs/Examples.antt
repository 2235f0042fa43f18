-- The answers computed: each question's "no" with its place, each boundary on both sides, covered or not.
use Rattle.std.proofs.Common.{ℕ, ◌≡◌, refl, List, [], ◌∷◌, ◌++◌, map, replicate}
use Rattle.tags.specs.Tag.{Entry, String}
use Rattle.fields.proofs.Writing.{write, integer, identifier, times, nots}
use Rattle.reserves.specs.States.{state_index}
use Rattle.claim.specs.Reserve.{payout_reserve}
use Rattle.claim.proofs.Samples.{found, entry, state, asset, guard, in_asset, send, drawing, k11, k12, again}
use Rattle.payout_reserve.specs.Answer.{ReserveAnswer, covered_by, entry_reserve, file_reserve}
use Rattle.payout_reserve.specs.Answer.ReserveAnswer.{refused, covered, uncovered}

-- a file, the entry and the payout asked about, and the answer
record Example : Type 0 where
  file : List ℕ
  entry_number : ℕ
  payout : ℕ
  expected : ReserveAnswer

abbrev about : List ℕ → (n k : ℕ) → ReserveAnswer → Example
about f n k a = record { file = f; entry_number = n; payout = k; expected = a }

-- of the first payout of the first entry
abbrev first : List ℕ → ReserveAnswer → Example
first f a = about f 0 0 a

examples : List Example
examples =
    -- 1: 32,769 bytes; 32,768 pass, and the file has no entry
    first (replicate 32769 0) (refused 1 0) ∷
    first (state "r" (write String (replicate 32752 0x20))) (refused 9 0) ∷
    -- 2 and 3: a cut head; no such tag
    first (k11 ++ (0x03 ∷ 0x00 ∷ [])) (refused 2 213) ∷
    first (k11 ++ write 0x07 []) (refused 3 213) ∷
    -- 4: depth 33; depth 32 passes
    first (entry (guard (nots 32 in_asset))) (refused 4 106) ∷
    first (entry (guard (nots 31 in_asset))) uncovered ∷
    -- 5 and 6: an empty name; no name
    first (entry (guard (identifier ""))) (refused 5 10) ∷
    first (k11 ++ write Entry []) (refused 6 213) ∷
    -- 7: a name for the second time
    about (k11 ++ state "r" []) 1 0 (refused 7 213) ∷
    about (k11 ++ state "q" []) 1 0 (covered 0) ∷
    -- 8: 65 entries; 64 pass
    about (k11 ++ times 63 (entry [])) 1 0 (refused 8 647) ∷
    about (k11 ++ times 62 (entry [])) 1 0 (covered 0) ∷
    -- 9: the entry past the last, and the last; an empty file
    about k11 2 0 (refused 9 0) ∷
    about k11 1 0 (covered 0) ∷
    first [] (refused 9 0) ∷
    -- an entry without payouts; the payout past the last
    about k11 0 0 uncovered ∷
    about k11 1 1 uncovered ∷
    -- the field holds no token; the second field, which two payouts have alike
    about k12 1 0 uncovered ∷
    about again 1 0 (covered 1) ∷
    about again 2 0 (covered 1) ∷
    about again 2 1 (covered 1) ∷
    about again 2 2 uncovered ∷
    -- 65 payouts: question 10 is not asked
    about (k11 ++ entry (asset "b" ++ drawing ++ times 64 (send (integer "1")))) 2 0 (covered 0) ∷
    about (k11 ++ entry (asset "b" ++ drawing ++ times 64 (send (integer "1")))) 2 64 uncovered ∷ []

told : List Example → List ReserveAnswer
unfolding found state_index payout_reserve covered_by entry_reserve file_reserve
told es = map (λ e. file_reserve e.file e.entry_number e.payout) es

stated : List Example → List ReserveAnswer
stated es = map (λ e. e.expected) es

answered : told examples ≡ stated examples
unfolding examples told stated
answered = refl
