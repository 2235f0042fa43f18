-- The entries that the rules work by hand, K1 to K12, each with its verdict, its spare and the listing of its file, computed from
-- the definitions.
use Rattle.std.proofs.Common.{ℕ, ◌≡◌, refl, List, [], ◌∷◌, ◌++◌, map}
use Prim.Native.String.{String}
use mathlib.Core.List.{flat_map}
use Rattle.std.proofs.Common.{Option, None, Some}
use Rattle.laws.specs.Texts.{bytes}
use Rattle.tags.specs.Tag.{Date, Call, Checked, Wrapping}
use Rattle.fields.specs.Field.{fields}
use Rattle.fields.proofs.Writing.{write, word, integer, identifier}
use Rattle.matching.specs.Matching.Cover.{equal_debit, equal_parameter, bounding_debit, reserve}
use Rattle.matching.specs.Matching.Reason.{split_without_amount, conflict_at_equal, amount_taken, no_reserve}
use Rattle.claim.specs.Verdict.{Verdict, refused, rejected, accepted, entry_at, kind, index, spare}
use Rattle.claim.proofs.Samples.{found, entry, asset, plain, guard, statement, caller, holds, n, amount, half, less_one, member, debit, send}
use Rattle.claim.proofs.Samples.{k3, k11, k12}
use Rattle.contract.specs.Records.{below, verdict_on}
use Rattle.listing.specs.Decimal.{digits, decimal}
use Rattle.listing.specs.Listing.{refusal_line, accepted_line, rejected_line, cover_line, entry_lines, listing}

-- lines as the listing has them
abbrev pub lines : List String → List ℕ
lines [] = []
lines (l ∷ ls) = bytes l ++ 0x0A ∷ lines ls

-- the listing of a file
unfoldable pub listed : List ℕ → List ℕ
unfolding found kind index spare digits decimal refusal_line accepted_line rejected_line cover_line entry_lines below listing flat_map
listed file = listing file

-- a row: a file, the entry asked about, the verdict on it, its spare if it is accepted, and the lines of the file's listing
record Row : Type 0 where
  file : List ℕ
  number : ℕ
  verdict : Verdict
  spare : Option ℕ
  lines : List String

abbrev about : List ℕ → ℕ → Verdict → Option ℕ → List String → Row
about f e v s ls = record { file = f; number = e; verdict = v; spare = s; lines = ls }

-- a row about the only entry of a file
abbrev one : List ℕ → Verdict → Option ℕ → List String → Row
one c v s ls = about (entry c) 0 v s ls

-- the spare of an entry, where it is accepted
abbrev spare_of : List ℕ → ℕ → Option ℕ
spare_of file n =
    elim (verdict_on file n) [
      | accepted cs ↦ Some (spare (entry_at (fields file) n).this)
      | rejected payout r ↦ None
      | refused question place ↦ None
    ]

-- what the definitions say of each row
unfoldable computed : List Row → List (Verdict × Option ℕ × List ℕ)
unfolding listed verdict_on
computed rs = map (λ r. (verdict_on r.file r.number, spare_of r.file r.number, listed r.file)) rs

-- what each row states
abbrev stated : List Row → List (Verdict × Option ℕ × List ℕ)
stated rs = map (λ r. (r.verdict, r.spare, lines r.lines)) rs

-- a, b are asset parameters, n a plain one, payouts go to the caller in token T
k : List Row
k =
    -- K1 no send: ok
    one (asset "a" ++ plain ++ debit n) (accepted []) (Some 2) ("e 0 ok 0 2" ∷ []) ∷
    -- K2 send_asset with two arguments: ok, 0 payouts
    one (asset "a" ++ statement (write Call (identifier "send_asset" ++ identifier "T" ++ caller))) (accepted []) (Some 1) ("e 0 ok 0 1" ∷ []) ∷
    -- K3 the file of 66 bytes as the rules print it
    about k3 0 (accepted (equal_parameter 0 ∷ [])) (Some 0) ("e 0 ok 1 0" ∷ "p 0 2 0" ∷ []) ∷
    -- K4 a.amount sent twice: no 1
    one (asset "a" ++ send (amount "a") ++ send (amount "a")) (rejected 1 amount_taken) None ("e 0 no 1" ∷ []) ∷
    -- K5 K3's entry with a guard in-asset == U: no 0
    one (asset "a" ++ guard (holds "U") ++ send (amount "a")) (rejected 0 conflict_at_equal) None ("e 0 no 0" ∷ []) ∷
    -- K6 debit 10, send 1_0: kind 1; send 010: no 0
    one (debit (integer "10") ++ send (integer "1_0")) (accepted (equal_debit 0 ∷ [])) (Some 0) ("e 0 ok 1 0" ∷ "p 0 1 0" ∷ []) ∷
    one (debit (integer "10") ++ send (integer "010")) (rejected 0 no_reserve) None ("e 0 no 0" ∷ []) ∷
    -- K7 debit n, send n/2: kind 3; wrapping(n-1): no 0; wrapping(checked(n-1)): kind 3
    one (plain ++ debit n ++ send (half n)) (accepted (bounding_debit 0 ∷ [])) (Some 0) ("e 0 ok 1 0" ∷ "p 0 3 0" ∷ []) ∷
    one (plain ++ debit n ++ send (write Wrapping (less_one n))) (rejected 0 no_reserve) None ("e 0 no 0" ∷ []) ∷
    one (plain ++ debit n ++ send (write Wrapping (write Checked (less_one n)))) (accepted (bounding_debit 0 ∷ [])) (Some 0)
    ("e 0 ok 1 0" ∷ "p 0 3 0" ∷ []) ∷
    -- K8 debit a date, send it: no 0
    one (debit (word Date "2026-11-10") ++ send (word Date "2026-11-10")) (rejected 0 no_reserve) None ("e 0 no 0" ∷ []) ∷
    -- K9 debit n, send n/2 then n: no 1
    one (plain ++ debit n ++ send (half n) ++ send n) (rejected 1 amount_taken) None ("e 0 no 1" ∷ []) ∷
    -- K10 send a.split(): no 0
    one (asset "a" ++ send (member "a" "split" [])) (rejected 0 split_without_amount) None ("e 0 no 0" ∷ []) ∷
    -- K11 state r default 0; another entry, with a, guards in-asset == T and does r += a.amount; here, with b as the only asset
    -- parameter, guard r >= b.amount*2, r -= b.amount*2, send b.amount*2: kind 5, spare 0
    about k11 1 (accepted (reserve 0 ∷ [])) (Some 0) ("e 0 ok 0 1" ∷ "e 1 ok 1 0" ∷ "p 0 5 0" ∷ []) ∷
    -- K12 as K11 with that in-asset guard written twice: no 0
    about k12 1 (rejected 0 no_reserve) None ("e 0 ok 0 1" ∷ "e 1 no 0" ∷ []) ∷ []

worked : computed k ≡ stated k
unfolding computed k k3
worked = refl
