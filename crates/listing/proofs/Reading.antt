-- What is read off a record, its lines, and the records one after the other.
use Rattle.std.specs.List.{enumerate_from}
use Rattle.std.proofs.Common.{Result, Ok, Err, ℕ, zero, suc, ◌+◌, ◌*◌, ◌<◌, ◌≡◌, refl, ap, List, [], ◌∷◌, arith, add-one, ne_eqb, length, get_or, take, drop, take_all, take-suc}
use mathlib.Core.List.{flat_map}
use Rattle.output.specs.Writes.{Writes}
use Rattle.output.specs.declared.Output.{Output}
use Rattle.output.proofs.Buffer.{writes-none, writes_then}
use Rattle.verdict.specs.Outcomes.{outcome_number, IsOutcome}
use Rattle.verdict.specs.declared.numbers.Outcome.{Outcome}
use Rattle.verdict.specs.declared.numbers.Outcome.TheVariants.{Accepted, Rejected, Refused}
use Rattle.verdict.specs.declared.numbers.UnknownOutcome.{UnknownOutcome}
use Rattle.contract.specs.Records.{below}
use Rattle.contract.specs.Reading.{outcome_in, first_in, second_in, size_of}
use Rattle.contract.proofs.Below.{each-then}
use Rattle.listing.specs.Decimal.{decimal}
use Rattle.listing.specs.Listing.{line, refusal_line, accepted_line, rejected_line}
use Rattle.listing.specs.Coded.{cover_line_at, lines_of, text_of}
use Rattle.listing.specs.Reading.{first_records}

-- the size and the lines go by what the record is
module _ (s : List ℕ) where
  pub size-covers : 0 ≡ outcome_in s → (first : ℕ) → first ≡ first_in s → (wide : ℕ) → wide ≡ first → 5 + 3 * wide ≡ size_of s
  unfolding size_of
  size-covers e first f wide g = rw (← e, ← f, g)

  pub size-alone : (what : Outcome) → outcome_number what ≡ outcome_in s → (what ≡ Accepted → ⊥) → 5 ≡ size_of s
  unfolding size_of
  size-alone Accepted e z = absurd (z refl)
  size-alone Rejected e z = rw (← e)
  size-alone Refused e z = rw (← e)

  pub size-unknown : 2 < outcome_in s → 5 ≡ size_of s
  unfolding size_of
  size-unknown h = rw (ne_eqb (outcome_in s) 0 (λ z. omega (arith, h, z)))

-- an acceptance is neither a refusal nor a rejection, and what is no outcome is neither
module _ (number : ℕ) (read : Result Outcome UnknownOutcome) (e : IsOutcome number read) where
  pub neither-accepted : read ≡ Ok Accepted → (number ≡ 2 → ⊥) × (number ≡ 1 → ⊥)
  neither-accepted f = let g : 0 ≡ number = rw f at e in (λ h. omega (arith, g, h), λ h. omega (arith, g, h))

  pub neither-unknown : (unknown : UnknownOutcome) → read ≡ Err unknown → (number ≡ 2 → ⊥) × (number ≡ 1 → ⊥)
  neither-unknown unknown f = let g = rw f at e in (λ h. omega (arith, g.1, h), λ h. omega (arith, g.1, h))

module _ (n : ℕ) (s : List ℕ) (first : ℕ) (f : first ≡ first_in s) (a b : Output) where
  pub lines-rejected : 1 ≡ outcome_in s → Writes (line (0x65 ∷ []) (decimal n ∷ (0x6E ∷ 0x6F ∷ []) ∷ decimal first ∷ [])) a b → Writes (lines_of n s) a b
  unfolding lines_of rejected_line
  lines-rejected e w = rw (← e, ← f) w

  module _ (second : ℕ) (g : second ≡ second_in s) where
    pub lines-refused : 2 ≡ outcome_in s → Writes (line (0x72 ∷ []) (decimal first ∷ decimal second ∷ [])) a b → Writes (lines_of n s) a b
    unfolding lines_of refusal_line
    lines-refused e w = rw (← e, ← f, ← g) w

    pub lines-accepted : (outcome_in s ≡ 2 → ⊥) → (outcome_in s ≡ 1 → ⊥) →
        Writes (line (0x65 ∷ []) (decimal n ∷ (0x6F ∷ 0x6B ∷ []) ∷ decimal first ∷ decimal second ∷ [])) a b →
        (covers : List ℕ) → covers ≡ drop 5 s → (c : Output) → Writes (flat_map (cover_line_at covers) (below first)) b c → Writes (lines_of n s) a c
    unfolding lines_of accepted_line
    lines-accepted y z w covers k c x =
        rw (ne_eqb (outcome_in s) 2 y, ne_eqb (outcome_in s) 1 z, ← f, ← g, ← k)
        (writes_then a (accepted_line n first second) (flat_map (cover_line_at covers) (below first)) b c w x)

-- Records one after the other

module _ (s : List ℕ) (n : ℕ) where
  pub records-end : n < 1 → first_records n s ≡ []
  unfolding first_records
  records-end h = let e : n ≡ 0 = omega (arith, h) in rw e

  pub records-next : (k : ℕ) → n ≡ k + 1 → (size : ℕ) → size ≡ size_of s → (rest : List ℕ) → rest ≡ drop size s → first_records n s ≡ s ∷ first_records k rest
  unfolding first_records
  records-next k e size f rest g = rw (e, add-one k, g, f)

pub records-count : (n : ℕ) (s : List ℕ) → length (first_records n s) ≡ n
unfolding first_records
records-count zero s = refl
records-count (suc n) s = ap suc (records-count n (drop (size_of s) s))

-- each with its number
abbrev pub numbered_lines : ℕ × List ℕ → List ℕ
numbered_lines p = lines_of p.0 p.1

all-lines : (count n : ℕ) (s : List ℕ) → text_of count n s ≡ flat_map numbered_lines (enumerate_from n (first_records count s))
unfolding text_of first_records flat_map
all-lines zero n s = refl
all-lines (suc count) n s = rw (all-lines count (suc n) (drop (size_of s) s), add-one n)

-- of the first ones, as many as are counted, they are written
pub record Lined (count : ℕ) (s : List ℕ) (start output : Output) (n : ℕ) : Type 0 where
  pub so_far : Writes (flat_map numbered_lines (take n (enumerate_from 0 (first_records count s)))) start output

module _ (count : ℕ) (s : List ℕ) (start : Output) where
  pub lined-none : Lined count s start start 0
  unfolding flat_map
  lined-none = record { so_far = writes-none start }

  abbrev all : List (ℕ × List ℕ)
  all = enumerate_from 0 (first_records count s)

  module _ (n : ℕ) (output : Output) (l : Lined count s start output n) where
    pub lined-on : (number : ℕ) (front : List ℕ) → (n < length all) × ((number, front) ≡ get_or all n (number, front)) → (after : Output) → Writes (lines_of number front) output after →
        Lined count s start after (n + 1)
    lined-on number front h after w =
        record {
          so_far = rw (add-one n, take-suc all n (number, front) h.0, ← h.1, each-then numbered_lines (take n all) (number, front))
              (writes_then start (flat_map numbered_lines (take n all)) (lines_of number front) output after l.so_far w);
        }

    pub lined-all : n ≡ length all → Writes (text_of count 0 s) start output
    lined-all h = rw (all-lines count 0 s) (rw (take_all n all (omega (arith, h))) at l.so_far)
