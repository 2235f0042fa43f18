-- A record is written piece by piece: what it is, its two numbers, and the covers of an accepted entry.
use Rattle.std.specs.Int.{to_be_bytes}
use mir.Syntax.{w16}
use Rattle.std.proofs.Common.{ℕ, ◌*◌, ◌/◌, ◌%◌, ◌≤◌, ◌≡◌, refl, ap, ◌∙◌, cond, List, [], ◌∷◌, ◌++◌, append-nil, arith, eq-eqb, ne_eqb, eqb, length, take, drop}
use Rattle.std.proofs.Common.{length-append}
use lib.Seq.{drop-nil, take-append_seam}
use Rattle.fields.specs.Field.{Field, fields}
use Rattle.walking.specs.Table.{placed_at}
use Rattle.entries.specs.Entered.{entry_of}
use Rattle.claim.specs.Verdict.{Verdict, refused, rejected, accepted, outcome, first_of, sheet, written}
use Rattle.verdict.specs.Coded.{Told, numbers_of, numbers, placed_verdict}
use Rattle.verdict.specs.Outcomes.{outcome_number, outcome_of}
use Rattle.verdict.specs.declared.numbers.Outcome.{Outcome}
use Rattle.verdict.specs.declared.numbers.Outcome.TheVariants.{Accepted, Rejected, Refused}
use Rattle.verdict.proofs.Numbered.{outcome-told}
use Rattle.verdict.specs.declared.numbers.Numbers.{Numbers}
use Rattle.verdict.proofs.Running.{sheet-long}
use Rattle.output.specs.Writes.{Writes}
use Rattle.output.specs.declared.Output.{Output}
use Rattle.output.proofs.Buffer.{writes_then}
use Rattle.contract.specs.Records.{two_bytes, recorded, covers_enough}
use Rattle.contract.specs.Coded.{head_of, record_of, CoversIn, verdict_at}
use Rattle.contract.specs.Each.{EntryRecorded}

-- the last two bytes of a number, most significant first
pub number-written : (k : ℕ) (bytes : List ℕ) → bytes ≡ to_be_bytes w16 (k % 65536) → (a b : Output) → Writes bytes a b → Writes (two_bytes k) a b
unfolding two_bytes
number-written k bytes e a b w =
    let high : k % 65536 / 256 % 256 ≡ k / 256 % 256 = omega arith in
    let low : k % 65536 % 256 ≡ k % 256 = omega arith in
    rw (← high, ← low, ← e) w

pub head-written : (x : Numbers) (k : ℕ) → k ≡ outcome_number x.outcome → (a b c d : Output) → Writes (k ∷ []) a b →
    Writes (two_bytes x.first) b c → Writes (two_bytes x.second) c d → Writes (head_of x) a d
unfolding head_of
head-written x k e a b c d p q r = rw (← e) (writes_then a (k ∷ []) (two_bytes x.first ++ two_bytes x.second) b d p (writes_then b (two_bytes x.first) (two_bytes x.second) c d q r))

only-accepted : (o : Outcome) → outcome_number o ≡ 0 → o ≡ Accepted
only-accepted Accepted z = refl
only-accepted Rejected z = absurd (omega (arith, z))
only-accepted Refused z = absurd (omega (arith, z))

module _ (x : Numbers) (covers : List ℕ) (a b : Output) (p : Writes (head_of x) a b) where
  -- only an accepted entry has covers
  pub head-alone : (x.outcome ≡ Accepted → ⊥) → Writes (record_of x covers) a b
  unfolding record_of
  head-alone h = rw (ne_eqb (outcome_number x.outcome) 0 (λ z. h (only-accepted x.outcome z)), append-nil) p

  pub covers-behind : x.outcome ≡ Accepted → (s : List ℕ) → s ≡ take (3 * x.first) covers → (c : Output) → Writes s b c → Writes (record_of x covers) a c
  unfolding record_of
  covers-behind h s e c q = rw (eq-eqb (outcome_number x.outcome) 0 (ap outcome_number h), ← e) (writes_then a (head_of x) s b c p q)

-- the numbers and the covers of a verdict make its record
module _ (entry : Field) (v : Verdict) (zeros after : List ℕ) (a : after ≡ written v zeros) (same : length after ≡ length zeros) where
  -- the covers are the first bytes of what is written
  covers-within : CoversIn (numbers entry v) after
  unfolding numbers outcome written first_of
  covers-within = record { within = go v refl }
    where
      go : (w : Verdict) → v ≡ w → outcome_number (outcome_of w) ≡ 0 → 3 * first_of w ≤ length after
      go (accepted cs) e h =
          let l : length after ≡ length (sheet cs ++ drop (3 * length cs) zeros) = ap length (a ∙ ap (λ w. written w zeros) e) in
          omega (arith, rw length-append at l, sheet-long cs)
      go (rejected k q) e h = absurd (omega (arith, h))
      go (refused k q) e h = absurd (omega (arith, h))

  covers-made : written v [] ≡ cond (eqb (outcome v) 0) (take (3 * first_of v) after) []
  unfolding outcome written first_of
  covers-made = go v refl
    where
      go : (w : Verdict) → v ≡ w → written w [] ≡ cond (eqb (outcome w) 0) (take (3 * first_of w) after) []
      go (accepted cs) e =
          let c : after ≡ sheet cs ++ drop (3 * length cs) zeros = a ∙ ap (λ w. written w zeros) e in
          rw (← sheet-long cs, c, take-append_seam, drop-nil, append-nil)
      go (rejected k q) e = refl
      go (refused k q) e = refl

  record-made : recorded entry v ≡ record_of (numbers entry v) after
  unfolding numbers recorded head_of record_of
  record-made = rw (outcome-told v, covers-made)

-- of the entry at a place
module _ (file : List ℕ) (place : ℕ) (before after : List ℕ) (l : length before ≡ covers_enough) (same : length after ≡ length before)
    (x : Told) (e : numbers_of x ≡ numbers (entry_of file place) (placed_verdict (fields file) (placed_at file place) (length before)))
    (a : after ≡ written (placed_verdict (fields file) (placed_at file place) (length before)) before)
    (r : Numbers) (d : r ≡ numbers_of x) where
  told-numbers : r ≡ numbers (entry_of file place) (verdict_at file place)
  told-numbers = d ∙ e ∙ rw l

  told-covers : after ≡ written (verdict_at file place) before
  told-covers = a ∙ rw l

  pub entry-within : CoversIn r after
  entry-within = rw told-numbers (covers-within (entry_of file place) (verdict_at file place) before after told-covers same)

  pub entry-recorded : (b c : Output) → Writes (record_of r after) b c → EntryRecorded file place b c r.outcome
  unfolding numbers
  entry-recorded b c w =
      record {
        what = ap (λ n. outcome_number n.outcome) told-numbers ∙ outcome-told (verdict_at file place);
        bytes = rw (record-made (entry_of file place) (verdict_at file place) before after told-covers same, ← told-numbers) w;
      }
