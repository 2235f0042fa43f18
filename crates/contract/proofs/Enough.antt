-- 12,608 bytes hold the records of every file: at most 64 entries with at most 64 payouts each. The numbers of a verdict fit in
-- two bytes, so they can be read back.
use Rattle.std.proofs.Common.{ℕ, zero, suc, ◌*◌, ◌≤◌, ◌<◌, ◌≡◌, refl, List, [], arith, length, length-append}
use mathlib.Core.List.{flat_map}
use lib.Seq.{drop-nil}
use Rattle.fields.specs.Field.{Field, fields, nothing}
use Rattle.model.specs.Model.{entries}
use Rattle.questions.specs.Questions.{Asked, passes, fails, ask_file}
use Rattle.matching.specs.Matching.{Reason}
use Rattle.matching.specs.Matching.Reason.{split_without_amount, conflict_at_equal, amount_taken, conflict_at_bounding, no_reserve, reserve_used}
use Rattle.claim.specs.Verdict.{Verdict, refused, rejected, accepted, entry_at, verdict, entry_verdict, first_of, second_of, written, reason}
use Rattle.verdict.proofs.Asking.{ninth}
use Rattle.verdict.proofs.Running.{sheet-long}
use Rattle.contract.specs.Records.{two_bytes, recorded, verdict_on, record_on, below, at_least_one, records, covers_enough}
use Rattle.contract.specs.Each.{each_record, records_enough}
use Rattle.contract.proofs.Below.{each-short}
use Rattle.contract.proofs.Passed.{few-entries, accepted-few}
use Rattle.contract.proofs.Fine.{Fine, fine-file, most_in_two_bytes}
use Rattle.contract.proofs.Said.{Said, entry-said, spare-few}

-- the two numbers of a verdict on an entry fit in two bytes, and an accepted entry has at most 64 payouts
pub record Fitting (entry : Field) (v : Verdict) : Type 0 where
  pub first_fits : first_of v < 65536
  pub second_fits : second_of entry v < 65536
  pub covers-few : length (written v []) ≤ covers_enough

reason-few : (r : Reason) → reason r < 65536
unfolding reason
reason-few split_without_amount = omega arith
reason-few conflict_at_equal = omega arith
reason-few amount_taken = omega arith
reason-few conflict_at_bounding = omega arith
reason-few no_reserve = omega arith
reason-few reserve_used = omega arith

refusal-fits : (entry : Field) (k p : ℕ) → k < 100 → p ≤ most_in_two_bytes → Fitting entry (refused k p)
unfolding first_of second_of written
refusal-fits entry k p g h = record { first_fits = omega (arith, g); second_fits = omega (arith, h); covers-few = omega arith }

module _ (file : List ℕ) (f : ask_file file ≡ passes) (n : ℕ) where
  pub on-entry : verdict_on file n ≡ entry_verdict (fields file) n covers_enough
  unfolding verdict_on verdict
  on-entry = rw (verdict_on, verdict, f)

  abbrev this : Field
  this = (entry_at (fields file) n).this

  pub entry-fits : n < length (entries (fields file)) → Fitting this (verdict_on file n)
  unfolding first_of second_of written
  entry-fits h = rw on-entry (go (entry_verdict (fields file) n covers_enough) refl (entry-said file f n h))
    where
      go : (v : Verdict) → entry_verdict (fields file) n covers_enough ≡ v → Said 64 v → Fitting this v
      go (refused k p) e s = refusal-fits this k p s.0 s.1
      go (rejected k r) e s = record { first_fits = omega (arith, s); second_fits = reason-few r; covers-few = omega arith }
      go (accepted cs) e s =
          let few : length cs ≤ 64 = accepted-few (fields file) n covers_enough cs e refl in
          record {
            first_fits = omega (arith, few);
            second_fits = omega (arith, spare-few (fields file) n cs e);
            covers-few = rw (drop-nil (3 * length cs), length-append, sheet-long cs) (omega (arith, few));
          }

-- of each entry that is asked about, also where there is none
few-asked : (n : ℕ) → n ≤ 64 → at_least_one n ≤ 64
unfolding at_least_one
few-asked zero h = omega arith
few-asked (suc n) h = h

at_least : (n : ℕ) → n ≤ at_least_one n
unfolding at_least_one
at_least zero = omega arith
at_least (suc n) = omega arith

pub asked-fits : (file : List ℕ) → ask_file file ≡ passes → (n : ℕ) → n < at_least_one (length (entries (fields file))) → Fitting (entry_at (fields file) n).this (verdict_on file n)
unfolding at_least_one
asked-fits file f n h = go (length (entries (fields file))) refl h
  where
    go : (k : ℕ) → length (entries (fields file)) ≡ k → n < at_least_one k → Fitting (entry_at (fields file) n).this (verdict_on file n)
    go zero e g = rw (on-entry file f n, ninth (fields file) n covers_enough (omega (arith, e))) (refusal-fits (entry_at (fields file) n).this 9 0 (omega arith) (omega arith))
    go (suc k) e g = entry-fits file f n (omega (arith, e, g))

-- of a refusal by questions 1 to 8
pub file-fits : (file : List ℕ) (k p : ℕ) → ask_file file ≡ fails k p → Fitting nothing (refused k p)
file-fits file k p e = let s : Fine most_in_two_bytes (fails k p) = rw e at (fine-file file) in refusal-fits nothing k p s.0 s.1

record-short : (entry : Field) (v : Verdict) → Fitting entry v → length (recorded entry v) ≤ 197
unfolding recorded two_bytes
record-short entry v f = omega (arith, f.covers-few)

-- those of the first entries, or of the one that is asked about where there is none
first_short : (file : List ℕ) → ask_file file ≡ passes → (k : ℕ) → k ≤ at_least_one (length (entries (fields file))) → length (flat_map (record_on file) (below k)) ≤ records_enough
unfolding record_on
first_short file e k h =
    let each : length (flat_map (record_on file) (below k)) ≤ k * 197 =
    each-short (record_on file) 197 k (λ n g. record-short (entry_at (fields file) n).this (verdict_on file n) (asked-fits file e n (omega (arith, g, h)))) in
    omega (arith, each, h, few-asked (length (entries (fields file))) (few-entries file e))

refusal-short : (file : List ℕ) (k p : ℕ) → ask_file file ≡ fails k p → length (recorded nothing (refused k p)) ≤ records_enough
refusal-short file k p e = omega (arith, record-short nothing (refused k p) (file-fits file k p e))

-- for every file
pub enough : (file : List ℕ) → length (records file) ≤ records_enough
unfolding records
enough file = go (ask_file file) refl
  where
    go : (a : Asked) → ask_file file ≡ a → length (records file) ≤ records_enough
    go (fails k p) e = rw (records, e) (refusal-short file k p e)
    go passes e = rw (records, e) (first_short file e (at_least_one (length (entries (fields file)))) (omega arith))

-- and as the code writes them, entry by entry
pub each-enough : (file : List ℕ) → length (each_record file) ≤ records_enough
unfolding each_record
each-enough file = go (ask_file file) refl
  where
    go : (a : Asked) → ask_file file ≡ a → length (each_record file) ≤ records_enough
    go (fails k p) e = rw (each_record, e) (refusal-short file k p e)
    go passes e = rw (each_record, e) (first_short file e (length (entries (fields file))) (at_least (length (entries (fields file)))))
